-- `post_lines` meets its contract. Assumes nothing.
use mathlib.Core.Path.{refl, ◌∙◌}
use native.Mathlib.Omega.{arith}
use Rattle.pgsolver_reader.proofs.Posting.{posting_start, posting_stands, posting_below, posting_later}
use Rattle.pgsolver_reader.proofs.Posting.{posting_more, posting_done}
use Rattle.pgsolver_reader.proofs.Source.post_lines.Goals as goal

pub loop-place-init : goal.loop-place-init
loop-place-init c = (refl, posting_start c.args.game.now c.requires.0 c.requires.1)

pub known_field-number-requires : goal.known_field-number-requires
known_field-number-requires c =
    posting_stands c.args.self.now.whole c.requires.0 c.loop-place.invariant.1 c.loop-place-test.true

pub post-requires : goal.post-requires
post-requires c =
    let number = c.known_field-number.result in (
      posting_below c.args.self.now.whole c.requires.0 c.loop-place.invariant.1 c.loop-place-test.true
          number.value number.next c.known_field-number.ensures,
      c.args.self.now.whole.few,
      c.loop-place.invariant.1.long,
    )

pub loop-place-smaller : goal.loop-place-smaller
loop-place-smaller c =
    let number = c.known_field-number.result in
    omega (
      arith,
      c.loop-place-test.true,
      c.past_line-place.ensures,
      posting_later c.args.self.now.whole c.requires.0 c.loop-place.invariant.1 c.loop-place-test.true
          number.value number.next c.known_field-number.ensures,
    )

pub loop-place-preserved : goal.loop-place-preserved
loop-place-preserved c =
    let number = c.known_field-number.result in (
      c.post.auto.game ∙ c.loop-place.invariant.0,
      posting_more c.args.self.now.whole c.requires.0 c.loop-place.invariant.1 c.loop-place-test.true
          number.value number.next c.known_field-number.ensures c.post.ensures
          c.past_line-place.ensures,
    )

pub returns : goal.returns
returns c = posting_done c.requires.0 c.loop-place.invariant.1 c.loop-place-test.false
