use native.Mathlib.Omega.{arith}
use mathlib.Core.List.{◌∷◌}
use Prim.Native.Nat.{◌+◌}
use lib.ListN.{drop}
use Rattle.rules.specs.Lists.{word}
use Rattle.rules.specs.Texts.{decimal, spaced}
use Rattle.text_writer.proofs.Lines.{spaced_next, spaced_none}
use Rattle.text_writer.proofs.Appending.{left_as, left_room, left_more, left_done}
use Rattle.text_writer.proofs.Text.put_numbers.Goals as goal

pub put_number-requires : goal.put_number-requires
put_number-requires c =
    let ns = c.args.numbers.now in
    let i = c.loop-number.number-index in
    left_room (32 ∷ decimal (word ns i)) (spaced (drop (i + 1) ns)) c.requires
    (left_as (spaced_next ns i (omega arith)) c.loop-number.invariant)

pub loop-number-preserved : goal.loop-number-preserved
loop-number-preserved c =
    left_more c.put_number.ensures
    (left_as (spaced_next c.args.numbers.now c.loop-number.number-index (omega arith)) c.loop-number.invariant)

pub returns : goal.returns
returns c =
    let none = spaced_none c.args.numbers.now c.loop-number.number-index (omega arith) in
    left_done (left_as none c.loop-number.invariant)
