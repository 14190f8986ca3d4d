-- `write_in_order` meets its contract. Assumes nothing.
use mathlib.Core.Path.{refl, ◌∙◌}
use Rattle.pgsolver_reader.proofs.Writing.{part_at}
use Rattle.pgsolver_reader.proofs.Widths.{bound_start}
use Rattle.pgsolver_reader.proofs.Ordering.{ordering_start, ordering_turn, ordering_more}
use Rattle.pgsolver_reader.proofs.Source.write_in_order.Goals as goal

pub loop-vertex-init : goal.loop-vertex-init
loop-vertex-init c = (
  refl,
  part_at c.game_words-end.ensures c.requires.part.0,
  c.requires.part.1,
  ordering_start c.requires.begins c.requires.in_order,
  bound_start,
)

pub write_line-written-requires-clause-turn : goal.write_line-written-requires-clause-turn
write_line-written-requires-clause-turn c = (
  ordering_turn c.requires.begins c.loop-vertex.invariant.3 c.loop-vertex-test.true
      c.digits_of-digits.result.count c.digits_of-digits.ensures.1,
  c.loop-vertex-test.true,
)

pub loop-vertex-preserved : goal.loop-vertex-preserved
loop-vertex-preserved c = (
  c.write_line-written.auto.game ∙ c.loop-vertex.invariant.0,
  c.write_line-written.ensures.written,
  c.write_line-written.ensures.emptied,
  ordering_more c.requires.begins c.loop-vertex.invariant.3 c.loop-vertex-test.true
      c.digits_of-digits.result.count c.digits_of-digits.ensures.1
      c.write_line-written.result.next c.write_line-written.ensures.same_line c.past_line-line.ensures,
  c.digits_of-digits.ensures.0,
)
