-- `write_vertices` meets its contract. Assumes nothing.
use native.Mathlib.Omega.{arith}
use mathlib.Core.Path.{ap}
use Rattle.pgsolver_check.specs.Numbers.{in_turn}
use Rattle.pgsolver_reader.proofs.Assembling.{part_start, all_posted}
use Rattle.pgsolver_reader.proofs.Source.write_vertices.Goals as goal

pub write_in_order-requires-clause-in_order : goal.write_in_order-requires-clause-in_order
unfolding in_turn
write_in_order-requires-clause-in_order c = c.requires.ready.order (ap in_turn c.in-InOrder.is)

pub write_in_order-requires-clause-part : goal.write_in_order-requires-clause-part
write_in_order-requires-clause-part c = (part_start c.requires.ready.room, c.requires.unmarked)

pub write_posted-requires-clause-posted_from : goal.write_posted-requires-clause-posted_from
write_posted-requires-clause-posted_from c = all_posted c.requires.ready.given c.post_lines.ensures

pub write_posted-requires-clause-part : goal.write_posted-requires-clause-part
write_posted-requires-clause-part c = (
  part_start (omega (arith, c.post_lines.auto.game, c.requires.ready.room)),
  c.requires.unmarked,
)
