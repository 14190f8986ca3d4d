-- The measure is twice the number of nodes from a node on; the star of a node comes just before it, and so does a
-- choice after the node that is one.
use Prim.Native.Nat.{◌+◌, ◌-◌, ◌*◌}
use Rattle.rules.specs.Table.{size}
use Rattle.expanding.proofs.modal.+modal.Given as goal

abbrev pub decreases-write_modal : goal.decreases-write_modal
decreases-write_modal l = 2 * (size l.regulars.now - l.node)

abbrev pub decreases-write_choice : goal.decreases-write_choice
decreases-write_choice l = 2 * (size l.regulars.now - l.node) - 1

abbrev pub decreases-write_star : goal.decreases-write_star
decreases-write_star l = 2 * (size l.regulars.now - l.node) + 1
