-- The nodes before the reader's are listed. Assumes nothing.
use Rattle.modal_equation_system.specs.Listing.{Listing}
use Rattle.modal_equation_system.proofs.EquationTable.list_equations.Given as goal

abbrev pub invariant-loop-node : goal.invariant-loop-node
invariant-loop-node l = Listing l.formula l.node l.self
