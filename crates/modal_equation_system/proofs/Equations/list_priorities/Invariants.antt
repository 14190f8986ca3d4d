-- The table shows the priorities of the equations before this one. Assumes nothing.
use Rattle.rules.specs.Depth.{by_depth}
use Rattle.modal_equation_system.specs.System.{RankedBy}
use Rattle.modal_equation_system.proofs.Equations.list_priorities.Given as goal

abbrev pub invariant-loop-equation : goal.invariant-loop-equation
invariant-loop-equation l =
    RankedBy by_depth l.self.formula.now l.equation l.initial.priority-items l.priority-items
