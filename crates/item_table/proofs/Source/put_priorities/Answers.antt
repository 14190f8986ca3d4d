-- The priorities listed in a table that was cleared before. Assumes nothing.
use mathlib.Core.Path.{subst}
use mathlib.Core.List.{List}
use Prim.Native.Nat.{ℕ}
use Rattle.rules.specs.Lists.{zeros}
use Rattle.rules.specs.Depth.{by_depth}
use Rattle.modal_equation_system.specs.System.{RankedBy}
use Rattle.item_table.proofs.Source.put_priorities.Goals as goal

pub returns-clause-ranked_by : goal.returns-clause-ranked_by
unfolding zeros
returns-clause-ranked_by c =
    let s = c.args.self.now in
    subst (λ (before : List ℕ). RankedBy by_depth s.input.formula.now s.table.now.count before c.list_priorities.new.priorities)
    (c.fill.ensures.after (λ y e. e)) c.list_priorities.ensures
