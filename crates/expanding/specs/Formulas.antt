-- A node of the formula handed over, written as it is expanded. Assumes nothing: these are definitions.
use Rattle.std.specs.Prelude.{◌≡◌, ℕ, ◌+◌, List, map}
use Rattle.lists.specs.Shapes.{Falling}
use Rattle.writing.specs.FormulaReading.{syntax_at, Complete}
use Rattle.regular_rules.specs.Regular.{regular_tree}
use Rattle.regular_rules.specs.Expand.{expand}
use Rattle.regular_rules.specs.Sizes.{size_at}
use Rattle.expanding.specs.declared.table.Part.{Part}
use Rattle.expanding.specs.declared.formula.TheConstants.{PENDING}
use Rattle.expanding.specs.Parts.{SameFrom, Stands}

-- what stands for a fixpoint of the formula handed over that is not written yet
abbrev pub pending : ℕ → ℕ
pending u = PENDING + u

-- node u was written up to node `end`, and stands in part q, where none of the fixpoints around it is written yet
pub record FormulaWritten (regs f : List ℕ) (u end : ℕ) (ws vs : List ℕ) (q : Part) : Type 0 where
  pub rest : SameFrom end ws vs
  pub begins : q.start + size_at regs f u ≡ end
  pub ends : q.end ≡ end
  pub stands : (around : List ℕ) → Complete f around u → Falling u around
      → Stands (expand (syntax_at (regular_tree regs) f around u)) (map pending around) q vs
