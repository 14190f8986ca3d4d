-- What follows from the shape that the code has read for a node. Assumes nothing.
use Prim.Native.Nat.{ℕ, suc}
use mathlib.Core.Path.{◌≡◌, sym, ap, ◌∙◌}
use mathlib.Core.Bool.{Bool}
use mathlib.Core.List.{List}
use Rattle.rules.specs.Table.{Shape, size, operand, tree_end}
use Rattle.rules.specs.Refusal.{wrong_operand}
use Rattle.table_words.specs.declared.shapes.Arity.{Arity}
use Rattle.table_words.specs.declared.shapes.OperandRule.{OperandRule}
use Rattle.table_words.specs.declared.shapes.Shape.{Shape as Said}
use Rattle.table_words.specs.Shapes.{shape_in, children_in, rule_in}
use Rattle.table_words.specs.Tables.{children_of, bad_in}

module _ (shapes : List ℕ → ℕ → Shape) (ws : List ℕ) (v : ℕ) (s : Said) (e : shape_in s ≡ shapes ws v) where
  pub has_children : {a : Arity} → s.arity ≡ a → children_of shapes ws v ≡ children_in a
  has_children i = ap (λ t. t.children) (sym e) ∙ ap children_in i

  pub judged_by : (unnamed_at : ℕ → Bool) {r : OperandRule} → s.rule ≡ r
      → wrong_operand unnamed_at (operand ws v) (tree_end (children_of shapes ws) (size ws) (suc v)) (rule_in r)
      ≡ bad_in shapes unnamed_at ws v
  judged_by unnamed_at i =
      ap (wrong_operand unnamed_at (operand ws v) (tree_end (children_of shapes ws) (size ws) (suc v)))
      (ap rule_in (sym i) ∙ ap (λ t. t.rule) e)
