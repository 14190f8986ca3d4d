-- What the kinds of nodes say of their nodes, as the rules say it. Assumes nothing: these are definitions.
use Rattle.std.specs.Prelude.{ℕ, Result}
use Rattle.std.specs.declared.result.Result.TheVariants.{Ok, Err}
use Rattle.rules.specs.Table.{Shape, OperandRule, zero_operand, right_child, outside_name, not_judged}
use Rattle.rules.specs.Table.{decode_action, action_shape, decode_regular, regular_shape, decode_formula, formula_shape}
use Rattle.node_kinds.specs.declared.ActionKind.{ActionKind}
use Rattle.node_kinds.specs.declared.RegularKind.{RegularKind}
use Rattle.node_kinds.specs.declared.FormulaKind.{FormulaKind}
use Rattle.node_kinds.specs.declared.UnknownKind.{UnknownKind}
use Rattle.node_kinds.specs.Codes.{action_code, regular_code, formula_code}
use Rattle.table_words.specs.declared.shapes.Arity.{Arity}
use Rattle.table_words.specs.declared.shapes.Arity.TheVariants.{Leaf, Single, Pair}
use Rattle.table_words.specs.declared.shapes.OperandRule.{OperandRule as Rule}
use Rattle.table_words.specs.declared.shapes.OperandRule.TheVariants.{Zero, RightChild, OutsideName, NotJudged}
use Rattle.table_words.specs.declared.shapes.Shape.{Shape as Said}

abbrev pub children_in : Arity → ℕ
children_in Leaf = 0
children_in Single = 1
children_in Pair = 2

abbrev pub rule_in : Rule → OperandRule
rule_in Zero = zero_operand
rule_in RightChild = right_child
rule_in OutsideName = outside_name
rule_in NotJudged = not_judged

abbrev pub shape_in : Said → Shape
shape_in s = record { children = children_in s.arity; rule = rule_in s.rule }

-- a kind's shape, whatever operand its node has
abbrev pub action_kind_shape : ActionKind → Shape
action_kind_shape k = action_shape (decode_action (action_code k) 0)

abbrev pub regular_kind_shape : RegularKind → Shape
regular_kind_shape k = regular_shape (decode_regular (regular_code k) 0)

abbrev pub formula_kind_shape : FormulaKind → Shape
formula_kind_shape k = formula_shape (decode_formula (formula_code k) 0)

-- the shape of what a word was read as: a word that stands for no kind is that of a node that is not judged
abbrev pub shape_read : {K : Type 0} → (K → Shape) → Result K UnknownKind → Shape
shape_read of_kind (Ok k) = of_kind k
shape_read of_kind (Err e) = record { children = 0; rule = not_judged }
