-- The laws of the kinds of nodes: a node has the shape of the kind that its word was read as, in every table. Assumes
-- nothing.
use Rattle.std.specs.Prelude.{ℕ, List, ◌≡◌, ◌<◌, Result}
use Rattle.std.proofs.Common.{sym, ap}
use Rattle.std.proofs.Math.Nat.{le_of_lt}
use Rattle.std.specs.declared.result.Result.TheVariants.{Ok, Err}
use Rattle.rules.specs.Table.{size, kind, action_node, action_shape, decode_action, regular_node, regular_shape, decode_regular}
use Rattle.rules.specs.Table.{formula_node, formula_shape, decode_formula}
use Rattle.tables.proofs.Decode.{action_of_kind, action_unknown, regular_of_kind, regular_unknown, formula_of_kind, formula_last}
use Rattle.node_kinds.specs.declared.ActionKind.{ActionKind}
use Rattle.node_kinds.specs.declared.ActionKind.TheVariants as action
use Rattle.node_kinds.specs.declared.RegularKind.{RegularKind}
use Rattle.node_kinds.specs.declared.RegularKind.TheVariants as regular
use Rattle.node_kinds.specs.declared.FormulaKind.{FormulaKind}
use Rattle.node_kinds.specs.declared.FormulaKind.TheVariants as formula
use Rattle.node_kinds.specs.declared.UnknownKind.{UnknownKind}
use Rattle.node_kinds.specs.Codes.{ReadsAction, ReadsRegular, ReadsFormula}
use Rattle.table_words.specs.Shapes.{shape_read, action_kind_shape, regular_kind_shape, formula_kind_shape}

pub action_reads : (ws : List ℕ) (node : ℕ) (read : Result ActionKind UnknownKind) → node < size ws
    → ReadsAction (kind ws node) read → action_shape (action_node ws node) ≡ shape_read action_kind_shape read
unfolding action_shape decode_action
action_reads ws node (Ok action.True) h e = ap action_shape (action_of_kind ws node h 0 (sym e))
action_reads ws node (Ok action.False) h e = ap action_shape (action_of_kind ws node h 1 (sym e))
action_reads ws node (Ok action.MultiAction) h e = ap action_shape (action_of_kind ws node h 2 (sym e))
action_reads ws node (Ok action.Union) h e = ap action_shape (action_of_kind ws node h 3 (sym e))
action_reads ws node (Ok action.Intersection) h e = ap action_shape (action_of_kind ws node h 4 (sym e))
action_reads ws node (Ok action.Negation) h e = ap action_shape (action_of_kind ws node h 5 (sym e))
action_reads ws node (Err u) h e = action_unknown ws node h e.1

pub regular_reads : (ws : List ℕ) (node : ℕ) (read : Result RegularKind UnknownKind) → node < size ws
    → ReadsRegular (kind ws node) read → regular_shape (regular_node ws node) ≡ shape_read regular_kind_shape read
unfolding regular_shape decode_regular
regular_reads ws node (Ok regular.Action) h e = ap regular_shape (regular_of_kind ws node h 0 (sym e))
regular_reads ws node (Ok regular.Sequence) h e = ap regular_shape (regular_of_kind ws node h 1 (sym e))
regular_reads ws node (Ok regular.Choice) h e = ap regular_shape (regular_of_kind ws node h 2 (sym e))
regular_reads ws node (Ok regular.Star) h e = ap regular_shape (regular_of_kind ws node h 3 (sym e))
regular_reads ws node (Ok regular.Plus) h e = ap regular_shape (regular_of_kind ws node h 4 (sym e))
regular_reads ws node (Err u) h e = regular_unknown ws node h e.1

pub formula_reads : (ws : List ℕ) (node : ℕ) (read : Result FormulaKind UnknownKind) → node < size ws
    → ReadsFormula (kind ws node) read → formula_shape (formula_node ws node) ≡ shape_read formula_kind_shape read
unfolding formula_shape decode_formula
formula_reads ws node (Ok formula.True) h e = ap formula_shape (formula_of_kind ws node h 0 (sym e))
formula_reads ws node (Ok formula.False) h e = ap formula_shape (formula_of_kind ws node h 1 (sym e))
formula_reads ws node (Ok formula.And) h e = ap formula_shape (formula_of_kind ws node h 2 (sym e))
formula_reads ws node (Ok formula.Or) h e = ap formula_shape (formula_of_kind ws node h 3 (sym e))
formula_reads ws node (Ok formula.Box) h e = ap formula_shape (formula_of_kind ws node h 4 (sym e))
formula_reads ws node (Ok formula.Diamond) h e = ap formula_shape (formula_of_kind ws node h 5 (sym e))
formula_reads ws node (Ok formula.Least) h e = ap formula_shape (formula_of_kind ws node h 6 (sym e))
formula_reads ws node (Ok formula.Greatest) h e = ap formula_shape (formula_of_kind ws node h 7 (sym e))
formula_reads ws node (Ok formula.Reference) h e = ap formula_shape (formula_of_kind ws node h 8 (sym e))
formula_reads ws node (Err u) h e = formula_last ws node h (le_of_lt e.1)
