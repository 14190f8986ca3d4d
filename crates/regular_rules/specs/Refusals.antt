-- Why an expansion is refused (document 02, #104: "Refused, in this order: 2, 11 to 13, 31 to 34, 61 for a malformed
-- regular table, 41 to 45 with modal operands judged against the regular trees, 62 where the result exceeds 1,024
-- nodes"). Assumes nothing: these are definitions.
use Rattle.std.specs.Prelude.{ℕ, suc, ◌+◌, ◌*◌, Bool, not, ◌||◌, List, [], ◌∷◌, length, eqb, ltb}
use Rattle.rules.specs.Lists.{every}
use Rattle.rules.specs.Words.{most_nodes}
use Rattle.rules.specs.Answers.{Check, fault_if, first_fault}
use Rattle.rules.specs.Table.{size, kind, operand, regular_node, regular_shape, regular_children, tree_end, on_row}
use Rattle.rules.specs.Refusal.{differ, wrong_operand, names_no_tree, names_no_root}
use Rattle.rules.specs.Refusal.{refusal11, refusal12, refusal13, refusal31, refusal32, refusal33, refusal34}
use Rattle.rules.specs.Refusal.{refusal41, refusal42, refusal43, refusal44, refusal45}
use Rattle.writing.specs.FormulaSyntax.{formula_size}
use Rattle.regular_rules.specs.Regular.{regular_tree}
use Rattle.writing.specs.FormulaReading.{formula_syntax}
use Rattle.regular_rules.specs.Expand.{expansion_of}

-- the words handed over: labels, action formulas, regular formulas, the formula
pub record RegularInput : Type 0 where
  pub labels : List ℕ
  pub actions : List ℕ
  pub regulars : List ℕ
  pub formula : List ℕ

abbrev pub regular_input : List ℕ → List ℕ → List ℕ → List ℕ → RegularInput
regular_input ls acts regs f = record { labels = ls; actions = acts; regulars = regs; formula = f }

-- "writes a formula table of 01 into 2,049 words": 1 + 2n for the most nodes (decision G5)
abbrev pub table_length : ℕ
table_length = 1 + 2 * most_nodes

-- 2, for the length of the slice lent
unfoldable pub refusal_out : (out : ℕ) → Check
refusal_out out = fault_if 2 0 (differ out table_length)

-- ---- 61: every fault of the regular table, at place 0 (decisions G3, G4)

-- the operand of node v is wrong; that of an action formula names one of the row's trees
unfoldable pub bad_regular_operand : List ℕ → List ℕ → ℕ → Bool
bad_regular_operand acts regs v =
    wrong_operand (names_no_tree acts) (operand regs v) (tree_end (regular_children regs) (size regs) (suc v))
    (regular_shape (regular_node regs v)).rule

-- "a malformed regular table": what 31 to 34 refuse of the action table
unfoldable pub malformed : List ℕ → List ℕ → Bool
malformed acts regs =
    (eqb (length regs) 0 || differ (length regs) (1 + 2 * size regs))
    || (ltb most_nodes (size regs)
    || (not (every (λ v. not (ltb 4 (kind regs v) || bad_regular_operand acts regs v)) 0 (size regs))
    || not (on_row (regular_children regs) (size regs) (size regs))))

unfoldable pub refusal61 : List ℕ → List ℕ → Check
refusal61 acts regs = fault_if 61 0 (malformed acts regs)

-- ---- 44

-- "with modal operands judged against the regular trees": r is not the first node of one of them
abbrev pub names_no_regular : List ℕ → ℕ → Bool
names_no_regular regs = names_no_root (regular_children regs) (size regs)

-- ---- 62

-- the nodes of the result
unfoldable pub expanded_size : List ℕ → List ℕ → ℕ
expanded_size regs f = formula_size (expansion_of regs f)

-- "62 where the result exceeds 1,024 nodes"
unfoldable pub refusal62 : List ℕ → List ℕ → Check
refusal62 regs f = fault_if 62 0 (ltb most_nodes (expanded_size regs f))

-- ---- the order; `out` is the length of the slice lent

unfoldable pub expansion_refusal : RegularInput → (out : ℕ) → Check
expansion_refusal x out =
    first_fault
    (refusal_out out
    ∷ refusal11 x.labels ∷ refusal12 x.labels ∷ refusal13 x.labels
    ∷ refusal31 x.actions ∷ refusal32 x.actions ∷ refusal33 x.actions ∷ refusal34 x.labels x.actions
    ∷ refusal61 x.actions x.regulars
    ∷ refusal41 x.formula ∷ refusal42 x.formula ∷ refusal43 x.formula
    ∷ refusal44 (names_no_regular x.regulars) x.formula ∷ refusal45 x.formula
    ∷ refusal62 x.regulars x.formula
    ∷ [])
