-- Formulas read from the words of document 01, whose modalities carry what their operands name: the place of a tree in
-- the row, the first node of a tree, or a regular formula (document 02, #104: "a modality's operand names one").
-- Assumes nothing: these are definitions.
use Rattle.std.specs.Prelude.{◌≡◌, true, ℕ, zero, suc, ◌<◌, List, [], ◌∷◌, eqb}
use Rattle.rules.specs.Lists.{In, position}
use Rattle.rules.specs.Table.{size, FormulaNode, truth_node, falsity_node, and_node, or_node, box_node, diamond_node}
use Rattle.rules.specs.Table.{least_node, greatest_node, reference_node, no_formula_node, formula_node}
use Rattle.rules.specs.Table.{formula_children, tree_end, is_before_end}
use Rattle.rules.specs.Formula.{is_fixpoint}
use Rattle.writing.specs.FormulaSyntax.{FormulaOver, true_formula, false_formula, and_formula, or_formula, box_formula}
use Rattle.writing.specs.FormulaSyntax.{diamond_formula, least_formula, greatest_formula, reference_formula}

module _ {M : Type 0} (named : ℕ → M) where
  -- The tree of node v, given those of other nodes; `around` are the nodes of the fixpoints around it, the nearest
  -- first. The last case is never met in accepted words
  unfoldable pub syntax_of : (List ℕ → ℕ → FormulaOver M) → (around : List ℕ) → ℕ → FormulaNode → FormulaOver M
  syntax_of tree around v truth_node = true_formula
  syntax_of tree around v falsity_node = false_formula
  syntax_of tree around v (and_node r) = and_formula (tree around (suc v)) (tree around r)
  syntax_of tree around v (or_node r) = or_formula (tree around (suc v)) (tree around r)
  syntax_of tree around v (box_node a) = box_formula (named a) (tree around (suc v))
  syntax_of tree around v (diamond_node a) = diamond_formula (named a) (tree around (suc v))
  syntax_of tree around v least_node = least_formula (tree (v ∷ around) (suc v))
  syntax_of tree around v greatest_node = greatest_formula (tree (v ∷ around) (suc v))
  syntax_of tree around v (reference_node u) = reference_formula (position eqb u around)
  syntax_of tree around v no_formula_node = false_formula

  -- The tree of node v, read to a depth. The node count is deep enough: `words_read_back`
  unfoldable pub syntax_to : (depth : ℕ) → List ℕ → (around : List ℕ) → ℕ → FormulaOver M
  syntax_to zero f around v = false_formula
  syntax_to (suc d) f around v = syntax_of (λ known u. syntax_to d f known u) around v (formula_node f v)

  unfoldable pub syntax_at : List ℕ → (around : List ℕ) → ℕ → FormulaOver M
  syntax_at f around v = syntax_to (size f) f around v

  -- the whole formula
  unfoldable pub formula_syntax : List ℕ → FormulaOver M
  formula_syntax f = syntax_at f [] 0

-- the fixpoints around node v are all among these
abbrev pub Complete : List ℕ → (around : List ℕ) → ℕ → Type 0
Complete f around v =
    (u : ℕ) → is_fixpoint (formula_node f u) ≡ true → u < v → is_before_end v (tree_end (formula_children f) (size f) u) ≡ true → In u around

-- what a modality names as it stands: the first node of an action formula
abbrev pub itself : ℕ → ℕ
itself a = a

-- the formula with other things in its modalities
unfoldable pub renamed : {M N : Type 0} → (M → N) → FormulaOver M → FormulaOver N
renamed g true_formula = true_formula
renamed g false_formula = false_formula
renamed g (and_formula a b) = and_formula (renamed g a) (renamed g b)
renamed g (or_formula a b) = or_formula (renamed g a) (renamed g b)
renamed g (box_formula m a) = box_formula (g m) (renamed g a)
renamed g (diamond_formula m a) = diamond_formula (g m) (renamed g a)
renamed g (least_formula a) = least_formula (renamed g a)
renamed g (greatest_formula a) = greatest_formula (renamed g a)
renamed g (reference_formula i) = reference_formula i
