-- Equations and bodies (document 01, "Equations": "Nodes of kind 6 and 7, in table order, are equations 0, 1 and so on.
-- If node 0 is neither, a placeholder least equation with the whole formula as body comes first. In a body each inner
-- fixpoint stands as a reference to its own equation"). Assumes nothing: these are definitions.
use Rattle.std.specs.Prelude.{ℕ, zero, suc, ◌-◌, Bool, cond, List, [], ◌∷◌, ◌++◌, ◌≡◌, length, get_or}
use Rattle.std.proofs.Math.Option.{Option, none, some}
use Rattle.rules.specs.Lists.{from, one}
use Rattle.rules.specs.Words.{Input}
use Rattle.rules.specs.Table.{size, FormulaNode, truth_node, falsity_node, and_node, or_node, box_node, diamond_node, least_node, greatest_node, reference_node, no_formula_node, formula_node}
use Rattle.rules.specs.Table.{is_some, fixpoint_of}
pub use Rattle.rules.specs.Table.{Operator, least, greatest}
use Rattle.rules.specs.Actions.{Action, action_tree}

-- ---- equations

-- its operator, and the first node of its body
pub record Equation : Type 0 where
  pub operator : Operator
  pub body : ℕ

-- the equation of node v, if it is a fixpoint: its body is the next node
unfoldable pub equation_at : ℕ → Option Operator → List Equation
equation_at v none = []
equation_at v (some o) = record { operator = o; body = suc v } ∷ []

unfoldable pub is_fixpoint : FormulaNode → Bool
is_fixpoint n = is_some (fixpoint_of n)

-- the placeholder, if node 0 is no fixpoint: its body is the whole formula
unfoldable pub placeholder : List ℕ → List Equation
placeholder f = cond (is_fixpoint (formula_node f 0)) [] (record { operator = least; body = 0 } ∷ [])

-- the equations that come before those of node v and later nodes
unfoldable pub equations_before : List ℕ → ℕ → List Equation
equations_before f zero = placeholder f
equations_before f (suc v) = equations_before f v ++ equation_at v (fixpoint_of (formula_node f v))

unfoldable pub equations : List ℕ → List Equation
equations f = equations_before f (size f)

unfoldable pub equation_count : List ℕ → ℕ
equation_count f = length (equations f)

-- equation i. The default is never used for i below the count
unfoldable pub equation_of : List ℕ → ℕ → Equation
equation_of f i = get_or (equations f) i (record { operator = least; body = 0 })

-- the number of the equation of a fixpoint at node v: as many come before it
unfoldable pub equation_number : List ℕ → ℕ → ℕ
equation_number f v = length (equations_before f v)

-- ---- bodies

-- a subformula of a body. A modality has the tree of its action formula, a reference its equation's number
pub data Formula : Type 0 where
  truth falsity : Formula
  conjunction disjunction : (left right : Formula) → Formula
  box diamond : (action : Action) (formula : Formula) → Formula
  reference : (equation : ℕ) → Formula

-- the subformula of node v, given those of other nodes. The last case is never met in accepted words
-- (theorem `formula_known`)
unfoldable pub formula_of : (ℕ → Formula) → Input → ℕ → FormulaNode → Formula
formula_of tree x v truth_node = truth
formula_of tree x v falsity_node = falsity
formula_of tree x v (and_node r) = conjunction (tree (suc v)) (tree r)
formula_of tree x v (or_node r) = disjunction (tree (suc v)) (tree r)
formula_of tree x v (box_node a) = box (action_tree x.labels x.actions a) (tree (suc v))
formula_of tree x v (diamond_node a) = diamond (action_tree x.labels x.actions a) (tree (suc v))
formula_of tree x v least_node = reference (equation_number x.formula v)
formula_of tree x v greatest_node = reference (equation_number x.formula v)
formula_of tree x v (reference_node u) = reference (equation_number x.formula u)
formula_of tree x v no_formula_node = falsity

-- the subformula of node v as it stands in a body, read to a depth. The node count is deep enough:
-- `FormulaTreeEquation`
unfoldable pub formula_to : (depth : ℕ) → Input → ℕ → Formula
formula_to zero x v = falsity
formula_to (suc d) x v = formula_of (λ u. formula_to d x u) x v (formula_node x.formula v)

unfoldable pub formula_tree : Input → ℕ → Formula
formula_tree x v = formula_to (size x.formula) x v

-- The subformula of a node is `formula_of` of the subformulas (theorem `formula-tree`: of each node of accepted words)
abbrev pub FormulaTreeEquation : Input → ℕ → Type 0
FormulaTreeEquation x v = formula_tree x v ≡ formula_of (formula_tree x) x v (formula_node x.formula v)

unfoldable pub body_tree : Input → Equation → Formula
body_tree x e = formula_tree x e.body

-- the nodes that stand in a body: all, but node 0 if it is a fixpoint
unfoldable pub first_body_node : List ℕ → ℕ
first_body_node f = one (is_fixpoint (formula_node f 0))

unfoldable pub body_nodes : List ℕ → List ℕ
body_nodes f = from (first_body_node f) (size f - first_body_node f)
