-- Tables of trees in prefix order (document 01, "Words handed over": "m kinds, m operands .. A first child is the next
-- node; the operand of 3 and 4 is the right child, just past the left child's tree"; document 02, #104: "a table of
-- regular trees, laid out like the action table"). A node is decoded here, once; all other rules go by the names of the
-- nodes. Assumes nothing: these are definitions.
use Rattle.std.specs.Prelude.{ℕ, zero, suc, ◌+◌, ◌-◌, Bool, true, false, cond, not, List, [], ◌∷◌, ◌≡◌, get_or, eqb, ltb}
use Rattle.std.proofs.Math.Option.{Option, none, some}
use Rattle.rules.specs.Lists.{word}

abbrev pub size : List ℕ → ℕ
size ws = word ws 0

abbrev pub kind : List ℕ → ℕ → ℕ
kind ws v = word ws (1 + v)

abbrev pub operand : List ℕ → ℕ → ℕ
operand ws v = word ws (1 + size ws + v)

-- ---- views of a node: what the rules ask of it, each said once for every kind of node

-- What an operand is: 0; the right child, "just past the left child's tree"; the name of something outside the table,
-- for which each table has its test; or nothing that is judged here
pub data OperandRule : Type 0 where
  zero_operand right_child outside_name not_judged : OperandRule

-- how many children a node has, and what its operand is
pub record Shape : Type 0 where
  pub children : ℕ
  pub rule : OperandRule

abbrev pub is_some : {A : Type 0} → Option A → Bool
is_some none = false
is_some (some a) = true

-- ---- nodes of the action formulas

pub data ActionNode : Type 0 where
  true_node false_node : ActionNode
  multi_action_node : (label : ℕ) → ActionNode
  union_node intersection_node : (right : ℕ) → ActionNode
  negation_node : ActionNode
  no_action_node : ActionNode

-- "0 true, 1 false, 2 multi-action (operand is a label), 3 union, 4 intersection, 5 negation"; of any other kind, none
unfoldable pub decode_action : (kind operand : ℕ) → ActionNode
decode_action k o = get_or (true_node ∷ false_node ∷ multi_action_node o ∷ union_node o ∷ intersection_node o ∷ negation_node ∷ []) k no_action_node

-- node v, and none past the table
unfoldable pub action_node : List ℕ → ℕ → ActionNode
action_node acts v = cond (ltb v (size acts)) (decode_action (kind acts v) (operand acts v)) no_action_node

-- "multi-action (operand is a label)", "the operand of 3 and 4 is the right child", "Operands of 0, 1, 5 are 0"
unfoldable pub action_shape : ActionNode → Shape
action_shape true_node = record { children = 0; rule = zero_operand }
action_shape false_node = record { children = 0; rule = zero_operand }
action_shape (multi_action_node l) = record { children = 0; rule = outside_name }
action_shape (union_node r) = record { children = 2; rule = right_child }
action_shape (intersection_node r) = record { children = 2; rule = right_child }
action_shape negation_node = record { children = 1; rule = zero_operand }
action_shape no_action_node = record { children = 0; rule = not_judged }

abbrev pub action_children : List ℕ → ℕ → ℕ
action_children acts v = (action_shape (action_node acts v)).children

-- ---- nodes of the regular formulas (document 02, #104)

pub data RegularNode : Type 0 where
  action_formula_node : (tree : ℕ) → RegularNode
  sequence_node choice_node : (right : ℕ) → RegularNode
  star_node plus_node : RegularNode
  no_regular_node : RegularNode

-- "0 action formula (operand: an action tree), 1 sequence, 2 choice, 3 star, 4 plus"; of any other kind, none
unfoldable pub decode_regular : (kind operand : ℕ) → RegularNode
decode_regular k o = get_or (action_formula_node o ∷ sequence_node o ∷ choice_node o ∷ star_node ∷ plus_node ∷ []) k no_regular_node

-- node v, and none past the table
unfoldable pub regular_node : List ℕ → ℕ → RegularNode
regular_node regs v = cond (ltb v (size regs)) (decode_regular (kind regs v) (operand regs v)) no_regular_node

-- "operand: an action tree"; as in the action table, the operand of a node with two children is the right child, that
-- of a node with one is 0
unfoldable pub regular_shape : RegularNode → Shape
regular_shape (action_formula_node a) = record { children = 0; rule = outside_name }
regular_shape (sequence_node r) = record { children = 2; rule = right_child }
regular_shape (choice_node r) = record { children = 2; rule = right_child }
regular_shape star_node = record { children = 1; rule = zero_operand }
regular_shape plus_node = record { children = 1; rule = zero_operand }
regular_shape no_regular_node = record { children = 0; rule = not_judged }

abbrev pub regular_children : List ℕ → ℕ → ℕ
regular_children regs v = (regular_shape (regular_node regs v)).children

-- ---- nodes of the formula

pub data FormulaNode : Type 0 where
  truth_node falsity_node : FormulaNode
  and_node or_node : (right : ℕ) → FormulaNode
  box_node diamond_node : (action : ℕ) → FormulaNode
  least_node greatest_node : FormulaNode
  reference_node : (fixpoint : ℕ) → FormulaNode
  no_formula_node : FormulaNode

-- "0 true, 1 false, 2 and, 3 or (operand: right child), 4 box, 5 diamond (operand: first node of one of the row's
-- trees), 6 least, 7 greatest, 8 reference (operand: an enclosing node of kind 6 or 7)"; of any other kind, none
unfoldable pub decode_formula : (kind operand : ℕ) → FormulaNode
decode_formula k o =
    get_or
    (truth_node ∷ falsity_node ∷ and_node o ∷ or_node o ∷ box_node o ∷ diamond_node o ∷ least_node ∷ greatest_node ∷ reference_node o ∷ [])
    k
    no_formula_node

-- node v, and none past the table
unfoldable pub formula_node : List ℕ → ℕ → FormulaNode
formula_node f v = cond (ltb v (size f)) (decode_formula (kind f v) (operand f v)) no_formula_node

-- "2 and, 3 or (operand: right child), 4 box, 5 diamond (operand: first node of one of the row's trees)", "Operands of
-- 0, 1, 6, 7 are 0"; a reference has its own view
unfoldable pub formula_shape : FormulaNode → Shape
formula_shape truth_node = record { children = 0; rule = zero_operand }
formula_shape falsity_node = record { children = 0; rule = zero_operand }
formula_shape (and_node r) = record { children = 2; rule = right_child }
formula_shape (or_node r) = record { children = 2; rule = right_child }
formula_shape (box_node a) = record { children = 1; rule = outside_name }
formula_shape (diamond_node a) = record { children = 1; rule = outside_name }
formula_shape least_node = record { children = 1; rule = zero_operand }
formula_shape greatest_node = record { children = 1; rule = zero_operand }
formula_shape (reference_node u) = record { children = 0; rule = not_judged }
formula_shape no_formula_node = record { children = 0; rule = not_judged }

abbrev pub formula_children : List ℕ → ℕ → ℕ
formula_children f v = (formula_shape (formula_node f v)).children

pub data Operator : Type 0 where
  least greatest : Operator

-- "6 least, 7 greatest": its operator, if it is a fixpoint
unfoldable pub fixpoint_of : FormulaNode → Option Operator
fixpoint_of truth_node = none
fixpoint_of falsity_node = none
fixpoint_of (and_node r) = none
fixpoint_of (or_node r) = none
fixpoint_of (box_node a) = none
fixpoint_of (diamond_node a) = none
fixpoint_of least_node = some least
fixpoint_of greatest_node = some greatest
fixpoint_of (reference_node u) = none
fixpoint_of no_formula_node = none

-- "8 reference (operand: an enclosing node of kind 6 or 7)": the node it names, if it is a reference
unfoldable pub reference_of : FormulaNode → Option ℕ
reference_of truth_node = none
reference_of falsity_node = none
reference_of (and_node r) = none
reference_of (or_node r) = none
reference_of (box_node a) = none
reference_of (diamond_node a) = none
reference_of least_node = none
reference_of greatest_node = none
reference_of (reference_node u) = some u
reference_of no_formula_node = none

-- ---- where trees end. A table is the number of children of each node, and its size

module _ (children : ℕ → ℕ) where
  -- Trees are due at node v, of which `left` nodes follow up to the table's end: the node just past them, or none if
  -- the table ends before. Each node is one of the trees that are due, and its children are due after it
  unfoldable pub end_of_trees : (left v due : ℕ) → Option ℕ
  end_of_trees zero v zero = some v
  end_of_trees zero v (suc due) = none
  end_of_trees (suc left) v zero = some v
  end_of_trees (suc left) v (suc due) = end_of_trees left (suc v) (children v + due)

  -- the node just past the tree of node v; none if the tree is unfinished. `TreeEndEquation` says it without counting
  unfoldable pub tree_end : (size v : ℕ) → Option ℕ
  tree_end n v = end_of_trees (n - v) v 1

-- where so many trees end that stand one after another from a node on, given where each tree ends
unfoldable pub past_trees : (ℕ → Option ℕ) → (trees : ℕ) → Option ℕ → Option ℕ
past_trees end zero v = v
past_trees end (suc k) none = none
past_trees end (suc k) (some v) = past_trees end k (end v)

-- The tree of a node of the table ends where its children's trees end, which begin at the next node; past the table
-- there is none (theorem `tree-end`)
abbrev pub TreeEndEquation : (children : ℕ → ℕ) → (size v : ℕ) → Type 0
TreeEndEquation children n v =
    tree_end children n v ≡ cond (ltb v n) (past_trees (tree_end children n) (children v) (some (suc v))) none

-- the number is a tree's end, not its end, before its end: each only if the tree has one
unfoldable pub is_end : ℕ → Option ℕ → Bool
is_end v none = false
is_end v (some e) = eqb v e

unfoldable pub is_not_end : ℕ → Option ℕ → Bool
is_not_end v none = false
is_not_end v (some e) = not (eqb v e)

unfoldable pub is_before_end : ℕ → Option ℕ → Bool
is_before_end v none = false
is_before_end v (some e) = ltb v e

module _ (children : ℕ → ℕ) (n : ℕ) where
  -- Going from tree to tree, from the one that begins at node u on, one comes to v, in at most `fuel` trees
  unfoldable pub comes_to : (fuel : ℕ) → Option ℕ → ℕ → Bool
  comes_to zero u v = is_end v u
  comes_to (suc fuel) none v = false
  comes_to (suc fuel) (some u) v = let later = comes_to fuel (tree_end children n u) v in cond (ltb u v) later (eqb u v)

  -- v is the first node of one of the row's trees; at v = n: the row's last tree is finished. `RootsOnRow` of Rows says
  -- it without counting
  unfoldable pub on_row : ℕ → Bool
  on_row v = comes_to v (some 0) v
