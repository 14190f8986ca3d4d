-- Regular formulas as trees (document 02, #104: "a table of regular trees, laid out like the action table"). Assumes
-- nothing: these are definitions.
use Rattle.std.specs.Prelude.{◌≡◌, ℕ, zero, suc, List}
use Rattle.rules.specs.Table.{size, RegularNode, action_formula_node, sequence_node, choice_node, star_node, plus_node}
use Rattle.rules.specs.Table.{no_regular_node, regular_node}

-- an action formula is named by the first node of its tree
pub data Regular : Type 0 where
  action : (tree : ℕ) → Regular
  sequence choice : (left right : Regular) → Regular
  star plus : (regular : Regular) → Regular

-- the tree of node v, given the trees of other nodes. The last case is never met in accepted words
-- (theorem `regulars_known`)
unfoldable pub regular_of : (ℕ → Regular) → ℕ → RegularNode → Regular
regular_of tree v (action_formula_node a) = action a
regular_of tree v (sequence_node r) = sequence (tree (suc v)) (tree r)
regular_of tree v (choice_node r) = choice (tree (suc v)) (tree r)
regular_of tree v star_node = star (tree (suc v))
regular_of tree v plus_node = plus (tree (suc v))
regular_of tree v no_regular_node = action 0

-- The tree of node v, read to a depth. Children have larger numbers, so the node count is deep enough:
-- `RegularTreeEquation`
unfoldable pub regular_to : (depth : ℕ) → List ℕ → ℕ → Regular
regular_to zero regs v = action 0
regular_to (suc d) regs v = regular_of (λ u. regular_to d regs u) v (regular_node regs v)

unfoldable pub regular_tree : List ℕ → ℕ → Regular
regular_tree regs v = regular_to (size regs) regs v

-- the tree of a node is `regular_of` of the trees (theorem `regular-tree`: of each node of accepted words)
abbrev pub RegularTreeEquation : List ℕ → ℕ → Type 0
RegularTreeEquation regs v = regular_tree regs v ≡ regular_of (regular_tree regs) v (regular_node regs v)
