-- The nodes of regular formulas (specs/Table), by computation: each kind with its node and its shape, a kind above 4, a
-- node past the table, and where a tree ends. Assumes nothing.
use mathlib.Core.Path.{◌≡◌, refl}
use mathlib.Core.List.{List, [], ◌∷◌, map}
use mathlib.Core.Option.{some, none}
use Prim.Native.Nat.{ℕ}
use Rattle.rules.specs.Lists.{from}
use Rattle.rules.specs.Table.{Shape, OperandRule, zero_operand, right_child, outside_name, not_judged, tree_end}
use Rattle.rules.specs.Table.{action_formula_node, sequence_node, choice_node, star_node, plus_node}
use Rattle.rules.specs.Table.{no_regular_node, regular_node, regular_shape, regular_children}
use Rattle.rules.proofs.Print.{words}
use Rattle.rules.proofs.Unfold.{every_rule}

-- ((7 + (8*)+) . 9)*, then a node of no kind
abbrev table : List ℕ
table = words "9; 3 1 2 0 4 3 0 0 5; 0 7 4 7 0 0 8 9 0"

pub regular_nodes_told :
    map (regular_node table) (from 0 10)
    ≡ star_node ∷ sequence_node 7 ∷ choice_node 4 ∷ action_formula_node 7 ∷ plus_node ∷ star_node ∷ action_formula_node 8
    ∷ action_formula_node 9 ∷ no_regular_node ∷ no_regular_node ∷ []
unfolding every_rule
regular_nodes_told = refl

abbrev shape : (children : ℕ) → OperandRule → Shape
shape n r = record { children = n; rule = r }

pub regular_shapes_told :
    map (λ v. regular_shape (regular_node table v)) (from 0 10)
    ≡ shape 1 zero_operand ∷ shape 2 right_child ∷ shape 2 right_child ∷ shape 0 outside_name ∷ shape 1 zero_operand
    ∷ shape 1 zero_operand ∷ shape 0 outside_name ∷ shape 0 outside_name ∷ shape 0 not_judged ∷ shape 0 not_judged ∷ []
unfolding every_rule
regular_shapes_told = refl

-- the choice ends where the sequence's right child begins, the first star before the last node
pub regular_ends_told : map (tree_end (regular_children table) 9) (2 ∷ 0 ∷ 5 ∷ 9 ∷ []) ≡ some 7 ∷ some 8 ∷ some 7 ∷ none ∷ []
unfolding every_rule
regular_ends_told = refl
