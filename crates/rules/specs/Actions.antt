-- Action formulas (document 01, "Matching": "An action formula is decided by its tree; a multi-action matches a label
-- with the same multiset, repeats counted"). Assumes nothing: these are definitions.
use Rattle.std.specs.Prelude.{ℕ, zero, suc, Bool, true, false, not, ◌&&◌, ◌||◌, List, ◌≡◌, eqb}
use Rattle.rules.specs.Labels.{multiset}
use Rattle.rules.specs.Table.{size, ActionNode, true_node, false_node, multi_action_node, union_node, intersection_node, negation_node, no_action_node, action_node}

-- the tree of an action formula; a multi-action is its multiset
pub data Action : Type 0 where
  any_action never_action : Action
  multi_action : (multiset : ℕ) → Action
  union intersection : (left right : Action) → Action
  negation : (action : Action) → Action

-- the tree of node v, given the trees of other nodes. The last case is never met in accepted words
-- (theorem `actions_known`)
unfoldable pub action_of : (ℕ → Action) → List ℕ → ℕ → ActionNode → Action
action_of tree ls v true_node = any_action
action_of tree ls v false_node = never_action
action_of tree ls v (multi_action_node l) = multi_action (multiset ls l)
action_of tree ls v (union_node r) = union (tree (suc v)) (tree r)
action_of tree ls v (intersection_node r) = intersection (tree (suc v)) (tree r)
action_of tree ls v negation_node = negation (tree (suc v))
action_of tree ls v no_action_node = never_action

-- The tree of node v, read to a depth. Children have larger numbers, so the node count is deep enough:
-- `ActionTreeEquation`
unfoldable pub action_to : (depth : ℕ) → List ℕ → List ℕ → ℕ → Action
action_to zero ls acts v = never_action
action_to (suc d) ls acts v = action_of (λ u. action_to d ls acts u) ls v (action_node acts v)

unfoldable pub action_tree : List ℕ → List ℕ → ℕ → Action
action_tree ls acts v = action_to (size acts) ls acts v

-- The tree of a node is `action_of` of the trees (theorem `action-tree`: of each node of accepted words)
abbrev pub ActionTreeEquation : List ℕ → List ℕ → ℕ → Type 0
ActionTreeEquation ls acts v = action_tree ls acts v ≡ action_of (action_tree ls acts) ls v (action_node acts v)

-- an action formula decided at a label's multiset
unfoldable pub matches : ℕ → Action → Bool
matches m any_action = true
matches m never_action = false
matches m (multi_action a) = eqb a m
matches m (union a b) = matches m a || matches m b
matches m (intersection a b) = matches m a && matches m b
matches m (negation a) = not (matches m a)
