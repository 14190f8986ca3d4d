-- Items (document 01, "Items": "Equations are items. So are body subformulas, and two that are alike as trees, action
-- trees included, are one .. Equations are numbered first, then subformulas by the lowest node that carries them in a
-- body"). Assumes nothing: these are definitions.
use Rattle.std.specs.Prelude.{ℕ, ◌+◌, Bool, true, false, ◌&&◌, List, ◌++◌, map, eqb}
use Rattle.rules.specs.Lists.{position, once}
use Rattle.rules.specs.Words.{Input}
use Rattle.rules.specs.Actions.{Action, any_action, never_action, multi_action, union, intersection, negation}
use Rattle.rules.specs.Formula.{Equation, equations, equation_count, Formula, truth, falsity, conjunction, disjunction, box, diamond, reference, formula_tree, body_nodes}

-- ---- alike as trees: both kinds of trees are seen as plain ones, of which two are alike if all four parts are
-- (theorem `alike_equal`: alike trees are equal)

pub data Tree : Type 0 where
  leaf : Tree
  node : (mark number : ℕ) (left right : Tree) → Tree

unfoldable pub same_tree : Tree → Tree → Bool
same_tree leaf leaf = true
same_tree leaf (node k n l r) = false
same_tree (node k n l r) leaf = false
same_tree (node k n l r) (node k' n' l' r') = eqb k k' && (eqb n n' && (same_tree l l' && same_tree r r'))

unfoldable pub action_view : Action → Tree
action_view any_action = node 0 0 leaf leaf
action_view never_action = node 1 0 leaf leaf
action_view (multi_action m) = node 2 m leaf leaf
action_view (union a b) = node 3 0 (action_view a) (action_view b)
action_view (intersection a b) = node 4 0 (action_view a) (action_view b)
action_view (negation a) = node 5 0 (action_view a) leaf

unfoldable pub formula_view : Formula → Tree
formula_view truth = node 0 0 leaf leaf
formula_view falsity = node 1 0 leaf leaf
formula_view (conjunction l r) = node 2 0 (formula_view l) (formula_view r)
formula_view (disjunction l r) = node 3 0 (formula_view l) (formula_view r)
formula_view (box a b) = node 4 0 (action_view a) (formula_view b)
formula_view (diamond a b) = node 5 0 (action_view a) (formula_view b)
formula_view (reference i) = node 8 i leaf leaf

unfoldable pub alike : Formula → Formula → Bool
alike f g = same_tree (formula_view f) (formula_view g)

-- ---- items and their numbers

pub data Item : Type 0 where
  equation : Equation → Item
  subformula : Formula → Item

-- the body subformulas, each once, by the lowest node that carries it
unfoldable pub subformulas : Input → List Formula
subformulas x = once alike (map (formula_tree x) (body_nodes x.formula))

unfoldable pub items : Input → List Item
items x = map equation (equations x.formula) ++ map subformula (subformulas x)

-- the item number of a subformula. An equation's item number is its own
unfoldable pub item_number : Input → Formula → ℕ
item_number x f = equation_count x.formula + position alike f (subformulas x)
