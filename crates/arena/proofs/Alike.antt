-- Subformulas that are alike as trees are equal, and so are action formulas. Assumes nothing.
use mathlib.Core.Path.{◌≡◌, refl, sym, ap, ap₂, ◌∙◌}
use mathlib.Core.Bool.{true, ◌&&◌, false≢true}
use mathlib.Core.List.{[], ◌∷◌}
use lib.Dec.{eqb}
use lib.ListN.{get_or}
use borrow.Author.Tests.{eqb-true, eq-eqb}
use Rattle.rules.specs.Actions.{Action, any_action, never_action, multi_action, union, intersection, negation}
use Rattle.rules.specs.Formula.{Formula, truth, falsity, conjunction, disjunction, box, diamond, reference}
use Rattle.rules.specs.Items.{Tree, leaf, node, same_tree, action_view, formula_view, alike}
use Rattle.lists.specs.Shapes.{Equality}
use Rattle.lists.proofs.Tests.{and-true}

-- ---- plain trees

pub same_tree_equal : (s t : Tree) → same_tree s t ≡ true → s ≡ t
unfolding same_tree
same_tree_equal leaf leaf h = refl
same_tree_equal leaf (node k n l r) h = absurd (false≢true h)
same_tree_equal (node k n l r) leaf h = absurd (false≢true h)
same_tree_equal (node k n l r) (node k' n' l' r') h =
    let (a, more) = and-true (eqb k k') (eqb n n' && (same_tree l l' && same_tree r r')) h in
    let (b, last) = and-true (eqb n n') (same_tree l l' && same_tree r r') more in
    let (c, d) = and-true (same_tree l l') (same_tree r r') last in
    let k≡ = eqb-true k k' a in
    let n≡ = eqb-true n n' b in
    let l≡ = same_tree_equal l l' c in
    let r≡ = same_tree_equal r r' d in
    cc

pub same_tree_self : (t : Tree) → same_tree t t ≡ true
unfolding same_tree
same_tree_self leaf = refl
same_tree_self (node k n l r) = rw (eq-eqb k k refl, eq-eqb n n refl, same_tree_self l, same_tree_self r)

-- ---- from the view back to what is seen: so no two action formulas or subformulas have one view

unfoldable action_back : Tree → Action
action_back leaf = any_action
action_back (node k n l r) =
    let a = action_back l in
    let b = action_back r in
    get_or (any_action ∷ never_action ∷ multi_action n ∷ union a b ∷ intersection a b ∷ negation a ∷ []) k any_action

action-back : (a : Action) → action_back (action_view a) ≡ a
unfolding action_back action_view
action-back any_action = refl
action-back never_action = refl
action-back (multi_action m) = refl
action-back (union a b) = ap₂ union (action-back a) (action-back b)
action-back (intersection a b) = ap₂ intersection (action-back a) (action-back b)
action-back (negation a) = ap negation (action-back a)

unfoldable formula_back : Tree → Formula
formula_back leaf = truth
formula_back (node k n l r) =
    let f = formula_back l in
    let g = formula_back r in
    let a = action_back l in
    get_or (truth ∷ falsity ∷ conjunction f g ∷ disjunction f g ∷ box a g ∷ diamond a g ∷ truth ∷ truth ∷ reference n ∷ []) k truth

formula-back : (f : Formula) → formula_back (formula_view f) ≡ f
unfolding formula_back formula_view
formula-back truth = refl
formula-back falsity = refl
formula-back (conjunction l r) = ap₂ conjunction (formula-back l) (formula-back r)
formula-back (disjunction l r) = ap₂ disjunction (formula-back l) (formula-back r)
formula-back (box a b) = ap₂ box (action-back a) (formula-back b)
formula-back (diamond a b) = ap₂ diamond (action-back a) (formula-back b)
formula-back (reference i) = refl

-- ---- alike trees are equal

pub alike_equal : (f g : Formula) → alike f g ≡ true → f ≡ g
unfolding alike
alike_equal f g h = sym (formula-back f) ∙ ap formula_back (same_tree_equal (formula_view f) (formula_view g) h) ∙ formula-back g

pub alike_self : (f : Formula) → alike f f ≡ true
unfolding alike
alike_self f = same_tree_self (formula_view f)

pub alike_equality : Equality alike
alike_equality = record { sound = alike_equal; self = alike_self }
