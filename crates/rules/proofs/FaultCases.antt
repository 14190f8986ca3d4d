-- The refusals as relations (specs/Faulty) at the edges of their conditions: a witness for each clause, of what is just
-- wrong, with its number and its place; then inputs that are just right, of which no clause holds. Assumes nothing.
use mathlib.Core.Path.{◌≡◌, refl, ap}
use mathlib.Core.Bool.{Bool, true, false, ◌||◌}
use mathlib.Core.List.{List, [], ◌∷◌}
use mathlib.Core.Logic.{inl, inr}
use mathlib.Core.Option.{Option, none, some}
use Prim.Native.Nat.{ℕ, zero, suc, ◌-◌}
use native.Mathlib.Omega.{arith}
use lib.Dec.{eqb, lit<, lit≤}
use borrow.Author.Tests.{eqb-false}
use Rattle.rules.specs.Lists.{one, In, has}
use Rattle.rules.specs.Words.{room_of}
use Rattle.rules.specs.Table.{size, action_children, end_of_trees}
use Rattle.rules.specs.Rows.{Root, first_root, next_root}
use Rattle.rules.specs.Faulty.{FaultyRoom, few_vertices, many_vertices, few_edges, many_edges, wrong_game, wrong_work}
use Rattle.rules.specs.Faulty.{FaultyLabels, few_label_words, wrong_label_words, many_labels, many_actions}
use Rattle.rules.specs.Faulty.{label_too_large, label_falls}
use Rattle.rules.specs.Faulty.{FaultySystem, few_system_words, wrong_system_words, few_states, many_states}
use Rattle.rules.specs.Faulty.{many_transitions, wrong_initial, wrong_degrees, wrong_label, wrong_target}
use Rattle.rules.specs.Faulty.{FaultyActions, no_action_words, wrong_action_words, many_action_nodes}
use Rattle.rules.specs.Faulty.{action_kind_too_large, action_not_zero, action_no_label, action_not_right, action_unfinished}
use Rattle.rules.specs.Faulty.{EnclosingFixpoint, FaultyFormula, no_formula_words, wrong_formula_words}
use Rattle.rules.specs.Faulty.{no_formula_nodes, many_formula_nodes, formula_kind_too_large, formula_not_zero}
use Rattle.rules.specs.Faulty.{formula_not_right, formula_no_action, formula_no_root, formula_unfinished}
use Rattle.rules.specs.Faulty.{formula_left_over, wrong_reference}
use Rattle.rules.proofs.Print.{words}
use Rattle.rules.proofs.Unfold.{every_rule}

-- ---- 1, 2

pub room_faults :
    FaultyRoom (room_of 0 1) 6 2 1 0
    × FaultyRoom (room_of 1_048_577 1) 5_242_891 8_388_618 1 0
    × FaultyRoom (room_of 1 0) 9 8 1 0
    × FaultyRoom (room_of 1 4_194_305) 8_388_619 8_388_618 1 0
    × FaultyRoom (room_of 6 8) 49 64 2 0
    × FaultyRoom (room_of 6 8) 51 64 2 0
    × FaultyRoom (room_of 6 8) 38 64 2 0
    × FaultyRoom (room_of 6 8) 50 63 2 0
    × FaultyRoom (room_of 6 8) 50 65 2 0
unfolding every_rule
room_faults = (
  few_vertices (lit< tt),
  many_vertices (lit< tt),
  few_edges (lit< tt),
  many_edges (lit< tt),
  wrong_game (eqb-false _ _ refl),
  wrong_game (eqb-false _ _ refl),
  wrong_game (eqb-false _ _ refl),
  wrong_work (eqb-false _ _ refl),
  wrong_work (eqb-false _ _ refl),
)

-- ---- 11 to 13

pub label_faults :
    FaultyLabels (words "1") 11 0
    × FaultyLabels (words "1 1, 0") 11 0
    × FaultyLabels (words "1 1, 0, 7 0") 11 0
    × FaultyLabels (words "4097 0") 12 0
    × FaultyLabels (words "0 16385") 12 0
    × FaultyLabels (words "1 1, 1, 7") 13 2
    × FaultyLabels (words "1 2, 0 1, 7 7") 13 3
    × FaultyLabels (words "2 2, 1 0, 7 7") 13 3
    × FaultyLabels (words "2 3, 1 1 0, 7 7 7") 13 4
unfolding every_rule
label_faults = (
  few_label_words (lit< tt),
  wrong_label_words (eqb-false _ _ refl),
  wrong_label_words (eqb-false _ _ refl),
  many_labels (lit< tt),
  many_actions (lit< tt),
  label_too_large 2 (lit≤ tt) (lit< tt) (lit≤ tt),
  label_too_large 3 (lit≤ tt) (lit< tt) (lit≤ tt),
  label_falls 2 (lit≤ tt) (lit< tt) (lit< tt),
  label_falls 3 (lit≤ tt) (lit< tt) (lit< tt),
)

-- ---- 21 to 26, for one label

pub system_faults :
    FaultySystem 1 (words "1 0") 21 0
    × FaultySystem 1 (words "1 1 0, 1, 0") 21 0
    × FaultySystem 1 (words "1 1 0, 1, 0, 0 0") 21 0
    × FaultySystem 1 (words "0 0 0") 22 0
    × FaultySystem 1 (words "65536 0 0") 22 0
    × FaultySystem 1 (words "1 262145 0") 22 0
    × FaultySystem 1 (words "2 0 2") 23 2
    × FaultySystem 1 (words "1 1 0, 0, 0, 0") 24 1
    × FaultySystem 1 (words "1 1 0, 2, 0, 0") 24 1
    × FaultySystem 1 (words "1 1 0, 1, 1, 0") 25 4
    × FaultySystem 1 (words "1 2 0, 2, 0 1, 0 0") 25 5
    × FaultySystem 1 (words "1 1 0, 1, 0, 1") 26 5
    × FaultySystem 1 (words "1 2 0, 2, 0 0, 0 1") 26 7
unfolding every_rule
system_faults = (
  few_system_words (lit< tt),
  wrong_system_words (eqb-false _ _ refl),
  wrong_system_words (eqb-false _ _ refl),
  few_states (lit< tt),
  many_states (lit< tt),
  many_transitions (lit< tt),
  wrong_initial (lit≤ tt),
  wrong_degrees (eqb-false _ _ refl),
  wrong_degrees (eqb-false _ _ refl),
  wrong_label 0 (lit< tt) (lit≤ tt),
  wrong_label 1 (lit< tt) (lit≤ tt),
  wrong_target 0 (lit< tt) (lit≤ tt),
  wrong_target 1 (lit< tt) (lit≤ tt),
)

-- ---- 31 to 34, of one label: operands of true, false, negation, multi-action, union, intersection; an unfinished tree

pub action_faults :
    FaultyActions 1 [] 31 0
    × FaultyActions 1 (words "1; 2") 31 0
    × FaultyActions 1 (words "1; 2; 0 0") 31 0
    × FaultyActions 1 (words "1025") 32 0
    × FaultyActions 1 (words "2; 5 6; 0 0") 33 1
    × FaultyActions 1 (words "1; 0; 1") 34 0
    × FaultyActions 1 (words "1; 1; 1") 34 0
    × FaultyActions 1 (words "2; 5 0; 1 0") 34 0
    × FaultyActions 1 (words "1; 2; 1") 34 0
    × FaultyActions 1 (words "3; 3 0 1; 1 0 0") 34 0
    × FaultyActions 1 (words "3; 4 0 1; 3 0 0") 34 0
    × FaultyActions 1 (words "2; 0 5; 0 0") 34 2
unfolding every_rule
action_faults = (
  no_action_words refl,
  wrong_action_words (eqb-false _ _ refl),
  wrong_action_words (eqb-false _ _ refl),
  many_action_nodes (lit< tt),
  action_kind_too_large 1 (lit< tt) (lit< tt),
  action_not_zero 0 (lit< tt) (inl refl) (eqb-false _ _ refl),
  action_not_zero 0 (lit< tt) (inr (inl refl)) (eqb-false _ _ refl),
  action_not_zero 0 (lit< tt) (inr (inr (inl refl))) (eqb-false _ _ refl),
  action_no_label 0 (lit< tt) refl (lit≤ tt),
  action_not_right 0 2 (lit< tt) (inl refl) refl (eqb-false _ _ refl),
  action_not_right 0 2 (lit< tt) (inr (inl refl)) refl (eqb-false _ _ refl),
  action_unfinished 1 (lit< tt) refl,
)

-- ---- 41 to 45

-- one more than the node just past a tree, and 0 if it is unfinished
abbrev ending : Option ℕ → ℕ
ending none = 0
ending (some e) = suc e

-- no tree begins past the table's end
past_end : (children : ℕ → ℕ) (left v e : ℕ) → left ≡ 0 → ¬ (end_of_trees children left v 1 ≡ some e)
unfolding end_of_trees
past_end children zero v e z t = let q = ap ending t in omega (arith, q)
past_end children (suc left) v e z t = omega (arith, z)

-- in a row of one tree, the negation of true, node 1 is no root
not_root : (v : ℕ) → Root (action_children (words "2; 5 0; 0 0")) 2 v → ¬ (v ≡ 1)
unfolding every_rule
not_root v first_root q = omega (arith, q)
not_root v (next_root zero e r t) q = let p = ap ending t in omega (arith, p, q)
not_root v (next_root (suc zero) e r t) q = not_root 1 r refl
not_root v (next_root (suc (suc u)) e r t) q = past_end _ (2 - suc (suc u)) (suc (suc u)) e (omega arith) t

-- a node of kind 5 is no fixpoint; a fixpoint that comes later, and one whose tree ends just before, do not enclose
no_fixpoint : ¬ EnclosingFixpoint (words "2; 5 8; 0 0") 0 1
no_fixpoint e = go e.fixpoint
  where
    go : ¬ In {A = ℕ} 5 (6 ∷ 7 ∷ [])
    go (inl q) = omega (arith, q)
    go (inr (inl q)) = omega (arith, q)
    go (inr (inr q)) = q

later_fixpoint : ¬ EnclosingFixpoint (words "4; 2 8 6 0; 2 2 0 0") 2 1
later_fixpoint e = let h = e.before in omega (arith, h)

fixpoint_beside : ¬ EnclosingFixpoint (words "4; 2 6 0 8; 3 0 0 1") 1 3
unfolding every_rule
fixpoint_beside e =
    let p : ◌≡◌ {A = ℕ} 4 (suc e.past) = ap ending e.ends in
    let h = e.inside in
    omega (arith, p, h)

-- for these action formulas
abbrev FaultyOver : (acts f : List ℕ) → (n p : ℕ) → Type 0
FaultyOver acts f = FaultyFormula (action_children acts) (size acts) f

-- operands of true, false, least, greatest, and, or, box, diamond; an unfinished tree, nodes left over; references to a
-- node that is no fixpoint, to a fixpoint that comes later, and to one whose tree ends just before
pub formula_faults :
    FaultyOver (words "1; 2; 0") [] 41 0
    × FaultyOver (words "1; 2; 0") (words "1; 0") 41 0
    × FaultyOver (words "1; 2; 0") (words "1; 0; 0 0") 41 0
    × FaultyOver (words "1; 2; 0") (words "0") 42 0
    × FaultyOver (words "1; 2; 0") (words "1025") 42 0
    × FaultyOver (words "1; 2; 0") (words "2; 7 9; 0 0") 43 1
    × FaultyOver (words "1; 2; 0") (words "1; 0; 1") 44 0
    × FaultyOver (words "1; 2; 0") (words "1; 1; 1") 44 0
    × FaultyOver (words "1; 2; 0") (words "2; 6 0; 1 0") 44 0
    × FaultyOver (words "1; 2; 0") (words "2; 7 0; 1 0") 44 0
    × FaultyOver (words "1; 2; 0") (words "3; 2 0 0; 1 0 0") 44 0
    × FaultyOver (words "1; 2; 0") (words "3; 3 0 0; 3 0 0") 44 0
    × FaultyOver (words "1; 2; 0") (words "2; 4 0; 1 0") 44 0
    × FaultyOver (words "1; 2; 0") (words "2; 5 0; 1 0") 44 0
    × FaultyOver (words "2; 5 0; 0 0") (words "2; 4 0; 1 0") 44 0
    × FaultyOver (words "2; 5 0; 0 0") (words "2; 5 0; 1 0") 44 0
    × FaultyOver (words "1; 2; 0") (words "1; 6; 0") 44 1
    × FaultyOver (words "1; 2; 0") (words "3; 0 0 0; 0 0 0") 44 1
    × FaultyOver (words "1; 2; 0") (words "2; 5 8; 0 0") 45 1
    × FaultyOver (words "1; 2; 0") (words "4; 2 8 6 0; 2 2 0 0") 45 1
    × FaultyOver (words "1; 2; 0") (words "4; 2 6 0 8; 3 0 0 1") 45 3
unfolding every_rule
formula_faults = (
  no_formula_words refl,
  wrong_formula_words (eqb-false _ _ refl),
  wrong_formula_words (eqb-false _ _ refl),
  no_formula_nodes (lit< tt),
  many_formula_nodes (lit< tt),
  formula_kind_too_large 1 (lit< tt) (lit< tt),
  formula_not_zero 0 (lit< tt) (inl refl) (eqb-false _ _ refl),
  formula_not_zero 0 (lit< tt) (inr (inl refl)) (eqb-false _ _ refl),
  formula_not_zero 0 (lit< tt) (inr (inr (inl refl))) (eqb-false _ _ refl),
  formula_not_zero 0 (lit< tt) (inr (inr (inr (inl refl)))) (eqb-false _ _ refl),
  formula_not_right 0 2 (lit< tt) (inl refl) refl (eqb-false _ _ refl),
  formula_not_right 0 2 (lit< tt) (inr (inl refl)) refl (eqb-false _ _ refl),
  formula_no_action 0 (lit< tt) (inl refl) (lit≤ tt),
  formula_no_action 0 (lit< tt) (inr (inl refl)) (lit≤ tt),
  formula_no_root 0 (lit< tt) (inl refl) (λ r. not_root 1 r refl),
  formula_no_root 0 (lit< tt) (inr (inl refl)) (λ r. not_root 1 r refl),
  formula_unfinished refl,
  formula_left_over 1 refl (lit< tt),
  wrong_reference 1 (lit< tt) refl no_fixpoint,
  wrong_reference 1 (lit< tt) refl later_fixpoint,
  wrong_reference 3 (lit< tt) refl fixpoint_beside,
)

-- ---- what is just right: no fault, or none of the number (a list is written out where a text would be read often)

pub least_room_right : (n p : ℕ) → ¬ FaultyRoom (room_of 1 1) 11 10 n p
unfolding every_rule
least_room_right n p (few_vertices h) = omega (arith, h)
least_room_right n p (many_vertices h) = omega (arith, h)
least_room_right n p (few_edges h) = omega (arith, h)
least_room_right n p (many_edges h) = omega (arith, h)
least_room_right n p (wrong_game h) = h refl
least_room_right n p (wrong_work h) = h refl

pub most_room_right : (n p : ℕ) → ¬ FaultyRoom (room_of 1_048_576 4_194_304) 13_631_492 16_777_216 n p
unfolding every_rule
most_room_right n p (few_vertices h) = omega (arith, h)
most_room_right n p (many_vertices h) = omega (arith, h)
most_room_right n p (few_edges h) = omega (arith, h)
most_room_right n p (many_edges h) = omega (arith, h)
most_room_right n p (wrong_game h) = h refl
most_room_right n p (wrong_work h) = h refl

-- label numbers below L that do not fall
pub labels_right : (n p : ℕ) → ¬ FaultyLabels (words "2 2, 1 1, 7 7") n p
unfolding every_rule
labels_right n p (few_label_words h) = omega (arith, h)
labels_right n p (wrong_label_words h) = h refl
labels_right n p (many_labels h) = omega (arith, h)
labels_right n p (many_actions h) = omega (arith, h)
labels_right n p (label_too_large zero a b h) = omega (arith, a)
labels_right n p (label_too_large (suc zero) a b h) = omega (arith, a)
labels_right n p (label_too_large (suc (suc zero)) a b h) = omega (arith, h)
labels_right n p (label_too_large (suc (suc (suc zero))) a b h) = omega (arith, h)
labels_right n p (label_too_large (suc (suc (suc (suc w)))) a b h) = omega (arith, b)
labels_right n p (label_falls zero a b h) = omega (arith, a)
labels_right n p (label_falls (suc zero) a b h) = omega (arith, a)
labels_right n p (label_falls (suc (suc zero)) a b h) = omega (arith, h)
labels_right n p (label_falls (suc (suc (suc w))) a b h) = omega (arith, b)

pub most_labels_right : (n p : ℕ) → FaultyLabels (words "4096 16384") n p → ¬ (n ≡ 12)
unfolding every_rule
most_labels_right n p (few_label_words h) q = omega (arith, q)
most_labels_right n p (wrong_label_words h) q = omega (arith, q)
most_labels_right n p (many_labels h) q = omega (arith, h)
most_labels_right n p (many_actions h) q = omega (arith, h)
most_labels_right n p (label_too_large w a b h) q = omega (arith, q)
most_labels_right n p (label_falls w a b h) q = omega (arith, q)

-- the last state, the last label, the last target
pub system_right : (n p : ℕ) → ¬ FaultySystem 1 (2 ∷ 1 ∷ 1 ∷ 0 ∷ 1 ∷ 0 ∷ 1 ∷ []) n p
unfolding every_rule
system_right n p (few_system_words h) = omega (arith, h)
system_right n p (wrong_system_words h) = h refl
system_right n p (few_states h) = omega (arith, h)
system_right n p (many_states h) = omega (arith, h)
system_right n p (many_transitions h) = omega (arith, h)
system_right n p (wrong_initial h) = omega (arith, h)
system_right n p (wrong_degrees h) = h refl
system_right n p (wrong_label zero a h) = omega (arith, h)
system_right n p (wrong_label (suc t) a h) = omega (arith, a)
system_right n p (wrong_target zero a h) = omega (arith, h)
system_right n p (wrong_target (suc t) a h) = omega (arith, a)

-- one state, no transition
pub least_system_right : (n p : ℕ) → ¬ FaultySystem 1 (1 ∷ 0 ∷ 0 ∷ 0 ∷ []) n p
unfolding every_rule
least_system_right n p (few_system_words h) = omega (arith, h)
least_system_right n p (wrong_system_words h) = h refl
least_system_right n p (few_states h) = omega (arith, h)
least_system_right n p (many_states h) = omega (arith, h)
least_system_right n p (many_transitions h) = omega (arith, h)
least_system_right n p (wrong_initial h) = omega (arith, h)
least_system_right n p (wrong_degrees h) = h refl
least_system_right n p (wrong_label t a h) = omega (arith, a)
least_system_right n p (wrong_target t a h) = omega (arith, a)

pub most_system_right : (n p : ℕ) → FaultySystem 1 (65535 ∷ 262144 ∷ []) n p → ¬ (n ≡ 22)
unfolding every_rule
most_system_right n p (few_system_words h) q = omega (arith, q)
most_system_right n p (wrong_system_words h) q = omega (arith, q)
most_system_right n p (few_states h) q = omega (arith, h)
most_system_right n p (many_states h) q = omega (arith, h)
most_system_right n p (many_transitions h) q = omega (arith, h)
most_system_right n p (wrong_initial h) q = omega (arith, q)
most_system_right n p (wrong_degrees h) q = omega (arith, q)
most_system_right n p (wrong_label t a h) q = omega (arith, q)
most_system_right n p (wrong_target t a h) q = omega (arith, q)

-- a kind is in a list, or not
first_false : (a b : Bool) → (a || b) ≡ false → a ≡ false
first_false false b e = refl
first_false true b e = e

second_false : (a b : Bool) → (a || b) ≡ false → b ≡ false
second_false false b e = e
second_false true b e = let q = ap one e in absurd (omega (arith, q))

apart : (k : ℕ) (ks : List ℕ) → has eqb k ks ≡ false → ¬ In k ks
unfolding has
apart k [] e m = m
apart k (j ∷ js) e (inl q) = eqb-false k j (first_false _ _ e) q
apart k (j ∷ js) e (inr m) = apart k js (second_false (eqb k j) _ e) m

-- true or label 0, of one label
pub actions_right : (n p : ℕ) → ¬ FaultyActions 1 (3 ∷ 3 ∷ 0 ∷ 2 ∷ 2 ∷ 0 ∷ 0 ∷ []) n p
unfolding every_rule
actions_right n p (no_action_words h) = omega (arith, h)
actions_right n p (wrong_action_words h) = h refl
actions_right n p (many_action_nodes h) = omega (arith, h)
actions_right n p (action_kind_too_large zero a h) = omega (arith, h)
actions_right n p (action_kind_too_large (suc zero) a h) = omega (arith, h)
actions_right n p (action_kind_too_large (suc (suc zero)) a h) = omega (arith, h)
actions_right n p (action_kind_too_large (suc (suc (suc v))) a h) = omega (arith, a)
actions_right n p (action_not_zero zero a k h) = apart 3 (words "0 1 5") refl k
actions_right n p (action_not_zero (suc zero) a k h) = h refl
actions_right n p (action_not_zero (suc (suc zero)) a k h) = apart 2 (words "0 1 5") refl k
actions_right n p (action_not_zero (suc (suc (suc v))) a k h) = omega (arith, a)
actions_right n p (action_no_label zero a k h) = omega (arith, k)
actions_right n p (action_no_label (suc zero) a k h) = omega (arith, k)
actions_right n p (action_no_label (suc (suc zero)) a k h) = omega (arith, h)
actions_right n p (action_no_label (suc (suc (suc v))) a k h) = omega (arith, a)
actions_right n p (action_not_right zero e a k t h) = let q = ap ending t in h (omega (arith, q))
actions_right n p (action_not_right (suc zero) e a k t h) = apart 0 (words "3 4") refl k
actions_right n p (action_not_right (suc (suc zero)) e a k t h) = apart 2 (words "3 4") refl k
actions_right n p (action_not_right (suc (suc (suc v))) e a k t h) = omega (arith, a)
actions_right n p (action_unfinished zero a t) = let q = ap ending t in omega (arith, q)
actions_right n p (action_unfinished (suc zero) a t) = let q = ap ending t in omega (arith, q)
actions_right n p (action_unfinished (suc (suc zero)) a t) = let q = ap ending t in omega (arith, q)
actions_right n p (action_unfinished (suc (suc (suc v))) a t) = omega (arith, a)

pub most_actions_right : (n p : ℕ) → FaultyActions 1 (words "1024") n p → ¬ (n ≡ 32)
unfolding every_rule
most_actions_right n p (no_action_words h) q = omega (arith, q)
most_actions_right n p (wrong_action_words h) q = omega (arith, q)
most_actions_right n p (many_action_nodes h) q = omega (arith, h)
most_actions_right n p (action_kind_too_large v a h) q = omega (arith, q)
most_actions_right n p (action_not_zero v a k h) q = omega (arith, q)
most_actions_right n p (action_no_label v a k h) q = omega (arith, q)
most_actions_right n p (action_not_right v e a k t h) q = omega (arith, q)
most_actions_right n p (action_unfinished v a t) q = omega (arith, q)

-- the fixpoints of a formula's references enclose them: the node before, the last node of the tree
pub enclosing_fixpoints : EnclosingFixpoint (words "2; 6 8; 0 0") 0 1 × EnclosingFixpoint (words "3; 7 5 8; 0 0 0") 0 2
unfolding every_rule
enclosing_fixpoints = (
  record { fixpoint = inl refl; before = lit< tt; past = 2; ends = refl; inside = lit< tt },
  record { fixpoint = inr (inl refl); before = lit< tt; past = 3; ends = refl; inside = lit< tt },
)

-- case 1
pub formula_right : (n p : ℕ) → ¬ FaultyOver (1 ∷ 2 ∷ 0 ∷ []) (3 ∷ 7 ∷ 5 ∷ 8 ∷ 0 ∷ 0 ∷ 0 ∷ []) n p
unfolding every_rule
formula_right n p (no_formula_words h) = omega (arith, h)
formula_right n p (wrong_formula_words h) = h refl
formula_right n p (no_formula_nodes h) = omega (arith, h)
formula_right n p (many_formula_nodes h) = omega (arith, h)
formula_right n p (formula_kind_too_large zero a h) = omega (arith, h)
formula_right n p (formula_kind_too_large (suc zero) a h) = omega (arith, h)
formula_right n p (formula_kind_too_large (suc (suc zero)) a h) = omega (arith, h)
formula_right n p (formula_kind_too_large (suc (suc (suc v))) a h) = omega (arith, a)
formula_right n p (formula_not_zero zero a k h) = h refl
formula_right n p (formula_not_zero (suc zero) a k h) = apart 5 (words "0 1 6 7") refl k
formula_right n p (formula_not_zero (suc (suc zero)) a k h) = apart 8 (words "0 1 6 7") refl k
formula_right n p (formula_not_zero (suc (suc (suc v))) a k h) = omega (arith, a)
formula_right n p (formula_not_right zero e a k t h) = apart 7 (words "2 3") refl k
formula_right n p (formula_not_right (suc zero) e a k t h) = apart 5 (words "2 3") refl k
formula_right n p (formula_not_right (suc (suc zero)) e a k t h) = apart 8 (words "2 3") refl k
formula_right n p (formula_not_right (suc (suc (suc v))) e a k t h) = omega (arith, a)
formula_right n p (formula_no_action zero a k h) = apart 7 (words "4 5") refl k
formula_right n p (formula_no_action (suc zero) a k h) = omega (arith, h)
formula_right n p (formula_no_action (suc (suc zero)) a k h) = apart 8 (words "4 5") refl k
formula_right n p (formula_no_action (suc (suc (suc v))) a k h) = omega (arith, a)
formula_right n p (formula_no_root zero a k h) = apart 7 (words "4 5") refl k
formula_right n p (formula_no_root (suc zero) a k h) = h first_root
formula_right n p (formula_no_root (suc (suc zero)) a k h) = apart 8 (words "4 5") refl k
formula_right n p (formula_no_root (suc (suc (suc v))) a k h) = omega (arith, a)
formula_right n p (formula_unfinished t) = let q = ap ending t in omega (arith, q)
formula_right n p (formula_left_over e t h) = let q = ap ending t in omega (arith, q, h)
formula_right n p (wrong_reference zero a k h) = omega (arith, k)
formula_right n p (wrong_reference (suc zero) a k h) = omega (arith, k)
formula_right n p (wrong_reference (suc (suc zero)) a k h) = h enclosing_fixpoints.1
formula_right n p (wrong_reference (suc (suc (suc v))) a k h) = omega (arith, a)

pub least_formula_right : (n p : ℕ) → FaultyOver (words "1; 2; 0") (words "1") n p → ¬ (n ≡ 42)
unfolding every_rule
least_formula_right n p (no_formula_words h) q = omega (arith, q)
least_formula_right n p (wrong_formula_words h) q = omega (arith, q)
least_formula_right n p (no_formula_nodes h) q = omega (arith, h)
least_formula_right n p (many_formula_nodes h) q = omega (arith, h)
least_formula_right n p (formula_kind_too_large v a h) q = omega (arith, q)
least_formula_right n p (formula_not_zero v a k h) q = omega (arith, q)
least_formula_right n p (formula_not_right v e a k t h) q = omega (arith, q)
least_formula_right n p (formula_no_action v a k h) q = omega (arith, q)
least_formula_right n p (formula_no_root v a k h) q = omega (arith, q)
least_formula_right n p (formula_unfinished t) q = omega (arith, q)
least_formula_right n p (formula_left_over e t h) q = omega (arith, q)
least_formula_right n p (wrong_reference v a k h) q = omega (arith, q)

pub most_formula_right : (n p : ℕ) → FaultyOver (words "1; 2; 0") (words "1024") n p → ¬ (n ≡ 42)
unfolding every_rule
most_formula_right n p (no_formula_words h) q = omega (arith, q)
most_formula_right n p (wrong_formula_words h) q = omega (arith, q)
most_formula_right n p (no_formula_nodes h) q = omega (arith, h)
most_formula_right n p (many_formula_nodes h) q = omega (arith, h)
most_formula_right n p (formula_kind_too_large v a h) q = omega (arith, q)
most_formula_right n p (formula_not_zero v a k h) q = omega (arith, q)
most_formula_right n p (formula_not_right v e a k t h) q = omega (arith, q)
most_formula_right n p (formula_no_action v a k h) q = omega (arith, q)
most_formula_right n p (formula_no_root v a k h) q = omega (arith, q)
most_formula_right n p (formula_unfinished t) q = omega (arith, q)
most_formula_right n p (formula_left_over e t h) q = omega (arith, q)
most_formula_right n p (wrong_reference v a k h) q = omega (arith, q)
