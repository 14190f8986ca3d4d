-- What is read off the tables: owner, targets and matching transitions of a pair off its item's entry, one law for each
-- kind that code tests; its priority. Assumes nothing.
use mathlib.Core.Path.{◌≡◌, refl, sym, ap, ap₂}
use mathlib.Core.List.{List, [], ◌∷◌, map}
use Prim.Native.Nat.{ℕ, ◌≤◌, ◌<◌}
use native.Mathlib.Omega.{arith}
use lib.ListN.{length}
use Rattle.rules.specs.Lists.{word}
use Rattle.rules.specs.Words.{Input}
use Rattle.rules.specs.Table.{size}
use Rattle.rules.specs.Actions.{Action, action_tree}
use Rattle.rules.specs.Formula.{Operator, least, greatest, equation_of, Formula, truth, falsity, conjunction, disjunction, box, diamond, reference, body_tree}
use Rattle.rules.specs.Depth.{Ranking}
use Rattle.rules.specs.Items.{Item, equation, subformula, items}
use Rattle.rules.specs.Pairs.{item_at, operator_owner, formula_owner, item_owner, owner, priority, successors, formula_targets, item_targets, targets}
use Rattle.rules.specs.Pairs.{matching_transitions, formula_transitions, item_transitions, modal_transitions}
use Rattle.tables.specs.Good.{GoodInput}
use Rattle.arena.specs.Arena.{Parts}
use Rattle.arena.proofs.ItemNumbers.{items_count, item_below}
use Rattle.arena.proofs.Parts.{carried_parts, body_carried}
use Rattle.arena.proofs.Inside.{item_cases}
use Rattle.item_table.specs.Entries.{operator_kind, ItemShown, Entry, Ranks, kind_owner}

operator-kind : (o : Operator) → (6 ≤ operator_kind o) × (operator_kind o ≤ 7)
operator-kind least = (omega arith, omega arith)
operator-kind greatest = (omega arith, omega arith)

operator-owner : (o : Operator) (k : ℕ) → k ≡ operator_kind o → operator_owner o ≡ kind_owner k
unfolding operator_owner kind_owner
operator-owner least k e = rw e refl
operator-owner greatest k e = rw e refl

-- ---- by items

module _ (x : Input) (k l r s : ℕ) where
  most : (i : Item) → ItemShown x i k l r → k ≤ 8
  most (equation e) (a, b, c) = omega (arith, operator-kind e.operator)
  most (subformula truth) (a, b, c) = omega arith
  most (subformula falsity) (a, b, c) = omega arith
  most (subformula (conjunction f g)) (a, b, c) = omega arith
  most (subformula (disjunction f g)) (a, b, c) = omega arith
  most (subformula (box t f)) (a, b, c) = omega arith
  most (subformula (diamond t f)) (a, b, c) = omega arith
  most (subformula (reference i)) (a, b, c) = omega arith

  none : (i : Item) → ItemShown x i k l r → k ≤ 1 → item_targets x s i ≡ []
  unfolding item_targets formula_targets
  none (equation e) (a, b, c) h = absurd (omega (arith, operator-kind e.operator))
  none (subformula truth) (a, b, c) h = refl
  none (subformula falsity) (a, b, c) h = refl
  none (subformula (conjunction f g)) (a, b, c) h = absurd (omega arith)
  none (subformula (disjunction f g)) (a, b, c) h = absurd (omega arith)
  none (subformula (box t f)) (a, b, c) h = absurd (omega arith)
  none (subformula (diamond t f)) (a, b, c) h = absurd (omega arith)
  none (subformula (reference i)) (a, b, c) h = absurd (omega arith)

  two : (i : Item) → ItemShown x i k l r → 2 ≤ k → k ≤ 3 → item_targets x s i ≡ (s, l) ∷ (s, r) ∷ []
  unfolding item_targets formula_targets
  two (equation e) (a, b, c) p q = absurd (omega (arith, operator-kind e.operator))
  two (subformula truth) (a, b, c) p q = absurd (omega arith)
  two (subformula falsity) (a, b, c) p q = absurd (omega arith)
  two (subformula (conjunction f g)) (a, b, c) p q = ap₂ (λ (m n : ℕ). (s, m) ∷ (s, n) ∷ []) (sym b) (sym c)
  two (subformula (disjunction f g)) (a, b, c) p q = ap₂ (λ (m n : ℕ). (s, m) ∷ (s, n) ∷ []) (sym b) (sym c)
  two (subformula (box t f)) (a, b, c) p q = absurd (omega arith)
  two (subformula (diamond t f)) (a, b, c) p q = absurd (omega arith)
  two (subformula (reference i)) (a, b, c) p q = absurd (omega arith)

  modal : (i : Item) → ItemShown x i k l r → 4 ≤ k → k ≤ 5
      → (r < size x.actions) × (item_targets x s i ≡ map (λ t. (t, l)) (successors x (action_tree x.labels x.actions r) s))
  unfolding item_targets formula_targets
  modal (equation e) (a, b, c) p q = absurd (omega (arith, operator-kind e.operator))
  modal (subformula truth) (a, b, c) p q = absurd (omega arith)
  modal (subformula falsity) (a, b, c) p q = absurd (omega arith)
  modal (subformula (conjunction f g)) (a, b, c) p q = absurd (omega arith)
  modal (subformula (disjunction f g)) (a, b, c) p q = absurd (omega arith)
  modal (subformula (box t f)) (a, b, c) p q = (c.0, ap₂ (λ (n : ℕ) (u : Action). map (λ t. (t, n)) (successors x u s)) (sym b) (sym c.1))
  modal (subformula (diamond t f)) (a, b, c) p q = (c.0, ap₂ (λ (n : ℕ) (u : Action). map (λ t. (t, n)) (successors x u s)) (sym b) (sym c.1))
  modal (subformula (reference i)) (a, b, c) p q = absurd (omega arith)

  one : (i : Item) → ItemShown x i k l r → 6 ≤ k → item_targets x s i ≡ (s, l) ∷ []
  unfolding item_targets formula_targets
  one (equation e) (a, b, c) p = ap (λ (n : ℕ). (s, n) ∷ []) (sym b)
  one (subformula truth) (a, b, c) p = absurd (omega arith)
  one (subformula falsity) (a, b, c) p = absurd (omega arith)
  one (subformula (conjunction f g)) (a, b, c) p = absurd (omega arith)
  one (subformula (disjunction f g)) (a, b, c) p = absurd (omega arith)
  one (subformula (box t f)) (a, b, c) p = absurd (omega arith)
  one (subformula (diamond t f)) (a, b, c) p = absurd (omega arith)
  one (subformula (reference i)) (a, b, c) p = ap (λ (n : ℕ). (s, n) ∷ []) (sym b)

  -- the transitions of a modality; where it is none there are none
  still : (i : Item) → ItemShown x i k l r → (4 ≤ k → 6 ≤ k) → item_transitions x s i ≡ []
  unfolding item_transitions formula_transitions
  still (equation e) (a, b, c) h = refl
  still (subformula truth) (a, b, c) h = refl
  still (subformula falsity) (a, b, c) h = refl
  still (subformula (conjunction f g)) (a, b, c) h = refl
  still (subformula (disjunction f g)) (a, b, c) h = refl
  still (subformula (box t f)) (a, b, c) h = absurd (omega (arith, a, h (omega arith)))
  still (subformula (diamond t f)) (a, b, c) h = absurd (omega (arith, a, h (omega arith)))
  still (subformula (reference i)) (a, b, c) h = refl

  moving : (i : Item) → ItemShown x i k l r → 4 ≤ k → k ≤ 5
      → item_transitions x s i ≡ matching_transitions x (action_tree x.labels x.actions r) s
  unfolding item_transitions formula_transitions
  moving (equation e) (a, b, c) p q = absurd (omega (arith, operator-kind e.operator))
  moving (subformula truth) (a, b, c) p q = absurd (omega arith)
  moving (subformula falsity) (a, b, c) p q = absurd (omega arith)
  moving (subformula (conjunction f g)) (a, b, c) p q = absurd (omega arith)
  moving (subformula (disjunction f g)) (a, b, c) p q = absurd (omega arith)
  moving (subformula (box t f)) (a, b, c) p q = ap (λ (u : Action). matching_transitions x u s) (sym c.1)
  moving (subformula (diamond t f)) (a, b, c) p q = ap (λ (u : Action). matching_transitions x u s) (sym c.1)
  moving (subformula (reference i)) (a, b, c) p q = absurd (omega arith)

  owned : (i : Item) → ItemShown x i k l r → item_owner i ≡ kind_owner k
  unfolding item_owner formula_owner kind_owner
  owned (equation e) (a, b, c) = operator-owner e.operator k a
  owned (subformula truth) (a, b, c) = rw a refl
  owned (subformula falsity) (a, b, c) = rw a refl
  owned (subformula (conjunction f g)) (a, b, c) = rw a refl
  owned (subformula (disjunction f g)) (a, b, c) = rw a refl
  owned (subformula (box t f)) (a, b, c) = rw a refl
  owned (subformula (diamond t f)) (a, b, c) = rw a refl
  owned (subformula (reference i)) (a, b, c) = rw a refl

  -- ---- the numbers are of items

  left-of : (f : Formula) → Parts x f → ItemShown x (subformula f) k l r → 2 ≤ k → l < length (items x)
  left-of truth d (a, b, c) p = absurd (omega arith)
  left-of falsity d (a, b, c) p = absurd (omega arith)
  left-of (conjunction f g) d (a, b, c) p = omega (arith, b, item_below x f d.0)
  left-of (disjunction f g) d (a, b, c) p = omega (arith, b, item_below x f d.0)
  left-of (box t f) d (a, b, c) p = omega (arith, b, item_below x f d)
  left-of (diamond t f) d (a, b, c) p = omega (arith, b, item_below x f d)
  left-of (reference i) d (a, b, c) p = omega (arith, b, d, items_count x)

  right_of : (f : Formula) → Parts x f → ItemShown x (subformula f) k l r → 2 ≤ k → k ≤ 3 → r < length (items x)
  right_of truth d (a, b, c) p q = absurd (omega arith)
  right_of falsity d (a, b, c) p q = absurd (omega arith)
  right_of (conjunction f g) d (a, b, c) p q = omega (arith, c, item_below x g d.1)
  right_of (disjunction f g) d (a, b, c) p q = omega (arith, c, item_below x g d.1)
  right_of (box t f) d (a, b, c) p q = absurd (omega arith)
  right_of (diamond t f) d (a, b, c) p q = absurd (omega arith)
  right_of (reference i) d (a, b, c) p q = absurd (omega arith)

pub ranks_priority : (rank : Ranking) (x : Input) (priorities : List ℕ) → Ranks rank x priorities
    → (s q : ℕ) → word priorities q ≡ priority rank x (s, q)
unfolding priority
ranks_priority rank x priorities r s q = r.ranked q

-- ---- by entries

module _ (x : Input) (q k l r s : ℕ) (e : Entry x q k l r) where
  pub entry_owner : owner x (s, q) ≡ kind_owner k
  unfolding owner
  entry_owner = owned x k l r s (item_at x q) e

  -- kinds 0 and 1
  pub entry-none : k ≤ 1 → targets x (s, q) ≡ []
  unfolding targets
  entry-none h = none x k l r s (item_at x q) e h

  -- kinds 2 and 3
  pub entry_two : 2 ≤ k → k ≤ 3 → targets x (s, q) ≡ (s, l) ∷ (s, r) ∷ []
  unfolding targets
  entry_two a b = two x k l r s (item_at x q) e a b

  -- kinds 4 and 5
  pub entry_modal : 4 ≤ k → k ≤ 5 → targets x (s, q) ≡ map (λ t. (t, l)) (successors x (action_tree x.labels x.actions r) s)
  unfolding targets
  entry_modal a b = (modal x k l r s (item_at x q) e a b).1

  pub entry_action : 4 ≤ k → k ≤ 5 → r < size x.actions
  entry_action a b = (modal x k l r s (item_at x q) e a b).0

  -- kinds 6, 7 and 8
  pub entry_one : 6 ≤ k → targets x (s, q) ≡ (s, l) ∷ []
  unfolding targets
  entry_one a = one x k l r s (item_at x q) e a

  -- the matching transitions: of kinds 4 and 5 alone
  pub entry_still : (4 ≤ k → 6 ≤ k) → modal_transitions x (s, q) ≡ []
  unfolding modal_transitions
  entry_still h = still x k l r s (item_at x q) e h

  pub entry_moving : 4 ≤ k → k ≤ 5
      → modal_transitions x (s, q) ≡ matching_transitions x (action_tree x.labels x.actions r) s
  unfolding modal_transitions
  entry_moving a b = moving x k l r s (item_at x q) e a b

  module _ (good : GoodInput x) (h : q < length (items x)) where
    pub entry-left : 2 ≤ k → l < length (items x)
    entry-left a =
        item_cases x good (λ i. ItemShown x i k l r → l < length (items x)) q h
        (λ u d. omega (arith, d.1, item_below x (body_tree x (equation_of x.formula q)) (body_carried x good q u)))
        (λ t c n d. left-of x k l r s t (carried_parts x good t c) d a)
        e

    pub entry_right : 2 ≤ k → k ≤ 3 → r < length (items x)
    entry_right a b =
        item_cases x good (λ i. ItemShown x i k l r → r < length (items x)) q h
        (λ u d. absurd (omega (arith, d.0, operator-kind (equation_of x.formula q).operator)))
        (λ t c n d. right_of x k l r s t (carried_parts x good t c) d a b)
        e
