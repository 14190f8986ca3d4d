-- The targets of a pair of a state and an item are such pairs. Assumes nothing.
use mathlib.Core.Path.{◌≡◌, refl, sym, ap, ap₂, subst, ◌∙◌}
use mathlib.Core.Logic.{◌⊎◌, inl, inr}
use mathlib.Core.List.{List, [], ◌∷◌, ◌++◌, map}
use Prim.Native.Nat.{ℕ, zero, suc, ◌+◌, ◌*◌, ◌≤◌, ◌<◌}
use native.Mathlib.Decide.{dec_lt, ℕ_discrete}
use native.Mathlib.Nat.{zero-mul, suc-mul}
use native.Mathlib.Omega.{arith}
use lib.ListN.{length, length-append, length-map}
use Rattle.rules.specs.Lists.{In, from, sum_words}
use Rattle.rules.specs.Words.{Input}
use Rattle.rules.specs.Labels.{label_count, multiset}
use Rattle.rules.specs.System.{state_count, transition_count, degree, transition_label, transition_target, first_transition, transitions}
use Rattle.rules.specs.Table.{size}
use Rattle.rules.specs.Actions.{Action, matches}
use Rattle.rules.specs.Formula.{equation_count, equation_of, Formula, truth, falsity, conjunction, disjunction, box, diamond, reference, formula_tree, body_tree}
use Rattle.rules.specs.Items.{Item, equation, subformula, items, item_number}
use Rattle.rules.specs.Pairs.{Pair, initial_pair, item_at, matching_transitions, successors}
use Rattle.rules.specs.Pairs.{formula_targets, item_targets, targets}
use Rattle.rules.specs.Reach.{pair_count}
use Rattle.tables.specs.Good.{GoodSystem, GoodInput}
use Rattle.lists.proofs.Members.{in_left, in_right, in_either, map_in, in_map}
use Rattle.lists.proofs.Filters.{filter_in}
use Rattle.lists.proofs.Inserts.{once_in}
use Rattle.lists.proofs.Equalities.{number_equality}
use Rattle.trees.proofs.Equations.{good_some_equation}
use Rattle.arena.specs.Arena.{BodyNode, Carried, Parts, Inside, pairs_of_states, all_pairs}
use Rattle.lists.proofs.Ranges.{from-length, from_in, in_from}
use Rattle.arena.proofs.ItemNumbers.{items_count, item_equation, item_below, item_subformula, item_carried}
use Rattle.arena.proofs.Parts.{carried_parts, body_carried}
use Rattle.lists.proofs.Sums.{sum_grows}

-- ---- transitions

module _ (l : ℕ) (ss : List ℕ) (good : GoodSystem l ss) (s : ℕ) (h : s < state_count ss) where
  -- the transitions of a state are some of all
  pub transitions_within : first_transition ss s + degree ss s ≤ transition_count ss
  unfolding first_transition sum_words
  transitions_within = let a = sum_grows ss 3 (suc s) (state_count ss) h in let b = good.total in omega arith

  pub transition_inside : (t : ℕ) → In t (transitions ss s)
      → (transition_label ss t < l) × (transition_target ss t < state_count ss)
  unfolding transitions
  transition_inside t m =
      let (a, b) = in_from t (first_transition ss s) (degree ss s) m in
      let w = transitions_within in
      (good.labels t (omega arith), good.targets t (omega arith))

-- a matching transition is a transition
pub matching_in : (x : Input) (a : Action) (s t : ℕ) → In t (matching_transitions x a s)
    → In t (transitions x.system s)
unfolding matching_transitions
matching_in x a s t m =
    filter_in (λ u. matches (multiset x.labels (transition_label x.system u)) a) t (transitions x.system s) m

module _ (x : Input) (good : GoodInput x) where
  pub successor_inside : (a : Action) (s t : ℕ) → s < state_count x.system → In t (successors x a s) → t < state_count x.system
  unfolding successors
  successor_inside a s t h m =
      let met = map (transition_target x.system) (matching_transitions x a s) in
      let among = (once_in number_equality met t).0 m in
      let (i, k, e) = in_map (transition_target x.system) t (matching_transitions x a s) among in
      let own = matching_in x a s i k in
      omega (arith, e, (transition_inside (label_count x.labels) x.system good.system s h i own).1)

  -- ---- items

  -- an item is an equation or a subformula that a body node carries
  pub item_cases : (P : Item → Type 0) (q : ℕ) → q < length (items x)
      → (q < equation_count x.formula → P (equation (equation_of x.formula q)))
      → ((t : Formula) → Carried x t → item_number x t ≡ q → P (subformula t))
      → P (item_at x q)
  item_cases P q h of-equation of-subformula = go (dec_lt q (equation_count x.formula))
    where
      carried : (v : ℕ) × BodyNode x.formula v × (item_number x (formula_tree x v) ≡ q) → P (item_at x q)
      carried (v, b, e) =
          let c : Carried x (formula_tree x v) = (v, b, refl) in
          subst (λ (i : ℕ). P (item_at x i)) e (subst P (sym (item_subformula x (formula_tree x v) c)) (of-subformula (formula_tree x v) c e))

      go : Dec (q < equation_count x.formula) → P (item_at x q)
      go (yes l) = subst P (sym (item_equation x q l)) (of-equation l)
      go (no n) = carried (item_carried x q (omega arith) h)

  -- ---- targets

  keeps : (s i : ℕ) (q : Pair) → s < state_count x.system → i < length (items x) → q ≡ (s, i) → Inside x q
  keeps s i q a b e =
      let p = ap (λ (z : Pair). z.0) e in
      let r = ap (λ (z : Pair). z.1) e in
      (omega arith, omega arith)

  two : (s : ℕ) (l r : Formula) (q : Pair) → s < state_count x.system → Carried x l → Carried x r → In q ((s, item_number x l) ∷ (s, item_number x r) ∷ []) → Inside x q
  two s l r q h c d (inl e) = keeps s (item_number x l) q h (item_below x l c) e
  two s l r q h c d (inr (inl e)) = keeps s (item_number x r) q h (item_below x r d) e
  two s l r q h c d (inr (inr m)) = absurd m

  modal : (a : Action) (s : ℕ) (b : Formula) (q : Pair) → s < state_count x.system → Carried x b → In q (map (λ t. (t, item_number x b)) (successors x a s)) → Inside x q
  modal a s b q h c m =
      let (t, k, e) = in_map (λ t. (t, item_number x b)) q (successors x a s) m in
      keeps t (item_number x b) q (successor_inside a s t h k) (item_below x b c) e

  formula_inside : (s : ℕ) (t : Formula) (q : Pair) → s < state_count x.system → Parts x t → In q (formula_targets x s t) → Inside x q
  unfolding formula_targets
  formula_inside s truth q h p m = absurd m
  formula_inside s falsity q h p m = absurd m
  formula_inside s (conjunction l r) q h p m = two s l r q h p.0 p.1 m
  formula_inside s (disjunction l r) q h p m = two s l r q h p.0 p.1 m
  formula_inside s (box a b) q h p m = modal a s b q h p m
  formula_inside s (diamond a b) q h p m = modal a s b q h p m
  formula_inside s (reference i) q h p (inl e) = keeps s i q h (let c = items_count x in omega arith) e
  formula_inside s (reference i) q h p (inr m) = absurd m

  pub targets_inside : (p q : Pair) → Inside x p → In q (targets x p) → Inside x q
  unfolding targets item_targets
  targets_inside p q (a, b) =
      item_cases (λ i. In q (item_targets x p.0 i) → Inside x q) p.1 b
      (λ l m. only l m)
      (λ t c e m. formula_inside p.0 t q a (carried_parts x good t c) m)
    where
      only : p.1 < equation_count x.formula → In q ((p.0, item_number x (body_tree x (equation_of x.formula p.1))) ∷ []) → Inside x q
      only l (inl e) = keeps p.0 (item_number x (body_tree x (equation_of x.formula p.1))) q a (item_below x (body_tree x (equation_of x.formula p.1)) (body_carried x good p.1 l)) e
      only l (inr m) = absurd m

  pub initial_inside : Inside x (initial_pair x)
  initial_inside =
      let c = items_count x in
      let e = good_some_equation (size x.actions) x.formula good.formula in
      (good.system.initial, omega arith)

-- ---- all pairs

states_length : (n count : ℕ) → length (pairs_of_states n count) ≡ n * count
unfolding pairs_of_states
states_length zero count = sym (zero-mul count)
states_length (suc n) count =
    length-append (pairs_of_states n count) (map (λ q. (n, q)) (from 0 count))
    ∙ ap₂ ◌+◌ (states_length n count) (length-map (from 0 count) (λ q. (n, q)) ∙ from-length 0 count)
    ∙ sym (suc-mul n count)

states_in : (n count s q : ℕ) → s < n → q < count → In (s, q) (pairs_of_states n count)
unfolding pairs_of_states
states_in zero count s q a b = absurd (omega arith)
states_in (suc n) count s q a b = go (λ h. states_in n count s q h b) (ℕ_discrete s n)
  where
    go : (s < n → In (s, q) (pairs_of_states n count)) → Dec (s ≡ n) → In (s, q) (pairs_of_states n count ++ map (λ r. (n, r)) (from 0 count))
    go f (yes e) = in_right (s, q) (pairs_of_states n count) (map (λ r. (n, r)) (from 0 count)) (rw e (map_in (λ r. (n, r)) q (from 0 count) (from_in q 0 count (omega arith) (omega arith))))
    go f (no d) = in_left (s, q) (pairs_of_states n count) (map (λ r. (n, r)) (from 0 count)) (f (omega arith))

in_states : (n count : ℕ) (p : Pair) → In p (pairs_of_states n count) → (p.0 < n) × (p.1 < count)
unfolding pairs_of_states
in_states zero count p m = absurd m
in_states (suc n) count p m = go (λ k. in_states n count p k) (in_either p (pairs_of_states n count) (map (λ r. (n, r)) (from 0 count)) m)
  where
    go : (In p (pairs_of_states n count) → (p.0 < n) × (p.1 < count)) → In p (pairs_of_states n count) ⊎ In p (map (λ r. (n, r)) (from 0 count)) → (p.0 < suc n) × (p.1 < count)
    go f (inl k) = let (a, b) = f k in (omega arith, b)
    go f (inr k) =
        let (q, i, e) = in_map (λ r. (n, r)) p (from 0 count) k in
        let (a, b) = in_from q 0 count i in
        let u = ap (λ (z : Pair). z.0) e in
        let w = ap (λ (z : Pair). z.1) e in
        (omega arith, omega arith)

module _ (x : Input) where
  pub all_pairs_length : length (all_pairs x) ≡ pair_count x
  unfolding all_pairs
  all_pairs_length = states_length (state_count x.system) (length (items x))

  pub inside_listed : (p : Pair) → Inside x p → In p (all_pairs x)
  unfolding all_pairs
  inside_listed p (a, b) = states_in (state_count x.system) (length (items x)) p.0 p.1 a b

  pub listed_inside : (p : Pair) → In p (all_pairs x) → Inside x p
  unfolding all_pairs
  listed_inside p m = in_states (state_count x.system) (length (items x)) p m

  module _ (good : GoodInput x) where
    pub initial_listed : In (initial_pair x) (all_pairs x)
    initial_listed = inside_listed (initial_pair x) (initial_inside x good)

    pub targets_listed : (p q : Pair) → In p (all_pairs x) → In q (targets x p) → In q (all_pairs x)
    targets_listed p q m k = inside_listed q (targets_inside x good p q (listed_inside p m) k)
