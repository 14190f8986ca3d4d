-- The elements that chains of at most k targets lead to, each once; and from a number of targets on that no list of all
-- reachable elements exceeds, they are all reachable elements. Assumes nothing beyond the parameters.
use mathlib.Core.Path.{◌≡◌, refl, sym, ap, subst}
use mathlib.Core.Bool.{Bool}
use mathlib.Core.List.{List, [], ◌∷◌}
use mathlib.Core.Logic.{◌⊎◌, inl, inr, ⊎_elim}
use Prim.Native.Nat.{ℕ, zero, suc, ◌≤◌, ◌<◌}
use native.Mathlib.Decide.{dec_lt}
use native.Mathlib.Omega.{arith}
use lib.ListN.{length}
use Rattle.rules.specs.Lists.{In, Distinct, insert_all}
use Rattle.rules.specs.Reach.{Reachable, at_root, onward, all_targets, reached_in}
use Rattle.lists.specs.Shapes.{Equality, Begins}
use Rattle.lists.proofs.Members.{in_left, in_right, in_either, no_more}
use Rattle.lists.proofs.Shapes.{begins_in, begins_all}
use Rattle.lists.proofs.Inserts.{inserts_begins, inserts_holds, inserts_only, inserts_distinct}
use Rattle.walks.specs.Chains.{ReachableIn, none, more}

module _ {A : Type 0} (next : A → List A) (root : A) where
  -- what holds of the root and of the targets of what it holds of, holds of every reachable element
  pub reachable_inside : (P : A → Type 0) → P root → ((p : A) → P p → (q : A) → In q (next p) → P q) → (p : A) → Reachable next root p → P p
  reachable_inside P first on p at_root = first
  reachable_inside P first on p (onward {p = o} r m) = on o (reachable_inside P first on o r) p m

  chain_longer : (k : ℕ) (p : A) → ReachableIn next root k p → ReachableIn next root (suc k) p
  chain_longer k p none = none
  chain_longer k p (more c m) = more (chain_longer _ _ c) m

  pub chain_reachable : (k : ℕ) (p : A) → ReachableIn next root k p → Reachable next root p
  chain_reachable k p none = at_root
  chain_reachable k p (more c m) = onward (chain_reachable _ _ c) m

module _ {A : Type 0} {same : A → A → Bool} (eq : Equality same) (next : A → List A) (root : A) where
  pub targets-in : (ps : List A) (p q : A) → In p ps → In q (next p) → In q (all_targets same next root ps)
  unfolding all_targets
  targets-in [] p q m i = absurd m
  targets-in (o ∷ ps) p q (inl e) i = in_left q (next o) (all_targets same next root ps) (subst (λ (u : A). In q (next u)) e i)
  targets-in (o ∷ ps) p q (inr m) i = in_right q (next o) (all_targets same next root ps) (targets-in ps p q m i)

  pub in_targets : (ps : List A) (q : A) → In q (all_targets same next root ps) → (p : A) × In p ps × In q (next p)
  unfolding all_targets
  in_targets [] q m = absurd m
  in_targets (o ∷ ps) q m = go (in_targets ps q) (in_either q (next o) (all_targets same next root ps) m)
    where
      go : (In q (all_targets same next root ps) → (p : A) × In p ps × In q (next p)) → In q (next o) ⊎ In q (all_targets same next root ps) → (p : A) × In p (o ∷ ps) × In q (next p)
      go f (inl i) = (o, inl refl, i)
      go f (inr i) = let r = f i in (r.0, inr r.1, r.2)

  -- ---- one target more

  pub reached_begins : (k : ℕ) → Begins (reached_in same next root k) (reached_in same next root (suc k))
  unfolding reached_in
  reached_begins k = inserts_begins eq (reached_in same next root k) (all_targets same next root (reached_in same next root k))

  pub reached-again : (k : ℕ) (p : A) → In p (reached_in same next root k) → In p (reached_in same next root (suc k))
  reached-again k p m = begins_in (reached_in same next root k) (reached_in same next root (suc k)) (reached_begins k) p m

  pub reached_next : (k : ℕ) (p q : A) → In p (reached_in same next root k) → In q (next p) → In q (reached_in same next root (suc k))
  unfolding reached_in
  reached_next k p q m i =
      inserts_holds eq (reached_in same next root k) (all_targets same next root (reached_in same next root k)) q (targets-in (reached_in same next root k) p q m i)

  pub reached_root : (k : ℕ) → In root (reached_in same next root k)
  unfolding reached_in
  reached_root zero = inl refl
  reached_root (suc k) = reached-again k root (reached_root k)

  pub reached_distinct : (k : ℕ) → Distinct (reached_in same next root k)
  unfolding reached_in
  reached_distinct zero = (λ m. m, tt)
  reached_distinct (suc k) = inserts_distinct eq (reached_in same next root k) (all_targets same next root (reached_in same next root k)) (reached_distinct k)

  -- ---- they are what the chains lead to

  reached_chain : (k : ℕ) (p : A) → In p (reached_in same next root k) → ReachableIn next root k p
  unfolding reached_in
  reached_chain zero p m = ⊎_elim (λ e. subst (ReachableIn next root 0) (sym e) none) (λ z. absurd z) m
  reached_chain (suc k) p m =
      go (reached_chain k) (inserts_only eq (reached_in same next root k) (all_targets same next root (reached_in same next root k)) p m)
    where
      go : ((q : A) → In q (reached_in same next root k) → ReachableIn next root k q)
          → In p (reached_in same next root k) ⊎ In p (all_targets same next root (reached_in same next root k)) → ReachableIn next root (suc k) p
      go f (inl i) = chain_longer next root k p (f p i)
      go f (inr i) = let r = in_targets (reached_in same next root k) p i in more (f r.0 r.1) r.2

  pub reached_reachable : (k : ℕ) (p : A) → In p (reached_in same next root k) → Reachable next root p
  reached_reachable k p m = chain_reachable next root k p (reached_chain k p m)

  -- ---- more targets reach more elements, or all are reached

  Closed : ℕ → Type 0
  Closed k = reached_in same next root (suc k) ≡ reached_in same next root k

  closed_on : (k : ℕ) → Closed k → Closed (suc k)
  unfolding Closed reached_in
  closed_on k e = ap (λ (l : List A). insert_all same l (all_targets same next root l)) e

  starts : 0 < length (reached_in same next root 0)
  unfolding reached_in
  starts = omega arith

  more_or_closed : (k : ℕ) → (k < length (reached_in same next root k)) ⊎ Closed k
  unfolding Closed
  more_or_closed zero = inl starts
  more_or_closed (suc k) = go (dec_lt (length (reached_in same next root k)) (length (reached_in same next root (suc k)))) (more_or_closed k)
    where
      go : Dec (length (reached_in same next root k) < length (reached_in same next root (suc k))) → (k < length (reached_in same next root k)) ⊎ Closed k
          → (suc k < length (reached_in same next root (suc k))) ⊎ Closed (suc k)
      go d (inr c) = inr (closed_on k c)
      go (yes h) (inl l) = inl (omega arith)
      go (no h) (inl l) =
          inr (closed_on k (begins_all (reached_in same next root k) (reached_in same next root (suc k)) (reached_begins k) (omega arith)))

  closed_all : (k : ℕ) → Closed k → (p : A) → Reachable next root p → In p (reached_in same next root k)
  unfolding Closed
  closed_all k c = reachable_inside next root (λ p. In p (reached_in same next root k)) (reached_root k)
      (λ p m q i. subst (In q) c (reached_next k p q m i))

  -- all reachable elements stand in a list
  module _ (all : List A) (cover : (p : A) → Reachable next root p → In p all) where
    pub reached_within : (k : ℕ) → length (reached_in same next root k) ≤ length all
    reached_within k = no_more (reached_in same next root k) all (reached_distinct k) (λ p m. cover p (reached_reachable k p m))

    -- so as many targets as it has elements reach all
    pub reached_every : (bound : ℕ) → length all ≤ bound → (p : A) → Reachable next root p → In p (reached_in same next root bound)
    reached_every bound few = go (more_or_closed bound)
      where
        go : (bound < length (reached_in same next root bound)) ⊎ Closed bound → (p : A) → Reachable next root p → In p (reached_in same next root bound)
        go (inl l) = absurd (omega (arith, reached_within bound))
        go (inr c) = closed_all bound c
