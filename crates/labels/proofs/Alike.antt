-- Two labels have the same multiset exactly if every action occurs as often in the one as in the other. Assumes
-- nothing.
use mathlib.Core.Path.{◌≡◌, sym, ap, ◌∙◌}
use mathlib.Core.Logic.{◌⊎◌, inl, inr, ◌↔◌}
use mathlib.Core.Bool.{true, ◌&&◌, true≢false}
use mathlib.Core.List.{List}
use Prim.Native.Nat.{ℕ, ◌+◌, ◌≤◌, ◌<◌}
use native.Mathlib.Omega.{arith}
use native.Mathlib.Decide.{dec_lt}
use lib.Dec.{eqb}
use borrow.Author.Tests.{eq-eqb, eqb-true}
use Rattle.rules.specs.Lists.{seek}
use Rattle.rules.specs.Labels.{label_at, action_at, action_count, times, same_label, multiset}
use Rattle.labels.proofs.Counts.{tally_some}
use Rattle.lists.proofs.Tallies.{every-at, every-all}
use Rattle.lists.proofs.Places.{seek_within, seek_holds, seek_before}
use Rattle.lists.proofs.Tests.{and-true}

module _ (ls : List ℕ) where
  -- the test `same_label` is this
  pub same_times : (l m : ℕ) → same_label ls l m ≡ true → (a : ℕ) → times ls l a ≡ times ls m a
  unfolding same_label times
  same_times l m h a =
      go
      (tally_some (λ p. eqb (label_at ls p) l && eqb (action_at ls p) a) 0 (action_count ls))
      (tally_some (λ p. eqb (label_at ls p) m && eqb (action_at ls p) a) 0 (action_count ls))
    where
      Some : ℕ → Type 0
      Some k = (times ls k a ≡ 0) ⊎ ((q : ℕ) × (0 ≤ q) × (q < 0 + action_count ls) × ((eqb (label_at ls q) k && eqb (action_at ls q) a) ≡ true))

      at : (k q : ℕ) → q < 0 + action_count ls → (eqb (label_at ls q) k && eqb (action_at ls q) a) ≡ true → times ls l a ≡ times ls m a
      at k q u e =
          let y = eqb-true (action_at ls q) a (and-true (eqb (label_at ls q) k) (eqb (action_at ls q) a) e).1 in
          let s =
          eqb-true (times ls l (action_at ls q)) (times ls m (action_at ls q))
          (every-at (λ p. eqb (times ls l (action_at ls p)) (times ls m (action_at ls p))) 0 (action_count ls) h q (omega arith) u)
          in
          rw y at s

      go : Some l → Some m → times ls l a ≡ times ls m a
      go (inl y) (inl z) = y ∙ sym z
      go (inl y) (inr s) = at m s.0 s.2 s.3
      go (inr s) t = at l s.0 s.2 s.3

  pub times_same : (l m : ℕ) → ((a : ℕ) → times ls l a ≡ times ls m a) → same_label ls l m ≡ true
  unfolding same_label
  times_same l m h = every-all _ 0 (action_count ls) (λ q u v. eq-eqb _ _ (h (action_at ls q)))

  -- the name of a label is a label that is the same
  named_same : (l a : ℕ) → times ls (multiset ls l) a ≡ times ls l a
  unfolding multiset
  named_same l a = go (dec_lt found l)
    where
      found : ℕ
      found = seek (λ j. same_label ls j l) 0 l

      go : Dec (found < l) → times ls found a ≡ times ls l a
      go (yes h) = same_times found l (seek_holds (λ j. same_label ls j l) 0 l (omega arith)) a
      go (no h) =
          let k = seek_within (λ j. same_label ls j l) 0 l in
          let e : found ≡ l = omega arith in
          ap (λ (j : ℕ). times ls j a) e

  -- and no lower one is
  named_lowest : (l k : ℕ) → ((a : ℕ) → times ls k a ≡ times ls l a) → multiset ls l ≤ k
  unfolding multiset
  named_lowest l k same = go (dec_lt k found)
    where
      found : ℕ
      found = seek (λ j. same_label ls j l) 0 l

      go : Dec (k < found) → found ≤ k
      go (yes h) =
          let other = seek_before (λ j. same_label ls j l) 0 l k (omega arith) h in
          absurd (true≢false (sym (times_same k l same) ∙ other))
      go (no h) = omega arith

  pub multiset_same : (l m : ℕ) → multiset ls l ≡ multiset ls m ↔ ((a : ℕ) → times ls l a ≡ times ls m a)
  multiset_same l m = (
    λ e a. sym (named_same l a) ∙ ap (λ (k : ℕ). times ls k a) e ∙ named_same m a,
    λ h.
        let a = named_lowest l (multiset ls m) (λ a. named_same m a ∙ sym (h a)) in
        let b = named_lowest m (multiset ls l) (λ a. named_same l a ∙ h a) in
        omega arith,
  )
