-- Lists in which each number occurs equally often, and what the code counts and sums of a list. Assumes nothing.
use mathlib.Core.Path.{◌≡◌, refl, sym, ◌∙◌}
use mathlib.Core.Logic.{inl, inr, ◌↔◌}
use mathlib.Core.Bool.{Bool, true}
use mathlib.Core.List.{List, [], ◌∷◌, map}
use Prim.Native.Nat.{ℕ}
use native.Mathlib.Omega.{arith}
use lib.Dec.{eqb}
use lib.ListN.{length}
use borrow.Author.Tests.{eq-eqb, eqb-true}
use Rattle.std.specs.List.{sum_by, list_all}
use Rattle.std.proofs.lemmas.List.Sums.{sum_by-cons}
use Rattle.rules.specs.Lists.{In, one, sum, occurrences}
use Rattle.rules.specs.Labels.{same_label}
use Rattle.lists.proofs.Occurrences.{alike_sums, alike_all}
use Rattle.lists.proofs.Tests.{and-true}
use Rattle.labels.specs.Stretches.{SameOccurrences, ActionsOf}
use Rattle.labels.proofs.Counts.{flags}
use Rattle.labels.proofs.Alike.{same_times, times_same}

-- ---- sums over the list

pub occurs_summed : (m : ℕ) (xs : List ℕ) → sum_by (λ x. one (eqb x m)) xs ≡ occurrences eqb m xs
unfolding occurrences
occurs_summed m [] = refl
occurs_summed m (x ∷ xs) = omega (arith, sum_by-cons (λ y. one (eqb y m)) x xs, occurs_summed m xs)

summed : (g : ℕ → ℕ) (xs : List ℕ) → sum_by g xs ≡ sum (map g xs)
unfolding sum
summed g [] = refl
summed g (x ∷ xs) = omega (arith, sum_by-cons g x xs, summed g xs)

ones : (xs : List ℕ) → sum (map (λ x. 1) xs) ≡ length xs
unfolding sum
ones [] = refl
ones (x ∷ xs) = omega (arith, ones xs)

-- ---- each number equally often

module _ (xs ys : List ℕ) where
  pub same_sums : (g : ℕ → ℕ) → SameOccurrences xs ys → sum_by g xs ≡ sum_by g ys
  same_sums g h = summed g xs ∙ alike_sums g xs ys h ∙ sym (summed g ys)

  same_lengths : SameOccurrences xs ys → length xs ≡ length ys
  same_lengths h = sym (ones xs) ∙ alike_sums (λ x. 1) xs ys h ∙ ones ys

  abbrev pub CountedAlike : ℕ → Bool
  CountedAlike a = eqb (occurrences eqb a xs) (occurrences eqb a ys)

  counted_in : (zs : List ℕ) → list_all CountedAlike zs ≡ true → (z : ℕ) → In z zs → CountedAlike z ≡ true
  counted_in [] h z i = absurd i
  counted_in (x ∷ zs) h z (inl e) = rw e (and-true (CountedAlike x) (list_all CountedAlike zs) h).0
  counted_in (x ∷ zs) h z (inr i) = counted_in zs (and-true (CountedAlike x) (list_all CountedAlike zs) h).1 z i

  counted_all : SameOccurrences xs ys → (zs : List ℕ) → list_all CountedAlike zs ≡ true
  counted_all h [] = refl
  counted_all h (x ∷ zs) = rw (eq-eqb _ _ (h x)) (counted_all h zs)

  -- of lists of one length the numbers of the one tell
  pub lengths_agree : (r : Bool) → r ≡ list_all CountedAlike xs → length xs ≡ length ys
      → (r ≡ true) ↔ SameOccurrences xs ys
  lengths_agree r e k = (
    λ t. alike_all xs ys k (λ z i. eqb-true _ _ (counted_in xs (sym e ∙ t) z i)),
    λ h. e ∙ counted_all h xs,
  )

  pub lengths_differ : (¬ (length xs ≡ length ys)) → (eqb (length xs) (length ys) ≡ true) ↔ SameOccurrences xs ys
  lengths_differ d = (λ t. absurd (d (eqb-true _ _ t)), λ h. absurd (d (same_lengths h)))

-- ---- the actions of two labels

module _ (ls : List ℕ) (l m : ℕ) (xs ys : List ℕ) (own : ActionsOf ls l xs) (other : ActionsOf ls m ys) where
  pub same_listed : same_label ls l m ≡ true → SameOccurrences xs ys
  same_listed h a = own.times a ∙ same_times ls l m h a ∙ sym (other.times a)

  pub listed_same : (r : Bool) → (r ≡ true) ↔ SameOccurrences xs ys → r ≡ same_label ls l m
  listed_same r h =
      flags r (same_label ls l m) (λ t. times_same ls l m (λ a. sym (own.times a) ∙ h.0 t a ∙ other.times a))
      (λ t. h.1 (same_listed t))
