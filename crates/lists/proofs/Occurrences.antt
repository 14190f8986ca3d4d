-- How often a number occurs in a list. Lists in which each number occurs equally often have equal sums of any value of
-- their numbers; how often the numbers of a list occur, each taken once, sums to its length. Assumes nothing.
use mathlib.Core.Path.{◌≡◌, refl, sym, ap, ◌∙◌, subst}
use mathlib.Core.Logic.{◌⊎◌, inl, inr}
use mathlib.Core.Bool.{Bool, true, false, true≢false}
use mathlib.Core.List.{List, [], ◌∷◌, ◌++◌, map}
use Prim.Native.Nat.{ℕ, suc, ◌+◌, ◌≤◌, ◌<◌}
use native.Mathlib.Omega.{arith}
use lib.Dec.{eqb}
use lib.ListN.{length}
use borrow.Author.Tests.{eq-eqb, ne_eqb, eqb-true}
use Rattle.rules.specs.Lists.{In, Distinct, one, sum, occurrences, once}
use Rattle.lists.proofs.Members.{without, without_length}
use Rattle.lists.proofs.Inserts.{once_in, once_distinct}
use Rattle.lists.proofs.Equalities.{number_equality}

-- what stands in the list occurs
pub in_count : (z : ℕ) (xs : List ℕ) → In z xs → 1 ≤ occurrences eqb z xs
unfolding occurrences
in_count z [] i = absurd i
in_count z (x ∷ xs) (inl e) = omega (arith, ap one (eq-eqb x z (sym e)))
in_count z (x ∷ xs) (inr i) = omega (arith, in_count z xs i)

-- what occurs stands in the list
count_in : (z : ℕ) (xs : List ℕ) → 0 < occurrences eqb z xs → In z xs
unfolding occurrences
count_in z [] h = absurd (omega arith)
count_in z (x ∷ xs) h = go (eqb x z) refl (count_in z xs)
  where
    go : (b : Bool) → eqb x z ≡ b → (0 < occurrences eqb z xs → In z xs) → (z ≡ x) ⊎ In z xs
    go true e later = inl (sym (eqb-true x z e))
    go false e later = inr (later (omega (arith, h, ap one e)))

-- one occurrence less
module _ (x : ℕ) where
  without_count : (z : ℕ) (xs : List ℕ) (m : In x xs) → occurrences eqb z (without x xs m) + one (eqb x z) ≡ occurrences eqb z xs
  unfolding occurrences without
  without_count z [] m = absurd m
  without_count z (y ∷ xs) (inl e) = rw e refl
  without_count z (y ∷ xs) (inr m) = omega (arith, without_count z xs m)

  without_sum : (g : ℕ → ℕ) (xs : List ℕ) (m : In x xs) → g x + sum (map g (without x xs m)) ≡ sum (map g xs)
  unfolding sum without
  without_sum g [] m = absurd m
  without_sum g (y ∷ xs) (inl e) = rw e refl
  without_sum g (y ∷ xs) (inr m) = omega (arith, without_sum g xs m)

  first-counts : (xs : List ℕ) → 0 < occurrences eqb x (x ∷ xs)
  unfolding occurrences
  first-counts xs = omega (arith, ap one (eq-eqb x x refl))

pub alike_sums : (g : ℕ → ℕ) (xs ys : List ℕ) → ((z : ℕ) → occurrences eqb z xs ≡ occurrences eqb z ys) → sum (map g xs) ≡ sum (map g ys)
unfolding occurrences sum
alike_sums g [] [] h = refl
alike_sums g [] (y ∷ ys) h = absurd (omega (arith, h y, first-counts y ys))
alike_sums g (x ∷ xs) ys h =
    let m = count_in x ys (omega (arith, h x, first-counts x xs)) in
    let ih = alike_sums g xs (without x ys m) (λ z. omega (arith, h z, without_count x z ys m)) in
    omega (arith, ih, without_sum x g ys m)

-- a list of the same length in which each number of xs occurs as often as in xs has no other number
pub alike_all : (xs ys : List ℕ) → length xs ≡ length ys → ((z : ℕ) → In z xs → occurrences eqb z xs ≡ occurrences eqb z ys) → (z : ℕ) → occurrences eqb z xs ≡ occurrences eqb z ys
unfolding occurrences
alike_all [] [] e h z = refl
alike_all [] (y ∷ ys) e h z = absurd (omega arith)
alike_all (x ∷ xs) ys e h z =
    let m = count_in x ys (omega (arith, h x (inl refl), first-counts x xs)) in
    let ih = alike_all xs (without x ys m) (omega (arith, e, without_length x ys m)) (λ w i. omega (arith, h w (inr i), without_count x w ys m)) z in
    omega (arith, ih, without_count x z ys m)

-- ---- how often, for parts of a list and for numbers under other names

pub occurs_not : (z : ℕ) (xs : List ℕ) → (¬ In z xs) → occurrences eqb z xs ≡ 0
unfolding occurrences
occurs_not z [] n = refl
occurs_not z (x ∷ xs) n = omega (arith, occurs_not z xs (λ i. n (inr i)), ap one (ne_eqb x z (λ e. n (inl (sym e)))))

pub occurs_most : (z : ℕ) (xs : List ℕ) → occurrences eqb z xs ≤ length xs
unfolding occurrences
occurs_most z [] = omega arith
occurs_most z (x ∷ xs) = go (eqb x z) (occurs_most z xs)
  where
    go : (b : Bool) → occurrences eqb z xs ≤ length xs → occurrences eqb z xs + one b ≤ suc (length xs)
    go true h = omega arith
    go false h = omega arith

pub occurs_append : (z : ℕ) (xs ys : List ℕ)
    → occurrences eqb z (xs ++ ys) ≡ occurrences eqb z xs + occurrences eqb z ys
unfolding occurrences
occurs_append z [] ys = omega arith
occurs_append z (x ∷ xs) ys = omega (arith, occurs_append z xs ys)

-- of numbers that f keeps apart
pub occurs_map : (f : ℕ → ℕ) (z : ℕ) (xs : List ℕ) → ((x : ℕ) → In x xs → f x ≡ f z → x ≡ z)
    → occurrences eqb (f z) (map f xs) ≡ occurrences eqb z xs
unfolding occurrences
occurs_map f z [] h = refl
occurs_map f z (x ∷ xs) h = go (eqb x z) refl (occurs_map f z xs (λ y i. h y (inr i)))
  where
    go : (b : Bool) → eqb x z ≡ b → occurrences eqb (f z) (map f xs) ≡ occurrences eqb z xs
        → occurrences eqb (f z) (map f xs) + one (eqb (f x) (f z)) ≡ occurrences eqb z xs + one (eqb x z)
    go true e ih =
        let a : f x ≡ f z = ap f (eqb-true x z e) in
        omega (arith, ih, ap one e, ap one (eq-eqb (f x) (f z) a))
    go false e ih =
        let n : ¬ (f x ≡ f z) = λ a. true≢false (sym (eq-eqb x z (h x (inl refl) a)) ∙ e) in
        omega (arith, ih, ap one e, ap one (ne_eqb (f x) (f z) n))

-- ---- each number once: how often they occur sums to the length

module _ (x : ℕ) where
  apart : (ds : List ℕ) → (¬ In x ds) → sum (map (λ z. one (eqb x z)) ds) ≡ 0
  unfolding sum
  apart [] n = refl
  apart (d ∷ ds) n = omega (arith, apart ds (λ i. n (inr i)), ap one (ne_eqb x d (λ e. n (inl e))))

  single : (ds : List ℕ) → Distinct ds → In x ds → sum (map (λ z. one (eqb x z)) ds) ≡ 1
  unfolding sum
  single [] d i = absurd i
  single (d ∷ ds) (n, m) (inl e) =
      omega (arith, ap one (eq-eqb x d e), apart ds (λ i. n (subst (λ (z : ℕ). In z ds) e i)))
  single (d ∷ ds) (n, m) (inr i) =
      omega (arith, single ds m i, ap one (ne_eqb x d (λ e. n (subst (λ (z : ℕ). In z ds) e i))))

  more : (xs ds : List ℕ) → sum (map (λ z. occurrences eqb z (x ∷ xs)) ds)
      ≡ sum (map (λ z. occurrences eqb z xs) ds) + sum (map (λ z. one (eqb x z)) ds)
  unfolding sum occurrences
  more xs [] = refl
  more xs (d ∷ ds) = omega (arith, more xs ds)

occurs_none : (ds : List ℕ) → sum (map (λ z. occurrences eqb z []) ds) ≡ 0
unfolding sum occurrences
occurs_none [] = refl
occurs_none (d ∷ ds) = omega (arith, occurs_none ds)

occurs_all : (xs ds : List ℕ) → Distinct ds → ((x : ℕ) → In x xs → In x ds)
    → sum (map (λ z. occurrences eqb z xs) ds) ≡ length xs
occurs_all [] ds d h = occurs_none ds
occurs_all (x ∷ xs) ds d h =
    omega (arith, more x xs ds, occurs_all xs ds d (λ y i. h y (inr i)), single x ds d (h x (inl refl)))

pub once_sum : (xs : List ℕ) → sum (map (λ z. occurrences eqb z xs) (once eqb xs)) ≡ length xs
once_sum xs =
    occurs_all xs (once eqb xs) (once_distinct number_equality xs) (λ x i. (once_in number_equality xs x).1 i)
