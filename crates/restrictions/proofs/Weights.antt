-- The weights of distinct elements of a list are no more together than those of the whole list. Assumes nothing.
use mathlib.Core.Path.{◌≡◌, refl, sym, ap, subst}
use mathlib.Core.List.{List, [], ◌∷◌, ◌++◌, map}
use mathlib.Core.Logic.{inl, inr}
use Prim.Native.Nat.{ℕ, ◌+◌, ◌≤◌}
use native.Mathlib.Omega.{arith}
use Rattle.rules.specs.Lists.{In, Distinct, sum}

module _ {A : Type 0} where
  -- where x stands in ys: the elements before it and after it
  pub record Split (x : A) (ys : List A) : Type 0 where
    pub before : List A
    pub after : List A
    pub whole : ys ≡ before ++ (x ∷ after)

  split-more : (x y : A) (ys : List A) → Split x ys → Split x (y ∷ ys)
  split-more x y ys s = record { before = y ∷ s.before; after = s.after; whole = ap (λ (l : List A). y ∷ l) s.whole }

  split : (x : A) (ys : List A) → In x ys → Split x ys
  split x [] m = absurd m
  split x (y ∷ ys) (inl e) = record { before = []; after = ys; whole = ap (λ (z : A). z ∷ ys) (sym e) }
  split x (y ∷ ys) (inr m) = split-more x y ys (split x ys m)

  -- another element stands before it or after it
  others : (x y : A) (ls rs : List A) → (¬ (y ≡ x)) → In y (ls ++ (x ∷ rs)) → In y (ls ++ rs)
  others x y [] rs n (inl e) = absurd (n e)
  others x y [] rs n (inr m) = m
  others x y (l ∷ ls) rs n (inl e) = inl e
  others x y (l ∷ ls) rs n (inr m) = inr (others x y ls rs n m)

module _ {A : Type 0} (weight : A → ℕ) where
  weight-of : (x : A) (ls rs : List A) → sum (map weight (ls ++ (x ∷ rs))) ≡ weight x + sum (map weight (ls ++ rs))
  unfolding sum
  weight-of x [] rs = refl
  weight-of x (l ∷ ls) rs = omega (arith, weight-of x ls rs)

  pub sum_within : (xs ys : List A) → Distinct xs → ((x : A) → In x xs → In x ys) → sum (map weight xs) ≤ sum (map weight ys)
  unfolding sum
  sum_within [] ys d f = omega arith
  sum_within (x ∷ xs) ys d f =
      let s = split x ys (f x (inl refl)) in
      let ih = sum_within xs (s.before ++ s.after) d.1
      (λ y i. others x y s.before s.after (λ e. d.0 (subst (λ (z : A). In z xs) e i)) (subst (In y) s.whole (f y (inr i)))) in
      omega (arith, weight-of x s.before s.after, ap (λ (l : List A). sum (map weight l)) s.whole)
