-- Falling numbers, and beginnings of lists. Assumes nothing.
use mathlib.Core.Path.{◌≡◌, sym, ap, ◌∙◌, subst}
use mathlib.Core.List.{List, [], ◌∷◌, ◌++◌, append_assoc, append-nil}
use mathlib.Core.Logic.{inl, inr}
use Prim.Native.Nat.{ℕ, ◌≤◌, ◌<◌}
use native.Mathlib.Omega.{arith}
use lib.ListN.{length, get_or, length-append, get_or-append}
use Rattle.rules.specs.Lists.{In, Distinct}
use Rattle.lists.specs.Shapes.{Falling, Begins}
use Rattle.lists.proofs.Members.{in_left}

-- ---- falling numbers

pub falling_below : (n : ℕ) (xs : List ℕ) → Falling n xs → (v : ℕ) → In v xs → v < n
falling_below n [] f v m = absurd m
falling_below n (x ∷ xs) f v (inl e) = omega (arith, f.0)
falling_below n (x ∷ xs) f v (inr m) = omega (arith, f.0, falling_below x xs f.1 v m)

pub falling_length : (n : ℕ) (xs : List ℕ) → Falling n xs → length xs ≤ n
falling_length n [] f = omega arith
falling_length n (x ∷ xs) f = omega (arith, f.0, falling_length x xs f.1)

pub falling_above : (m n : ℕ) (xs : List ℕ) → m ≤ n → Falling m xs → Falling n xs
falling_above m n [] h f = tt
falling_above m n (x ∷ xs) h f = (omega (arith, f.0), f.1)

pub falling_distinct : (n : ℕ) (xs : List ℕ) → Falling n xs → Distinct xs
falling_distinct n [] f = tt
falling_distinct n (x ∷ xs) f = (λ m. omega (arith, falling_below x xs f.1 x m), falling_distinct x xs f.1)

-- ---- beginnings

module _ {A : Type 0} where
  pub begins_refl : (xs : List A) → Begins xs xs
  begins_refl xs = ([], sym (append-nil xs))

  pub begins_trans : (xs ys zs : List A) → Begins xs ys → Begins ys zs → Begins xs zs
  begins_trans xs ys zs (r, e) (s, f) = (r ++ s, f ∙ ap (λ (l : List A). l ++ s) e ∙ append_assoc xs r s)

  pub begins_length : (xs ys : List A) → Begins xs ys → length xs ≤ length ys
  begins_length xs ys (r, e) = omega (arith, simp length-append at (ap length e))

  pub begins_in : (xs ys : List A) → Begins xs ys → (x : A) → In x xs → In x ys
  begins_in xs ys (r, e) x m = subst (In x) (sym e) (in_left x xs r m)

  pub begins-at : (xs ys : List A) (d : A) → Begins xs ys → (v : ℕ) → v < length xs → get_or ys v d ≡ get_or xs v d
  begins-at xs ys d (r, e) v h = ap (λ (l : List A). get_or l v d) e ∙ get_or-append xs r d v h

  -- a beginning that is as long is the whole
  pub begins_all : (xs ys : List A) → Begins xs ys → length ys ≤ length xs → ys ≡ xs
  begins_all xs ys ([], e) h = e ∙ append-nil xs
  begins_all xs ys (y ∷ r, e) h = absurd (omega (arith, simp length-append at (ap length e)))
