-- The largest of the values that a function has over a list. Assumes nothing.
use mathlib.Core.Path.{◌≡◌, refl, ap, ap₂}
use mathlib.Core.Logic.{◌⊎◌, inl, inr}
use mathlib.Core.List.{List, [], ◌∷◌, ◌++◌, map}
use Prim.Native.Nat.{ℕ, ◌≤◌, ◌<◌, max}
use native.Mathlib.Decide.{dec_lt}
use native.Mathlib.Omega.{arith}
use Rattle.rules.specs.Lists.{largest, In}

pub largest-map-append : (g : ℕ → ℕ) (xs ys : List ℕ) → largest (map g (xs ++ ys)) ≡ max (largest (map g xs)) (largest (map g ys))
unfolding largest
largest-map-append g [] ys = omega arith
largest-map-append g (a ∷ xs) ys = omega (arith, largest-map-append g xs ys)

-- only the values at the list's elements matter
pub largest_same : (g h : ℕ → ℕ) (l : List ℕ) → ((j : ℕ) → In j l → g j ≡ h j) → largest (map g l) ≡ largest (map h l)
unfolding largest
largest_same g h [] e = refl
largest_same g h (a ∷ l) e = ap₂ max (e a (inl refl)) (largest_same g h l (λ j m. e j (inr m)))

pub largest_most : (g : ℕ → ℕ) (n : ℕ) (l : List ℕ) → ((j : ℕ) → In j l → g j ≤ n) → largest (map g l) ≤ n
unfolding largest
largest_most g n [] e = omega arith
largest_most g n (a ∷ l) e = omega (arith, e a (inl refl), largest_most g n l (λ j m. e j (inr m)))

pub largest_bounds : (g : ℕ → ℕ) (j : ℕ) (l : List ℕ) → In j l → g j ≤ largest (map g l)
unfolding largest
largest_bounds g j [] m = absurd m
largest_bounds g j (a ∷ l) (inl e) = let s : g j ≡ g a = ap g e in omega arith
largest_bounds g j (a ∷ l) (inr m) = omega (arith, largest_bounds g j l m)

-- it is 0, or the value at some element
pub largest_attained : (g : ℕ → ℕ) (l : List ℕ) → (largest (map g l) ≡ 0) ⊎ ((j : ℕ) × In j l × (largest (map g l) ≡ g j))
unfolding largest
largest_attained g [] = inl refl
largest_attained g (a ∷ l) = go (largest_attained g l) (dec_lt (g a) (largest (map g l)))
  where
    go : (largest (map g l) ≡ 0) ⊎ ((j : ℕ) × In j l × (largest (map g l) ≡ g j)) → Dec (g a < largest (map g l))
        → (max (g a) (largest (map g l)) ≡ 0) ⊎ ((j : ℕ) × In j (a ∷ l) × (max (g a) (largest (map g l)) ≡ g j))
    go r (no d) = inr (a, inl refl, omega arith)
    go (inl e) (yes d) = absurd (omega arith)
    go (inr (j, m, e)) (yes d) = inr (j, inr m, omega arith)
