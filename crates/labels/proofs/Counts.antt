-- The places at which a test holds: how many they are. Assumes nothing.
use mathlib.Core.Path.{◌≡◌, refl, sym, ap, ap₂, ◌∙◌}
use mathlib.Core.Logic.{◌⊎◌, inl, inr}
use mathlib.Core.Bool.{Bool, true, false}
use Prim.Native.Nat.{ℕ, zero, suc, ◌+◌, ◌-◌, ◌≤◌, ◌<◌}
use native.Mathlib.Omega.{arith}
use native.Mathlib.Nat.{add-suc, add_assoc, add-zero}
use mathlib.Core.List.{List, [], ◌∷◌}
use lib.Dec.{eqb}
use lib.ListN.{length}
use Rattle.rules.specs.Lists.{word, one, tally, occurrences}
use Rattle.lists.proofs.Tallies.{tally_cong, tally-zero}

-- two flags are equal if each follows from the other
pub flags : (a b : Bool) → (a ≡ true → b ≡ true) → (b ≡ true → a ≡ true) → a ≡ b
flags true b p q = sym (p refl)
flags false true p q = q refl
flags false false p q = refl

module _ (f : ℕ → Bool) where
  tally-append : (p n m : ℕ) → tally f p (n + m) ≡ tally f p n + tally f (p + n) m
  unfolding tally
  tally-append p n zero = simp add-zero
  tally-append p n (suc m) =
      ap (tally f p) (add-suc n m)
      ∙ ap₂ ◌+◌ (tally-append p n m) (ap (λ (k : ℕ). one (f k)) (sym (add_assoc p n m)))
      ∙ add_assoc (tally f p n) (tally f (p + n) m) (one (f (p + n + m)))

  -- the places from p on, counted from 0
  pub tally_shift : (p n : ℕ) → tally (λ i. f (p + i)) 0 n ≡ tally f p n
  unfolding tally
  tally_shift p zero = refl
  tally_shift p (suc n) = ap₂ ◌+◌ (tally_shift p n) (let e : p + (0 + n) ≡ p + n = omega arith in ap (λ (k : ℕ). one (f k)) e)

  -- three stretches of which f holds only in the middle one
  pub tally_middle : (s e n : ℕ) → s ≤ e → e ≤ n → ((q : ℕ) → q < s → f q ≡ false) → ((q : ℕ) → e ≤ q → q < n → f q ≡ false) → tally f 0 n ≡ tally f s (e - s)
  tally_middle s e n h k below above =
      let a : n ≡ s + (e - s) + (n - e) = omega arith in
      let b : 0 + (s + (e - s)) ≡ e = omega arith in
      let d : 0 + s ≡ s = omega arith in
      let x = ap (tally f 0) a ∙ tally-append 0 (s + (e - s)) (n - e) in
      let y = tally-append 0 s (e - s) in
      let z0 = tally-zero f 0 s (λ q l u. below q (omega arith)) in
      let z1 = tally-zero f e (n - e) (λ q l u. above q l (omega arith)) in
      let v = ap (λ (k : ℕ). tally f k (n - e)) b in
      let u = ap (λ (k : ℕ). tally f k (e - s)) d in
      omega (arith, x, y, z0, z1, u, v)

  -- f holds nowhere, or somewhere
  pub tally_some : (p n : ℕ) → (tally f p n ≡ 0) ⊎ ((q : ℕ) × (p ≤ q) × (q < p + n) × (f q ≡ true))
  unfolding tally
  tally_some p zero = inl refl
  tally_some p (suc n) = go (f (p + n)) refl (tally_some p n)
    where
      go : (b : Bool) → f (p + n) ≡ b → (tally f p n ≡ 0) ⊎ ((q : ℕ) × (p ≤ q) × (q < p + n) × (f q ≡ true)) → (tally f p n + one (f (p + n)) ≡ 0) ⊎ ((q : ℕ) × (p ≤ q) × (q < p + suc n) × (f q ≡ true))
      go true e s = inr (p + n, omega arith, omega arith, e)
      go false e (inl z) = inl (rw e (omega arith))
      go false e (inr s) = inr (s.0, s.1, omega arith, s.3)

-- how often m is among some words, place by place
pub tally_occurs : (m : ℕ) (xs : List ℕ) → tally (λ i. eqb (word xs i) m) 0 (length xs) ≡ occurrences eqb m xs
unfolding tally occurrences
tally_occurs m [] = refl
tally_occurs m (x ∷ xs) = omega (arith, tally_occurs m xs, shifted, first, whole, tally-append f 0 1 n)
  where
    n : ℕ
    n = length xs

    f : ℕ → Bool
    f i = eqb (word (x ∷ xs) i) m

    shifted : tally (λ i. eqb (word xs i) m) 0 n ≡ tally f 1 n
    shifted = tally_cong (λ i. eqb (word xs i) m) (λ i. f (1 + i)) 0 n (λ i u v. let e : suc i ≡ 1 + i = omega arith in ap (λ (k : ℕ). f k) e) ∙ tally_shift f 1 n

    first : tally f 0 1 ≡ one (eqb x m)
    first = let e : 0 + one (eqb x m) ≡ one (eqb x m) = omega arith in e

    whole : tally f 0 (suc n) ≡ tally f 0 (1 + n)
    whole = let e : suc n ≡ 1 + n = omega arith in ap (tally f 0) e
