-- How often a test holds in a range: never, always, and once more when it comes to hold at one position; and that it
-- holds at each. Assumes nothing.
use mathlib.Core.Path.{◌≡◌, refl, sym, ap, ap₂, ◌∙◌}
use mathlib.Core.Logic.{⊎_elim}
use mathlib.Core.Bool.{Bool, true, false, ◌&&◌, true≢false}
use Prim.Native.Nat.{ℕ, zero, suc, ◌+◌, ◌≤◌, ◌<◌}
use native.Mathlib.Decide.{ℕ_discrete}
use native.Mathlib.Omega.{arith}
use native.Mathlib.Nat.{eq-or-lt_of_le}
use Rattle.rules.specs.Lists.{one, tally, every}
use Rattle.lists.proofs.Tests.{and-true}

pub tally_cong : (f g : ℕ → Bool) (p n : ℕ) → ((q : ℕ) → p ≤ q → q < p + n → f q ≡ g q) → tally f p n ≡ tally g p n
unfolding tally
tally_cong f g p zero h = refl
tally_cong f g p (suc n) h = ap₂ ◌+◌ (tally_cong f g p n (λ q a b. h q a (omega arith))) (ap one (h (p + n) (omega arith) (omega arith)))

module _ (f : ℕ → Bool) where
  pub tally-zero : (p n : ℕ) → ((q : ℕ) → p ≤ q → q < p + n → f q ≡ false) → tally f p n ≡ 0
  unfolding tally
  tally-zero p zero h = refl
  tally-zero p (suc n) h = rw (h (p + n) (omega arith) (omega arith)) (omega (arith, tally-zero p n (λ q a b. h q a (omega arith))))

  pub tally-all : (p n : ℕ) → ((q : ℕ) → p ≤ q → q < p + n → f q ≡ true) → tally f p n ≡ n
  unfolding tally
  tally-all p zero h = refl
  tally-all p (suc n) h = rw (h (p + n) (omega arith) (omega arith)) (omega (arith, tally-all p n (λ q a b. h q a (omega arith))))

  -- it holds at each position
  pub every-at : (p n : ℕ) → every f p n ≡ true → (q : ℕ) → p ≤ q → q < p + n → f q ≡ true
  unfolding every
  every-at p zero h q a b = absurd (omega arith)
  every-at p (suc n) h q a b =
      let s = and-true (every f p n) (f (p + n)) h in
      let l : q ≤ p + n = omega arith in
      ⊎_elim (λ e. ap f e ∙ s.1) (λ u. every-at p n s.0 q a u) (eq-or-lt_of_le l)

  pub every-all : (p n : ℕ) → ((q : ℕ) → p ≤ q → q < p + n → f q ≡ true) → every f p n ≡ true
  unfolding every
  every-all p zero h = refl
  every-all p (suc n) h = rw (every-all p n (λ q a b. h q a (omega arith))) (h (p + n) (omega arith) (omega arith))

  -- it does not hold at one
  pub every-not : (p n : ℕ) → every f p n ≡ false → (q : ℕ) × (p ≤ q) × (q < p + n) × (f q ≡ false)
  unfolding every
  every-not p zero h = absurd (true≢false h)
  every-not p (suc n) h = go (every-not p n) (every f p n) refl
    where
      go : (every f p n ≡ false → (q : ℕ) × (p ≤ q) × (q < p + n) × (f q ≡ false)) → (b : Bool) → every f p n ≡ b
          → (q : ℕ) × (p ≤ q) × (q < p + suc n) × (f q ≡ false)
      go before true e = (p + n, omega arith, omega arith, sym (ap (λ b. b && f (p + n)) e) ∙ h)
      go before false e = let (q, a, l, i) = before e in (q, a, omega arith, i)

-- g is f, but for the position s, at which g holds and f does not
module _ (f g : ℕ → Bool) (s : ℕ) (was : f s ≡ false) (is : g s ≡ true) where
  pub tally_gains : (p n : ℕ) → p ≤ s → s < p + n → ((q : ℕ) → p ≤ q → q < p + n → (q ≡ s → ⊥) → f q ≡ g q) → tally g p n ≡ tally f p n + 1
  unfolding tally
  tally_gains p zero h l same = absurd (omega arith)
  tally_gains p (suc n) h l same = go (ℕ_discrete s (p + n)) (tally_gains p n h)
    where
      go : Dec (s ≡ p + n) → (s < p + n → ((q : ℕ) → p ≤ q → q < p + n → (q ≡ s → ⊥) → f q ≡ g q) → tally g p n ≡ tally f p n + 1)
          → tally g p n + one (g (p + n)) ≡ tally f p n + one (f (p + n)) + 1
      go (yes e) ih =
          let a : f (p + n) ≡ false = rw (sym e) was in
          let b : g (p + n) ≡ true = rw (sym e) is in
          let c : tally f p n ≡ tally g p n = tally_cong f g p n (λ q x y. same q x (omega arith) (omega arith)) in
          rw (a, b) (omega arith)
      go (no e) ih =
          let c = ih (omega arith) (λ q x y d. same q x (omega arith) d) in
          rw (same (p + n) (omega arith) (omega arith) (omega arith)) (omega arith)
