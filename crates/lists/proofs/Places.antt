-- The first position at which a test holds. Assumes nothing.
use mathlib.Core.Path.{◌≡◌, refl, sym, ap, ◌∙◌}
use mathlib.Core.Bool.{Bool, true, false, cond, true≢false}
use Prim.Native.Nat.{ℕ, zero, suc, ◌+◌, ◌≤◌, ◌<◌}
use native.Mathlib.Decide.{dec_lt, ℕ_discrete}
use native.Mathlib.Omega.{arith}
use Rattle.rules.specs.Lists.{seek}

pub seek_on : (f : ℕ → Bool) (p n : ℕ) → f p ≡ false → seek f p (suc n) ≡ seek f (suc p) n
unfolding seek
seek_on f p n e = rw e refl

-- the one way to take `seek` apart
seek_cases : (f : ℕ → Bool) (p n : ℕ) (P : ℕ → Type 0) → (f p ≡ true → P p) → (f p ≡ false → P (seek f (suc p) n)) → P (seek f p (suc n))
unfolding seek
seek_cases f p n P yes-at no-at = go (f p) refl
  where
    go : (b : Bool) → f p ≡ b → P (cond b p (seek f (suc p) n))
    go true e = yes-at e
    go false e = no-at e

pub seek-from : (f : ℕ → Bool) (p n : ℕ) → p ≤ seek f p n
unfolding seek
seek-from f p zero = omega arith
seek-from f p (suc n) = seek_cases f p n (λ r. p ≤ r) (λ e. omega arith) (λ e. omega (arith, seek-from f (suc p) n))

pub seek_within : (f : ℕ → Bool) (p n : ℕ) → seek f p n ≤ p + n
unfolding seek
seek_within f p zero = omega arith
seek_within f p (suc n) = seek_cases f p n (λ r. r ≤ p + suc n) (λ e. omega arith) (λ e. omega (arith, seek_within f (suc p) n))

-- the test holds where it is found
pub seek_holds : (f : ℕ → Bool) (p n : ℕ) → seek f p n < p + n → f (seek f p n) ≡ true
unfolding seek
seek_holds f p zero = λ h. absurd (omega arith)
seek_holds f p (suc n) = seek_cases f p n (λ r. r < p + suc n → f r ≡ true) (λ e h. e) (λ e h. seek_holds f (suc p) n (omega arith))

-- and at no position before
pub seek_before : (f : ℕ → Bool) (p n j : ℕ) → p ≤ j → j < seek f p n → f j ≡ false
unfolding seek
seek_before f p zero j a = λ b. absurd (omega arith)
seek_before f p (suc n) j a =
    seek_cases f p n (λ r. j < r → f j ≡ false) (λ e b. absurd (omega arith)) (λ e b. go e (ℕ_discrete p j) (λ h. seek_before f (suc p) n j h b))
  where
    go : f p ≡ false → Dec (p ≡ j) → (suc p ≤ j → f j ≡ false) → f j ≡ false
    go e (yes q) later = ap f (sym q) ∙ e
    go e (no q) later = later (omega arith)

-- so these two say where it is found
pub seek_at : (f : ℕ → Bool) (p n j : ℕ) → p ≤ j → j < p + n → f j ≡ true → ((i : ℕ) → p ≤ i → i < j → f i ≡ false) → seek f p n ≡ j
seek_at f p n j a b holds before = go (ℕ_discrete (seek f p n) j)
  where
    go : Dec (seek f p n ≡ j) → seek f p n ≡ j
    go (yes e) = e
    go (no d) = later (dec_lt (seek f p n) j)
      where
        later : Dec (seek f p n < j) → seek f p n ≡ j
        later (yes l) = absurd (true≢false (sym (seek_holds f p n (omega arith)) ∙ before (seek f p n) (seek-from f p n) l))
        later (no l) = absurd (true≢false (sym holds ∙ seek_before f p n j a (omega arith)))

pub seek-nowhere : (f : ℕ → Bool) (p n : ℕ) → ((i : ℕ) → p ≤ i → i < p + n → f i ≡ false) → seek f p n ≡ p + n
unfolding seek
seek-nowhere f p zero no_place = omega arith
seek-nowhere f p (suc n) no_place =
    seek_on f p n (no_place p (omega arith) (omega arith)) ∙ seek-nowhere f (suc p) n (λ i a b. no_place i (omega arith) (omega arith)) ∙ omega arith
