-- Sums of the words from a position on. Assumes nothing.
use mathlib.Core.Path.{◌≡◌, refl}
use mathlib.Core.List.{List}
use Prim.Native.Nat.{ℕ, zero, suc, ◌+◌, ◌≤◌}
use native.Mathlib.Decide.{ℕ_discrete}
use native.Mathlib.Numerals.{add-one}
use native.Mathlib.Omega.{arith}
use Rattle.rules.specs.Lists.{word, sum_words}

pub sum_none : (ws : List ℕ) (p : ℕ) → sum_words ws p 0 ≡ 0
unfolding sum_words
sum_none ws p = refl

pub sum_more : (ws : List ℕ) (p n : ℕ) → sum_words ws p (n + 1) ≡ sum_words ws p n + word ws (p + n)
unfolding sum_words
sum_more ws p n = rw add-one

-- a sum over fewer words is not larger
pub sum_grows : (ws : List ℕ) (p m n : ℕ) → m ≤ n → sum_words ws p m ≤ sum_words ws p n
unfolding sum_words
sum_grows ws p m zero h = let e : m ≡ 0 = omega arith in rw e (omega arith)
sum_grows ws p m (suc n) h = go (λ k. sum_grows ws p m n k) (ℕ_discrete m (suc n))
  where
    go : (m ≤ n → sum_words ws p m ≤ sum_words ws p n) → Dec (m ≡ suc n) → sum_words ws p m ≤ sum_words ws p n + word ws (p + n)
    go f (yes e) = rw e (omega arith)
    go f (no d) = let k = f (omega arith) in omega arith
