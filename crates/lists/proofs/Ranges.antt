-- The numbers i, i + 1, .. : which they are, how many, which stands where, one more, and a search among them. Assumes
-- nothing.
use mathlib.Core.Path.{◌≡◌, refl, ap, ap₂, ◌∙◌}
use mathlib.Core.Logic.{inl, inr}
use mathlib.Core.List.{List, [], ◌∷◌, ◌++◌, map}
use mathlib.Core.Bool.{Bool, cond}
use Prim.Native.Nat.{ℕ, zero, suc, ◌+◌, ◌≤◌, ◌<◌}
use native.Mathlib.Decide.{ℕ_discrete}
use native.Mathlib.Omega.{arith}
use lib.ListN.{length, get_or}
use Rattle.rules.specs.Lists.{In, from, seek}
use Rattle.lists.proofs.Members.{map_at}

pub from-length : (i n : ℕ) → length (from i n) ≡ n
unfolding from
from-length i zero = refl
from-length i (suc n) = ap suc (from-length (suc i) n)

pub from_at : (i n v d : ℕ) → v < n → get_or (from i n) v d ≡ i + v
unfolding from
from_at i zero v d h = absurd (omega arith)
from_at i (suc n) zero d h = omega arith
from_at i (suc n) (suc v) d h = omega (arith, from_at (suc i) n v d (omega arith))

-- what stands at place v where something is said of each of the first n numbers
pub told_at : {A : Type 0} (f : ℕ → A) (n v : ℕ) (d : A) → v < n → get_or (map f (from 0 n)) v d ≡ f v
told_at f n v d h =
    let here : 0 + v ≡ v = omega arith in
    map_at f (from 0 n) v 0 d (omega (arith, from-length 0 n)) ∙ ap f (from_at 0 n v 0 h ∙ here)

pub from_in : (v i n : ℕ) → i ≤ v → v < i + n → In v (from i n)
unfolding from
from_in v i zero a b = absurd (omega arith)
from_in v i (suc n) a b = go (λ k. from_in v (suc i) n k (omega arith)) (ℕ_discrete v i)
  where
    go : (suc i ≤ v → In v (from (suc i) n)) → Dec (v ≡ i) → In v (i ∷ from (suc i) n)
    go f (yes e) = inl e
    go f (no d) = inr (f (omega arith))

pub in_from : (v i n : ℕ) → In v (from i n) → (i ≤ v) × (v < i + n)
unfolding from
in_from v i zero m = absurd m
in_from v i (suc n) (inl e) = (omega arith, omega arith)
in_from v i (suc n) (inr m) = let (a, b) = in_from v (suc i) n m in (omega arith, omega arith)

pub from-append : (i m n : ℕ) → from i (m + n) ≡ from i m ++ from (i + m) n
unfolding from
from-append i zero n = ap₂ from (let e : i ≡ i + 0 = omega arith in e) (let e : 0 + n ≡ n = omega arith in e)
from-append i (suc m) n =
    ap (from i) (let e : suc m + n ≡ suc (m + n) = omega arith in e)
    ∙ ap (λ (l : List ℕ). i ∷ l) (from-append (suc i) m n ∙ ap (λ (k : ℕ). from (suc i) m ++ from k n) (let e : suc i + m ≡ i + suc m = omega arith in e))

pub from_snoc : (i n : ℕ) → from i (suc n) ≡ from i n ++ ((i + n) ∷ [])
unfolding from
from_snoc i n = ap (from i) (let e : suc n ≡ n + 1 = omega arith in e) ∙ from-append i n 1

-- a search depends on the test at these numbers only
pub same_seek : (f g : ℕ → Bool) (p n : ℕ) → ((q : ℕ) → p ≤ q → q < p + n → f q ≡ g q) → seek f p n ≡ seek g p n
unfolding seek
same_seek f g p zero h = refl
same_seek f g p (suc n) h =
    ap₂ (λ (b : Bool) (r : ℕ). cond b p r) (h p (omega arith) (omega arith)) (same_seek f g (suc p) n (λ q a b. h q (omega arith) (omega arith)))
