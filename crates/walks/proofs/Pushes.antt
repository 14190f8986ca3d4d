-- What is pushed on the waiting vertices while the targets of a step are gone through: nothing, or one stretch after
-- another. Assumes nothing.
use mathlib.Core.Path.{◌≡◌, refl, ap, ◌∙◌}
use mathlib.Core.List.{List, ◌∷◌}
use Prim.Native.Nat.{ℕ, zero, suc, ◌+◌, ◌-◌, ◌≤◌}
use native.Mathlib.Omega.{arith}
use Rattle.rules.specs.Walk.{push_new}

pub push_none : (n : ℕ) (rest : List ℕ) → push_new n (n - n) rest ≡ rest
unfolding push_new
push_none n rest = let z : n - n ≡ 0 = omega arith in rw z refl

push_push : (n a b : ℕ) (rest : List ℕ) → push_new (n + a) b (push_new n a rest) ≡ push_new n (a + b) rest
unfolding push_new
push_push n a zero rest = let z : a + 0 ≡ a = omega arith in rw z refl
push_push n a (suc b) rest =
    let z : a + suc b ≡ suc (a + b) = omega arith in
    let y : n + a + b ≡ n + (a + b) = omega arith in
    rw (z, y) (ap (λ (l : List ℕ). (n + (a + b)) ∷ l) (push_push n a b rest))

pub push_on : (n₀ n₁ n₂ : ℕ) (rest : List ℕ) → n₀ ≤ n₁ → n₁ ≤ n₂ → push_new n₁ (n₂ - n₁) (push_new n₀ (n₁ - n₀) rest) ≡ push_new n₀ (n₂ - n₀) rest
push_on n₀ n₁ n₂ rest h l =
    let y : n₁ ≡ n₀ + (n₁ - n₀) = omega arith in
    let z : n₁ - n₀ + (n₂ - n₁) ≡ n₂ - n₀ = omega arith in
    ap (λ (k : ℕ). push_new k (n₂ - n₁) (push_new n₀ (n₁ - n₀) rest)) y
    ∙ push_push n₀ (n₁ - n₀) (n₂ - n₁) rest
    ∙ ap (λ (k : ℕ). push_new n₀ k rest) z
