-- Sizes of modalities as an offset and a factor, and counting that stops at 1,025. Assumes nothing.
use mathlib.Core.Path.{◌≡◌, sym, ap, ap₂, ◌∙◌}
use Prim.Native.Nat.{ℕ, zero, suc, ◌+◌, ◌*◌, ◌≤◌}
use native.Mathlib.Nat.{mul_comm, mul_assoc, mul-add, add-mul, mul-one, one-mul, mul-zero, mul-suc}
use native.Mathlib.Omega.{arith}
use native.Mathlib.Decide.{dec_le}
use Rattle.regular_rules.specs.Regular.{Regular, action, sequence, choice, star, plus}
use Rattle.regular_rules.specs.Sizes.{modal_size, factor, offset, capped}

-- ---- offset and factor

pub size_affine : (r : Regular) (s : ℕ) → modal_size r s ≡ offset r + factor r * s
unfolding modal_size offset factor
size_affine (action a) s = let e = one-mul s in omega arith
size_affine (sequence r t) s =
    size_affine r (modal_size t s)
    ∙ ap (λ n. offset r + factor r * n) (size_affine t s)
    ∙ ap (λ n. offset r + n)
    (mul-add (factor r) (offset t) (factor t * s)
    ∙ ap (λ n. factor r * offset t + n) (sym (mul_assoc (factor r) (factor t) s)))
    ∙ omega arith
size_affine (choice r t) s = omega (arith, size_affine r s, size_affine t s, add-mul (factor r) (factor t) s)
size_affine (star r) s = omega (arith, size_affine r 1, mul-one (factor r), one-mul s)
size_affine (plus r) s =
    let e : suc (suc (modal_size r 1 + s)) ≡ suc (suc (offset r + factor r)) + s
    = omega (arith, size_affine r 1, mul-one (factor r)) in
    size_affine r (suc (suc (modal_size r 1 + s)))
    ∙ ap (λ n. offset r + factor r * n) e
    ∙ ap (λ n. offset r + n) (mul-add (factor r) (suc (suc (offset r + factor r))) s)
    ∙ omega arith

-- ---- capped

pub capped_small : (n : ℕ) → n ≤ 1_025 → capped n ≡ n
unfolding capped
capped_small n h = omega arith

pub capped_large : (n : ℕ) → 1_025 ≤ n → capped n ≡ 1_025
unfolding capped
capped_large n h = omega arith

pub capped_most : (n : ℕ) → capped n ≤ 1_025
unfolding capped
capped_most n = omega arith

pub capped_sum : (x y : ℕ) → capped (capped x + capped y) ≡ capped (x + y)
unfolding capped
capped_sum x y = omega arith

capped_left : (x y : ℕ) → capped (capped x * y) ≡ capped (x * y)
capped_left x zero = ap capped (mul-zero (capped x) ∙ sym (mul-zero x))
capped_left x (suc y) = go (dec_le x 1_025)
  where
    go : Dec (x ≤ 1_025) → capped (capped x * suc y) ≡ capped (x * suc y)
    go (yes l) = ap (λ n. capped (n * suc y)) (capped_small x l)
    go (no l) =
        let e = capped_large x (omega arith) in
        let a = mul-suc (capped x) y in
        let b = mul-suc x y in
        capped_large (capped x * suc y) (omega arith) ∙ sym (capped_large (x * suc y) (omega arith))

pub capped_product : (x y : ℕ) → capped (capped x * capped y) ≡ capped (x * y)
capped_product x y =
    capped_left x (capped y) ∙ ap capped (mul_comm x (capped y)) ∙ capped_left y x ∙ ap capped (mul_comm y x)

pub capped_affine : (a b s : ℕ) → capped (capped a + capped b * capped s) ≡ capped (a + b * s)
capped_affine a b s =
    sym (capped_sum (capped a) (capped b * capped s))
    ∙ ap₂ (λ x y. capped (x + y)) (capped_small (capped a) (capped_most a)) (capped_product b s)
    ∙ capped_sum a (b * s)
