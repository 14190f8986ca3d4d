-- Products of two numbers below 2^32. Assumes nothing.
use Prim.Native.Nat.{ℕ, ◌*◌, ◌/◌, ◌<◌}
use native.Mathlib.Nat.{mul-lt-mul_of_pos_right, mul-le-mul_left, lt_of_le_of_lt, le_of_lt, div-lt_iff_lt-mul}
use native.Mathlib.Omega.{arith}

pub wide : (p v : ℕ) → p < 4294967296 → v < 4294967296 → p * v < 18446744073709551616
wide p v hp hv = lt_of_le_of_lt (mul-le-mul_left p (le_of_lt hv)) (mul-lt-mul_of_pos_right {k = 4294967296} hp (omega arith))

-- p below 2^32 scaled to v of at most 32 bits still fits them
pub scaled_fits : (p v : ℕ) → p < 4294967296 → v < 4294967296 → p * v / 4294967296 < 4294967296
scaled_fits p v hp hv =
    (div-lt_iff_lt-mul {k = 4294967296} {x = p * v} {y = 4294967296} (omega arith)).1 (wide p v hp hv)
