-- The multiple of a key is the wrapping sum of the multiples of its bytes, so each key has the slot that it had by that
-- sum. Assumes nothing.
use Rattle.std.proofs.Common.{◌≡◌, ℕ, ◌+◌, ◌*◌, ◌/◌, ◌%◌, ◌^◌, ◌<◌, sym, ap, ap₂, ◌∙◌, mod-lt, mul_comm, div-lt_iff_lt-mul, mul-lt-mul_of_pos_right, arith}
use native.Mathlib.Nat.{mod-mod, add-mod}
use Rattle.std.proofs.lemmas.Nat.{mul-mod_first}
use Rattle.pairs.specs.Slot.{slot_of, multiple, sum_of_byte_multiples}

-- ---- numbers that are congruent modulo w

abbrev Congruent : ℕ → ℕ → ℕ → Type 0
Congruent w x y = x % w ≡ y % w

dropped : (w x : ℕ) → Congruent w (x % w) x
dropped w x = mod-mod x w

plus : (w a b x y : ℕ) → Congruent w a x → Congruent w b y → Congruent w (a + b) (x + y)
plus w a b x y d e = add-mod a b w ∙ ap₂ (λ (m n : ℕ). (m + n) % w) d e ∙ sym (add-mod x y w)

times : (w p a x : ℕ) → Congruent w a x → Congruent w (a * p) (x * p)
times w p a x d = sym (mul-mod_first a p w) ∙ ap (λ (m : ℕ). m * p % w) d ∙ mul-mod_first x p w

-- ---- by bytes

-- a key's multiple is the sum of those of its bytes
pub multiple_by_bytes : (key : ℕ) → key < 2 ^ 32 → sum_of_byte_multiples key ≡ multiple key
unfolding sum_of_byte_multiples
multiple_by_bytes key small =
    plus _ _ _ _ _
    (plus _ _ _ _ _
    (plus _ _ _ _ _ (dropped (2 ^ 32) (key % 256 * 2654435761)) (times _ (2 ^ 8) _ _ (dropped (2 ^ 32) (key / 256 % 256 * 2654435761))))
    (times _ (2 ^ 16) _ _ (dropped (2 ^ 32) (key / 65536 % 256 * 2654435761))))
    (times _ (2 ^ 24) _ _ (dropped (2 ^ 32) (key / 16777216 % 256 * 2654435761)))
    ∙ ap (λ (n : ℕ). n % 2 ^ 32) (omega (arith, small))

-- each key keeps its slot: it is the one that the sum gives
pub slot_by_bytes : (key v : ℕ) → key < 2 ^ 32 → slot_of key v ≡ sum_of_byte_multiples key * v / 2 ^ 32
unfolding slot_of
slot_by_bytes key v small = ap (λ (m : ℕ). m * v / 2 ^ 32) (sym (multiple_by_bytes key small))

-- ---- below the room

-- p below 2^32 scaled to a room v stays below it
below_room : (p v : ℕ) → p < 4294967296 → 0 < v → p * v / 4294967296 < v
below_room p v hp hv =
    (div-lt_iff_lt-mul {k = 4294967296} {x = p * v} {y = v} (omega arith)).1 (rw (mul_comm v 4294967296) (mul-lt-mul_of_pos_right hp hv))

pub slot_below : (key v : ℕ) → 0 < v → slot_of key v < v
unfolding slot_of
slot_below key v h = below_room (key * 2654435761 % 4294967296) v (mod-lt (key * 2654435761) {m = 4294967296} (omega arith)) h
