-- The numbers of the lines, window by window: what the functions that tell a vertex given twice promise one another.
-- Assumes nothing: these are definitions.
use Rattle.std.specs.Prelude.{ℕ, ◌+◌, ◌-◌, ◌≤◌, ◌<◌, ◌≡◌, true, false, ◌||◌, List, [], ◌∷◌, length, eqb}
use Rattle.rules.specs.Lists.{In}
use Rattle.bitmap.specs.Marks.{bitmap_numbers, marked}

-- no number from base on, up to 1,048,576 further, stands twice
abbrev pub Apart : ℕ → List ℕ → Type 0
Apart base [] = Unit {0}
Apart base (n ∷ ns) = (base ≤ n → n < base + bitmap_numbers → ¬ In n ns) × Apart base ns

-- a number was noted: in the window it was new, and is marked now
pub record Noted (base n : ℕ) (bits bits' : List ℕ) : Type 0 where
  pub long : length bits' ≡ length bits
  pub fresh : base ≤ n → n < base + bitmap_numbers → marked bits (n - base) ≡ false
  pub inside : base ≤ n → n < base + bitmap_numbers → (u : ℕ) → marked bits' u ≡ (eqb u (n - base) || marked bits u)
  pub outside : ¬ ((base ≤ n) × (n < base + bitmap_numbers)) → (u : ℕ) → marked bits' u ≡ marked bits u

-- a number of the window was marked before
pub record Again (base n : ℕ) (bits : List ℕ) : Type 0 where
  pub from : base ≤ n
  pub below : n < base + bitmap_numbers
  pub old : marked bits (n - base) ≡ true
