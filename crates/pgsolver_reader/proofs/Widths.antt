-- How many digits the numbers have that are counted up from 0, and the place past a number whose digits are counted.
-- Assumes nothing.
use Prim.Native.Nat.{ℕ, ◌+◌, ◌*◌, ◌/◌, ◌%◌, ◌≤◌, ◌<◌, max}
use native.Mathlib.Omega.{arith}
use mathlib.Core.Path.{◌≡◌, sym, ap, ◌∙◌}
use mathlib.Core.List.{List, [], ◌∷◌, ◌++◌}
use mathlib.Core.Option.{some}
use lib.ListN.{length, drop, length-append, length-drop}
use lib.Seq.{drop-drop, drop-append_seam}
use Rattle.rules.specs.Texts.{decimal}
use Rattle.rules.specs.TextReading.{Front, read_field}
use Rattle.game_texts.proofs.Decimals.{decimal-one, decimal_more}
use Rattle.game_texts.proofs.Parsing.{field_sound}
use Rattle.pgsolver_scan.specs.Told.{since}
use Rattle.pgsolver_reader.specs.Parts.{DigitBound}

-- ---- counting up

pub bound_start : DigitBound 1 10 0
bound_start =
    record {
      same = λ n h k. omega (arith, ap length (decimal-one n h));
      round = omega arith;
      few = omega arith;
      least = omega arith;
      reached = omega arith;
      within = omega arith;
    }

module _ {count bound v : ℕ} (k : DigitBound count bound v) where
  -- below the bound the digits stay

  -- a number from the bound up to its tenfold has a digit more: without its last digit it is below the bound
  longer : (n : ℕ) → n < 10 * bound → 10 * bound ≤ 10 * max n 1 → length (decimal n) ≡ count + 1
  longer n h l =
      let last = (48 + n % 10) ∷ [] in
      let low : 10 ≤ n = omega (arith, k.least) in
      let shorter : length (decimal (n / 10)) ≡ count
      = k.same (n / 10) (omega arith) (omega (arith, k.round, k.least)) in
      omega (arith, shorter, ap length (decimal_more n low), length-append (decimal (n / 10)) last)

  pub bound_grows : bound ≤ v → DigitBound (count + 1) (10 * bound) (v + 1) × (count + 1 ≡ length (decimal v))
  bound_grows h = (
    record {
      same = longer;
      round = omega arith;
      few = omega (arith, k.few);
      least = omega (arith, k.least);
      reached = omega (arith, k.least);
      within = omega (arith, k.least, k.within);
    },
    sym (longer v (omega (arith, k.least, k.within)) (omega arith)),
  )

-- ---- the place past a number and the space behind it

pub field_place : (text : List ℕ) (p : ℕ) (f : Front ℕ) → read_field 32 (since text p) ≡ some f → (c : ℕ)
    → c ≡ length (decimal f.value) → (f.rest ≡ since text (p + c + 1)) × (p + c + 1 ≤ length text)
field_place text p f e c s =
    let digits : List ℕ = decimal f.value in
    let spelt : since text p ≡ digits ++ (32 ∷ f.rest) = field_sound 32 (since text p) f e in
    let space : 32 ∷ f.rest ≡ drop (p + c) text
    = sym (drop-append_seam digits (32 ∷ f.rest)) ∙ ap (drop (length digits)) (sym spelt)
    ∙ ap (λ (m : ℕ). drop m (since text p)) (sym s) ∙ drop-drop c p text in (
      ap (drop 1) space ∙ drop-drop 1 (p + c) text,
      omega (arith, ap length spelt, length-append digits (32 ∷ f.rest), length-drop p text),
    )
