-- Places on one line: no number, space or comma has a newline. Assumes nothing.
use Prim.Native.Nat.{ℕ, suc, ◌+◌, ◌≤◌}
use native.Mathlib.Omega.{arith}
use mathlib.Core.Path.{◌≡◌, refl, ap}
use mathlib.Core.List.{List, [], ◌∷◌, ◌++◌}
use mathlib.Core.Option.{some}
use lib.ListN.{length, length-append, length-drop}
use borrow.Author.Tests.{ne_eqb}
use Rattle.rules.specs.Texts.{decimal}
use Rattle.rules.specs.TextReading.{front, read_number, read_field}
use Rattle.game_texts.proofs.Decimals.{Digits, digit_small, decimal-digits}
use Rattle.game_texts.proofs.Parsing.{number_sound, field_sound}
use Rattle.pgsolver_scan.specs.Told.{since, line_length, past_line}

digits_line : (ds rest : List ℕ) → Digits ds → line_length (ds ++ rest) ≡ length ds + line_length rest
unfolding line_length
digits_line [] rest h = omega arith
digits_line (d ∷ ds) rest h =
    let (a, b) = digit_small d h.0 in
    let other : ¬ (d ≡ 10) = λ e. omega arith in
    rw (ne_eqb d 10 other) (omega (arith, digits_line ds rest h.1))

space_line : (rest : List ℕ) → line_length (32 ∷ rest) ≡ suc (line_length rest)
unfolding line_length
space_line rest = refl

pub number_line : (text : List ℕ) (p q n : ℕ) → p ≤ length text → q ≤ length text
    → read_number (since text p) ≡ some (front n (since text q)) → past_line text p ≡ past_line text q
unfolding past_line
number_line text p q n h k e =
    let spelt : since text p ≡ decimal n ++ since text q = (number_sound (since text p) (front n (since text q)) e).0 in
    omega (
      arith,
      ap line_length spelt,
      digits_line (decimal n) (since text q) (decimal-digits n),
      ap length spelt,
      length-append (decimal n) (since text q),
      length-drop p text,
      length-drop q text,
    )

pub field-line : (text : List ℕ) (p q n : ℕ) → p ≤ length text → q ≤ length text
    → read_field 32 (since text p) ≡ some (front n (since text q)) → past_line text p ≡ past_line text q
unfolding past_line
field-line text p q n h k e =
    let spelt : since text p ≡ decimal n ++ (32 ∷ since text q) =
    field_sound 32 (since text p) (front n (since text q)) e in
    omega (
      arith,
      ap line_length spelt,
      digits_line (decimal n) (32 ∷ since text q) (decimal-digits n),
      space_line (since text q),
      ap length spelt,
      length-append (decimal n) (32 ∷ since text q),
      length-drop p text,
      length-drop q text,
    )
