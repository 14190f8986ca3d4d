-- Reading a number that is known to stand at a place: there is a byte behind its digits, and no digit makes it too
-- large. Assumes nothing.
use Prim.Native.Nat.{ℕ, ◌+◌, ◌*◌, ◌-◌, ◌≤◌, ◌<◌}
use native.Mathlib.Omega.{arith}
use mathlib.Core.Path.{◌≡◌, refl, sym, ap, ◌∙◌, subst}
use mathlib.Core.Bool.{Bool, true, false, cond}
use mathlib.Core.List.{List, [], ◌∷◌}
use mathlib.Core.Option.{none, some}
use lib.ListN.{length, drop, length-append, length-drop}
use Rattle.rules.specs.TextReading.{digits_at, past_digits, value_on, no_numeral}
use Rattle.rules.specs.TextReading.{Front, front, read_byte, read_number, read_field}
use Rattle.game_texts.proofs.Decimals.{front-split}
use Rattle.game_texts.proofs.Parsing.{some_same, then_some, byte_sound, byte-read}
use Rattle.std.specs.Prelude.{Some}
use Rattle.pgsolver_scan.specs.declared.Number.{Number}
use Rattle.pgsolver_scan.specs.Told.{saturated, since, Stopped, Told, Stands, StandsField}
use Rattle.pgsolver_scan.proofs.Scanning.{Scan, told_value}
use Rattle.pgsolver_scan.proofs.Scanning.{since-cons, field_some}

value_grows : (ds : List ℕ) (a : ℕ) → a ≤ value_on ds a
unfolding value_on
value_grows [] a = omega arith
value_grows (d ∷ ds) a = omega (arith, value_grows ds (10 * a + (d - 48)))

-- what a number that was read says of its digits
numeral : (ts : List ℕ) (n : ℕ) (rest : List ℕ) → read_number ts ≡ some (front n rest)
    → (no_numeral (digits_at ts) ≡ false) × (value_on (digits_at ts) 0 ≡ n) × (past_digits ts ≡ rest)
unfolding read_number
numeral ts n rest e = go (no_numeral (digits_at ts)) refl e
  where
    go : (b : Bool) → no_numeral (digits_at ts) ≡ b
        → cond b none (some (front (value_on (digits_at ts) 0) (past_digits ts))) ≡ some (front n rest)
        → (no_numeral (digits_at ts) ≡ false) × (value_on (digits_at ts) 0 ≡ n) × (past_digits ts ≡ rest)
    go true f g = absurd (let z : ◌≡◌ {A = ℕ} 0 1 = cc in omega arith)
    go false f g = (
      f,
      ap (λ (x : Front ℕ). x.value) (some_same g),
      ap (λ (x : Front ℕ). x.rest) (some_same g),
    )

module _ {text : List ℕ} {p q value : ℕ} (s : Stands text p) (k : Scan text p q value) where
  known_numeral : (no_numeral (digits_at (since text p)) ≡ false) × (value_on (digits_at (since text p)) 0 ≡ s.number)
      × (past_digits (since text p) ≡ s.rest)
  known_numeral = numeral (since text p) s.number s.rest s.reads

  pub known_inside : q < length text
  known_inside =
      omega (
        arith,
        k.count,
        ap length (front-split (since text p))
            ∙ length-append (digits_at (since text p)) (past_digits (since text p)),
        length-drop p text,
        ap length known_numeral.2,
        s.behind,
        s.within,
      )

  pub known_small : value < 4294967296
  unfolding saturated
  known_small =
      let (m, a, b) = k.right in
      omega (arith, a, b, known_numeral.1, value_grows (digits_at (since text q)) m, s.small)

-- the number ends where its digits do
pub known_done : {text : List ℕ} {p : ℕ} (s : Stands text p) (x : Number) → Stopped text p x.next x.value
    → Told (Some x) (read_number (since text p)) text × x.next < length text
known_done {text} {p} s x k =
    let (a, b, c) = numeral (since text p) s.number s.rest s.reads in (
      told_value x k a,
      omega (arith, ap length (sym k.past ∙ c), length-drop x.next text, s.behind, k.within),
    )

-- a number with a space behind it
module _ {text : List ℕ} {p : ℕ} (s : StandsField text p) where
  field_parts : (n : Front ℕ) × (read_number (since text p) ≡ some n)
      × ((r : List ℕ) × (read_byte 32 n.rest ≡ some r) × (front n.value r ≡ front s.number s.rest))
  unfolding read_field
  field_parts =
      let (n, a, b) = then_some (read_number (since text p)) _ (front s.number s.rest) s.reads in
      let (r, c, d) = then_some (read_byte 32 n.rest) _ (front s.number s.rest) b in
      (n, a, (r, c, some_same d))

  longer : (ts r : List ℕ) → read_byte 32 ts ≡ some r → 1 ≤ length ts
  unfolding read_byte
  longer [] r e = absurd (let z : ◌≡◌ {A = ℕ} 0 1 = cc in omega arith)
  longer (c ∷ cs) r e = omega arith

  pub field_stands : Stands text p
  field_stands =
      let (n, a, (r, c, d)) = field_parts in
      record {
        within = s.within;
        number = n.value;
        rest = n.rest;
        reads = a;
        behind = longer n.rest r c;
        small = subst (λ (k : ℕ). k < 4294967296) (sym (ap (λ (x : Front ℕ). x.value) d)) s.small;
      }

  pub field_told : (x : Number) → Told (Some x) (read_number (since text p)) text → x.next < length text
      → Told (Some (record { value = x.value; next = x.next + 1 })) (read_field 32 (since text p)) text
  field_told x (m, a, b, w) h =
      let q = x.next in
      let (n, e, (r, c, d)) = field_parts in
      let same : n ≡ front m (since text q) = some_same (sym e ∙ a) in
      let byte : since text q ≡ 32 ∷ r =
      ap (λ (x : Front ℕ). x.rest) (sym same) ∙ byte_sound 32 n.rest r c in
      let rest : r ≡ since text (q + 1) = ap (drop 1) (sym byte ∙ since-cons text q h) in
      let space : read_byte 32 (since text q) ≡ some (since text (q + 1)) =
      ap (read_byte 32) byte ∙ byte-read 32 r ∙ ap some rest in
      (m, field_some 32 (since text p) (front m (since text q)) (since text (q + 1)) a space, b, omega arith)
