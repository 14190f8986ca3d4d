-- Numbers that are known to stand at a place of the text: number, priority and owner of a line. Assumes nothing.
use Prim.Native.Nat.{ℕ, ◌≤◌, ◌<◌}
use native.Mathlib.Omega.{arith}
use mathlib.Core.Path.{◌≡◌, sym, ap, ◌∙◌, subst}
use mathlib.Core.List.{List, [], ◌∷◌, ◌++◌}
use lib.ListN.{length, length-append, length-drop, get_or-append}
use Rattle.rules.specs.Lists.{word, In}
use Rattle.rules.specs.Texts.{decimal}
use Rattle.rules.specs.Pgsolver.{SolverLine}
use Rattle.rules.specs.TextReading.{front, read_field}
use Rattle.game_texts.proofs.Decimals.{Digits, digit_small, decimal-digits, decimal_some}
use Rattle.game_texts.proofs.Parsing.{field_sound}
use Rattle.std.specs.Prelude.{Some}
use Rattle.pgsolver_scan.specs.declared.Number.{Number}
use Rattle.pgsolver_scan.specs.Told.{since, Told, StandsField}
use Rattle.pgsolver_scan.proofs.Scanning.{since-cons}
use Rattle.pgsolver_check.specs.Lines.{lines_in}
use Rattle.pgsolver_check.proofs.Walking.{number_top, Walk, walk-next, walk_among}
use Rattle.pgsolver_check.proofs.Fields.{line_number, line-priority, line-owner, priority_rank}
use Rattle.pgsolver_reader.specs.Parts.{Whole, Begins, Turn, post_at, Posted}

-- ---- the number of a line

module _ {text : List ℕ} {first p : ℕ} (b : Begins text first) (k : Walk text first p) (h : p < length text) where
  pub line_among : In (walk-next b.readable k h).line (lines_in text)
  line_among =
      subst (λ (ls : List SolverLine). In (walk-next b.readable k h).line ls) b.lines
      (walk_among b.readable k h)

  pub number_stands : {n : ℕ} → Whole text n → StandsField text p
  number_stands w =
      line_number b.readable k h
      (omega (
        arith,
        number_top (lines_in text) (walk-next b.readable k h).line line_among,
        w.low,
        w.few,
      ))

-- ---- priority and owner

digits_first : (ds : List ℕ) → Digits ds → 1 ≤ length ds → 48 ≤ word ds 0
digits_first [] f h = absurd (omega arith)
digits_first (d ∷ ds) f h = (digit_small d f.0).0

module _ {text : List ℕ} {u place : ℕ} (t : Turn text u place) where
  -- the first byte of a priority is a digit
  turn_digit : (place < length text) × (48 ≤ word text place)
  turn_digit =
      let digits : List ℕ = decimal t.line.priority in
      let spelt : since text place ≡ digits ++ (32 ∷ t.body.ranked)
      = field_sound 32 (since text place) (front t.line.priority t.body.ranked) t.body.priority in
      let some-digit : 1 ≤ length digits = decimal_some t.line.priority in
      let inside : place < length text
      = omega (arith, ap length spelt, length-append digits (32 ∷ t.body.ranked), length-drop place text) in
      let byte : word text place ≡ word digits 0
      = ap (λ (ts : List ℕ). word ts 0) (sym (since-cons text place inside) ∙ spelt)
      ∙ get_or-append digits (32 ∷ t.body.ranked) 0 0 some-digit in
      (inside, omega (arith, byte, digits_first digits (decimal-digits t.line.priority) some-digit))

  module _ {n : ℕ} (w : Whole text n) where
    pub low_rank : t.line.priority < 4294967296
    low_rank = omega (arith, w.ranked, priority_rank (lines_in text) t.line t.among)

    pub priority_stands : StandsField text place
    priority_stands = line-priority text place t.within t.body low_rank

  module _ (priority : Number) (a : Told (Some priority) (read_field 32 (since text place)) text) where
    pub owner_stands : StandsField text priority.next
    owner_stands = line-owner text place t.within t.body priority a

-- so is the byte at a place that is posted
pub posted_digit : (game : List ℕ) (n : ℕ) {text : List ℕ} {u : ℕ} → Posted text n game u
    → {place : ℕ} → place ≡ post_at game n u → (place < length text) × (48 ≤ word text place)
posted_digit game n {text} {u} t e = turn_digit (subst (Turn text u) (sym e) t)
