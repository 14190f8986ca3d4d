-- Lines in the order of their numbers: the next line is that of the next vertex. Assumes nothing.
use Prim.Native.Nat.{ℕ, suc, ◌+◌, ◌-◌, ◌≤◌, ◌<◌}
use native.Mathlib.Omega.{arith}
use native.Mathlib.Decide.{dec_lt}
use mathlib.Core.Path.{◌≡◌, refl, sym, ap, ◌∙◌, subst}
use mathlib.Core.List.{List, [], ◌∷◌}
use mathlib.Core.Option.{some}
use lib.ListN.{length}
use Rattle.rules.specs.Lists.{word, from}
use Rattle.rules.specs.Texts.{decimal}
use Rattle.rules.specs.Pgsolver.{SolverLine}
use Rattle.rules.specs.TextReading.{front, read_field}
use Rattle.rules.specs.PgsolverReading.{numbers_of}
use Rattle.game_texts.proofs.Parsing.{some_same}
use Rattle.std.specs.Prelude.{Some}
use Rattle.pgsolver_scan.specs.Told.{saturated, since, past_line, Told}
use Rattle.pgsolver_check.specs.Lines.{lines_in}
use Rattle.pgsolver_check.proofs.Surveying.{lines_end}
use Rattle.pgsolver_check.proofs.Walking.{line_body, Walk, walk_start, walk-next, walk_more, walk_number}
use Rattle.pgsolver_reader.specs.Parts.{Begins, Turn}
use Rattle.pgsolver_scan.proofs.SameLine.{field-line}
use Rattle.pgsolver_reader.proofs.Standing.{line_among}
use Rattle.pgsolver_reader.proofs.Widths.{field_place}

-- the lines from p on are those of the vertices v to n - 1
pub record Ordering (text : List ℕ) (first n v p : ℕ) : Type 0 where
  pub walk : Walk text first p
  pub numbers : numbers_of walk.rest ≡ from v (n - v)

pub ordering_start : {text : List ℕ} {first n : ℕ} → Begins text first → numbers_of (lines_in text) ≡ from 0 n
    → Ordering text first n 0 first
ordering_start {n = n} b e =
    let z : n ≡ n - 0 = omega arith in
    record { walk = walk_start b.readable; numbers = ap numbers_of b.lines ∙ e ∙ ap (from 0) z }

from_next : (v n : ℕ) → v < n → from v (n - v) ≡ v ∷ from (suc v) (n - suc v)
unfolding from
from_next v n h = let z : n - v ≡ suc (n - suc v) = omega arith in rw z refl

first_of : {a b : ℕ} {xs ys : List ℕ} → a ∷ xs ≡ b ∷ ys → a ≡ b
first_of e = ap (λ (l : List ℕ). word l 0) e

rest_of : {a b : ℕ} {xs ys : List ℕ} → a ∷ xs ≡ b ∷ ys → xs ≡ ys
rest_of e = ap tail e
  where
    tail : List ℕ → List ℕ
    tail [] = []
    tail (x ∷ xs) = xs

module _ {text : List ℕ} {first n v p : ℕ} (b : Begins text first) (k : Ordering text first n v p) (below : v < n) where
  -- there is a line
  pub ordering_there : p < length text
  ordering_there = go (dec_lt p (length text))
    where
      none_left : length text ≤ p → ⊥
      none_left h =
          let e : [] ≡ k.walk.rest = some_same (sym (lines_end text p h) ∙ k.walk.here) in
          let z : [] ≡ v ∷ from (suc v) (n - suc v) = ap numbers_of e ∙ k.numbers ∙ from_next v n below in
          let y : ◌≡◌ {A = ℕ} 0 1 = cc in
          omega arith

      go : Dec (p < length text) → p < length text
      go (yes h) = h
      go (no h) = absurd (none_left (omega arith))

  abbrev x : SolverLine
  x = (walk-next b.readable k.walk ordering_there).line

  numbers : x.number ∷ numbers_of (walk-next b.readable k.walk ordering_there).later
      ≡ v ∷ from (suc v) (n - suc v)
  numbers =
      ap numbers_of (sym (walk-next b.readable k.walk ordering_there).all) ∙ k.numbers ∙ from_next v n below

  -- the place past its number, which has so many digits
  module _ (c : ℕ) (e : c ≡ length (decimal v)) where
    told : Told (Some (record { value = saturated v; next = p + c + 1 })) (read_field 32 (since text p)) text
    told =
        let y = walk-next b.readable k.walk ordering_there in
        let (f, g, h, d) = line_body (since text p) (front x (since text y.next)) y.reads in
        let number : f.value ≡ v = h ∙ first_of numbers in
        let (rest, within) = field_place text p f g c (e ∙ ap (λ (m : ℕ). length (decimal m)) (sym number)) in (
          f.value,
          g ∙ ap (λ (r : List ℕ). some (front f.value r)) rest,
          ap saturated (sym number),
          within,
        )

    pub ordering_turn : Turn text v (p + c + 1)
    ordering_turn =
        let (f, g, h) = walk_number b.readable k.walk ordering_there
        (record { value = saturated v; next = p + c + 1 }) told in
        record {
          line = x;
          within = g;
          body = h;
          among = line_among b k.walk ordering_there;
          number = first_of numbers;
        }

    past : past_line text p ≡ past_line text (p + c + 1)
    past = field-line text p (p + c + 1) told.0 k.walk.within told.3 told.1

    pub ordering_more : (i : ℕ) {next : ℕ} → past_line text (p + c + 1) ≡ past_line text i → next ≡ past_line text i
        → Ordering text first n (v + 1) next
    unfolding walk_more
    ordering_more i {next} f g =
        let y : suc v ≡ v + 1 = omega arith in
        subst (λ (z : ℕ). Ordering text first n (v + 1) z) (past ∙ f ∙ sym g)
        (record {
          walk = walk_more b.readable k.walk ordering_there;
          numbers = rest_of numbers ∙ ap (λ (z : ℕ). from z (n - z)) y;
        })
