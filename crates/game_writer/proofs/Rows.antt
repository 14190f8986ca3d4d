-- A word for each of the first n vertices, written from left to right. Assumes nothing.
use mathlib.Core.Path.{◌≡◌, refl, sym, ap, ◌∙◌}
use mathlib.Core.List.{List, [], ◌∷◌, ◌++◌, map}
use Prim.Native.Nat.{ℕ, suc, ◌+◌, ◌-◌, ◌≤◌, ◌<◌}
use native.Mathlib.Numerals.{add-one}
use native.Mathlib.Omega.{arith}
use lib.ListN.{length, take, drop, set, length-map, length-drop}
use lib.Seq.{length-take-le, ext_get_or}
use Rattle.std.proofs.Common.{reverse}
use Rattle.std.proofs.lemmas.List.{length-reverse, reverse-append, get_or-reverse, get_or-take, get_or-drop, get_or-map}
use Rattle.rules.specs.Lists.{word, from}
use Rattle.lists.proofs.Ranges.{from-length, from_at}
use Rattle.words.specs.Stretches.{Wrote}
use Rattle.words.proofs.Stretches.{Writing, start, turn, put, done, inside}
use Rattle.game_columns.proofs.Written.{moved}

-- ---- the numbers from u up to n

pub from_all : (n : ℕ) → from 0 (n - 0) ≡ from 0 n
from_all n = let e : n - 0 ≡ n = omega arith in ap (from 0) e

pub from_more : (n u : ℕ) → u < n → from u (n - u) ≡ u ∷ from (u + 1) (n - (u + 1))
from_more n u h =
    let e : n - u ≡ suc (n - (u + 1)) = omega arith in
    ap (from u) e ∙ step (n - (u + 1)) ∙ ap (λ (k : ℕ). u ∷ from k (n - (u + 1))) (sym (add-one u))
  where
    step : (k : ℕ) → from u (suc k) ≡ u ∷ from (suc u) k
    step k = unfold from in refl

pub from_none : (n u : ℕ) → n ≤ u → from u (n - u) ≡ []
unfolding from
from_none n u h = let e : n - u ≡ 0 = omega arith in ap (from u) e

-- ---- a word for each of them, the first at place `at`

-- those of the numbers below u are written
abbrev pub Row : (ℕ → ℕ) → (n u at : ℕ) → (out out₀ : List ℕ) → Type 0
Row f n u at out out₀ = Writing (at + u) (map f (from u (n - u))) out at (map f (from 0 n)) out₀

module _ (f : ℕ → ℕ) (n u at : ℕ) {out out₀ : List ℕ} where
  -- there is room for the next word
  pub row_room : u < n → at + n ≤ length out₀ → Row f n u at out out₀ → at + u < length out
  row_room h k w = omega (arith, w.long, k)

  pub row_put : (x : ℕ) → x ≡ f u → u < n → at + n ≤ length out₀ → Row f n u at out out₀
      → Row f n (u + 1) at (set out (at + u) x) out₀
  row_put x e h k w =
      let here : at + u < length out = row_room h k w in
      let more = ap (map f) (from_more n u h) ∙ ap (λ (y : ℕ). y ∷ map f (from (u + 1) (n - (u + 1)))) (sym e) in
      let next : at + u + 1 ≡ at + (u + 1) = omega arith in
      moved next (put here (turn more w))

pub row_done : (f : ℕ → ℕ) (n u at : ℕ) {out out₀ : List ℕ} → u ≤ n → n ≤ u → Row f n u at out out₀
    → Wrote at (map f (from 0 n)) out₀ out (at + n)
row_done f n u at h k w =
    let here : at + u ≡ at + n = omega arith in
    done (moved here (turn (ap (map f) (from_none n u k)) w))

-- ---- words, the last one first: those that an iterator from the back has left are left to write

pub down_start : (words rest : List ℕ) (n at : ℕ) (out : List ℕ) → rest ≡ words → n ≡ 0
    → Writing (at + n) (reverse rest) out at (reverse words) out
down_start words rest n at out e z =
    let here : at ≡ at + n = omega arith in
    moved here (turn (ap reverse (sym e)) start)

module _ (words rest rest' : List ℕ) (x at n : ℕ) {out out₀ : List ℕ} (more : rest ≡ rest' ++ (x ∷ []))
    (w : Writing (at + n) (reverse rest) out at (reverse words) out₀) where
  next : Writing (at + n) (x ∷ reverse rest') out at (reverse words) out₀
  next = turn (ap reverse more ∙ reverse-append rest' (x ∷ [])) w

  pub down_room : at + length words ≤ length out₀ → at + n < length out
  down_room k = inside (omega (arith, length-reverse words)) next

  pub down_put : (i m : ℕ) → i ≡ n → m ≡ n + 1 → at + length words ≤ length out₀
      → Writing (at + m) (reverse rest') (set out (at + i) x) at (reverse words) out₀
  down_put i m e f k =
      let there : at + n + 1 ≡ at + m = omega (arith, f) in
      rw e (moved there (put (down_room k) next))

pub down_done : (words rest : List ℕ) (at n : ℕ) {out out₀ : List ℕ} → length rest ≡ 0
    → Writing (at + n) (reverse rest) out at (reverse words) out₀ → Wrote at (reverse words) out₀ out (at + length words)
down_done words rest at n z w =
    let end : at + n ≡ at + length words = omega (arith, w.last, length-reverse rest, length-reverse words) in
    let none : reverse rest ≡ [] = length-zero (reverse rest) (omega (arith, length-reverse rest)) in
    done (moved end (turn none w))
  where
    length-zero : (xs : List ℕ) → length xs ≡ 0 → xs ≡ []
    length-zero [] e = refl
    length-zero (y ∷ ys) e = absurd (omega arith)

-- those below a place, as code cuts them out
pub down_below : (ws : List ℕ) (past count : ℕ) → count ≤ past → past ≤ length ws
    → reverse (take (past - (past - count)) (drop (past - count) ws))
    ≡ map (λ i. word ws (past - suc i)) (from 0 count)
down_below ws past count h k =
    ext_get_or 0 _ _ (length-reverse xs ∙ long ∙ sym (length-map (from 0 count) f ∙ from-length 0 count)) each
  where
    f : ℕ → ℕ
    f i = word ws (past - suc i)

    xs : List ℕ
    xs = take (past - (past - count)) (drop (past - count) ws)

    long : length xs ≡ count
    long = omega (arith, length-take-le (past - (past - count)) (drop (past - count) ws) (omega (arith, length-drop (past - count) ws)))

    each : (i : ℕ) → i < length (reverse xs) → word (reverse xs) i ≡ word (map f (from 0 count)) i
    each i l =
        let below : i < length xs = omega (arith, length-reverse xs) in
        let place : past - count + (length xs - 1 - i) ≡ past - suc (0 + i) = omega (arith, long) in
        get_or-reverse xs i 0 below
        ∙ get_or-take (past - (past - count)) (drop (past - count) ws) (length xs - 1 - i) 0 (omega (arith, long))
        ∙ get_or-drop (past - count) ws (length xs - 1 - i) 0
        ∙ ap (word ws) place
        ∙ sym (get_or-map f (from 0 count) i 0 0 (omega (arith, from-length 0 count, long))
        ∙ ap f (from_at 0 count i 0 (omega (arith, long))))
