-- A stretch of words that is written from left to right, one word after the other or by calls: what is written and what
-- is left are the stretch. Assumes nothing.
use mathlib.Core.Path.{◌≡◌, refl, sym, ap, ◌∙◌, subst}
use mathlib.Core.List.{List, [], ◌∷◌, ◌++◌, map, append_assoc, append-nil}
use Prim.Native.Nat.{ℕ, ◌+◌, ◌-◌, ◌≤◌, ◌<◌}
use native.Mathlib.Numerals.{add-one}
use native.Mathlib.Omega.{arith}
use lib.ListN.{length, take, drop, set, length-append, length-set, length-drop, length-map}
use lib.Seq.{take-suc-set, get_or-drop, drop-cons, drop-set-lt, take_all}
use Rattle.rules.specs.Lists.{word}
use Rattle.words.specs.Stretches.{Wrote}
use Rattle.words.proofs.Regions.{same_later}

-- of the stretch that is to stand from at₀ on, the words in front of `at` are written, and `left` is left to write; the
-- words from `at` on are as they were
pub record Writing (at : ℕ) (left out : List ℕ) (at₀ : ℕ) (stretch out₀ : List ℕ) : Type 0 where
  pub long : length out ≡ length out₀
  pub last : at + length left ≡ at₀ + length stretch
  pub words : take at out ++ left ≡ take at₀ out₀ ++ stretch
  pub rest : drop at out ≡ drop at out₀

pub start : {at : ℕ} {stretch out : List ℕ} → Writing at stretch out at stretch out
start = record { long = refl; last = refl; words = refl; rest = refl }

-- what is left, said otherwise
pub turn : {at : ℕ} {left left' out : List ℕ} {at₀ : ℕ} {stretch out₀ : List ℕ} → left ≡ left' → Writing at left out at₀ stretch out₀ → Writing at left' out at₀ stretch out₀
turn {at} {out} {at₀} {stretch} {out₀} e w = subst (λ l. Writing at l out at₀ stretch out₀) e w

-- one word is written
pub put : {at x : ℕ} {left out : List ℕ} {at₀ : ℕ} {stretch out₀ : List ℕ} → at < length out → Writing at (x ∷ left) out at₀ stretch out₀
    → Writing (at + 1) left (set out at x) at₀ stretch out₀
put {at} {x} {left} {out} {out₀ = out₀} h w =
    record {
      long = length-set out at x ∙ w.long;
      last = omega (arith, w.last);
      words = rw (add-one at, take-suc-set out at x h) (append_assoc (take at out) (x ∷ []) left ∙ w.words);
      rest = drop-set-lt (at + 1) out at x (omega arith) ∙ same_later at (at + 1) out₀ out w.rest (omega arith);
    }

-- a stretch is written by a call
pub called : {at r : ℕ} {s left out out' : List ℕ} {at₀ : ℕ} {stretch out₀ : List ℕ} → length out' ≡ length out → Wrote at s out out' r
    → Writing at (s ++ left) out at₀ stretch out₀ → Writing r left out' at₀ stretch out₀
called {at} {r} {s} {left} {out} {out₀ = out₀} k c w =
    record {
      long = k ∙ w.long;
      last = omega (arith, c.past, length-append s left, w.last);
      words = rw c.words (append_assoc (take at out) s left ∙ w.words);
      rest = c.rest ∙ same_later at r out₀ out w.rest (omega (arith, c.past));
    }

pub done : {at : ℕ} {out : List ℕ} {at₀ : ℕ} {stretch out₀ : List ℕ} → Writing at [] out at₀ stretch out₀ → Wrote at₀ stretch out₀ out at
done {at} {out} w = record { past = omega (arith, w.last); words = sym (append-nil (take at out)) ∙ w.words; rest = w.rest }

-- the next word is within the slice
pub inside : {at x : ℕ} {left out : List ℕ} {at₀ : ℕ} {stretch out₀ : List ℕ} → at₀ + length stretch ≤ length out₀ → Writing at (x ∷ left) out at₀ stretch out₀
    → at < length out
inside h w = omega (arith, w.long, w.last)

-- ---- a word for each element of a list, from element i on

-- there is room for the next word
pub carry_room : (f : ℕ → ℕ) (xs : List ℕ) (i : ℕ) {p at₀ : ℕ} {out out₀ : List ℕ} → i < length xs → at₀ + length xs ≤ length out₀
    → Writing p (map f (drop i xs)) out at₀ (map f xs) out₀ → p < length out
carry_room f xs i h k w = omega (arith, w.long, w.last, length-map xs f, length-map (drop i xs) f, length-drop i xs)

pub carry_put : (f : ℕ → ℕ) (xs : List ℕ) (i : ℕ) {p at₀ : ℕ} {stretch out out₀ : List ℕ} → i < length xs → p < length out
    → Writing p (map f (drop i xs)) out at₀ stretch out₀ → Writing (p + 1) (map f (drop (i + 1) xs)) (set out p (f (word xs i))) at₀ stretch out₀
carry_put f xs i h l w = put l (turn (rw (add-one i) (ap (map f) (drop-cons xs i 0 h))) w)

-- the words from a place on, as they are lent
lent_rest : (ws : List ℕ) (from : ℕ) → take (length ws - from) (drop from ws) ≡ drop from ws
lent_rest ws from = take_all (length ws - from) (drop from ws) (omega (arith, length-drop from ws))

-- where they are lent, each is the word so far behind that place
pub words_behind : (ws : List ℕ) (from : ℕ) (xs : List ℕ)
    → map (word (take (length ws - from) (drop from ws))) xs ≡ map (λ n. word ws (from + n)) xs
words_behind ws from xs = ap (λ (rest : List ℕ). map (word rest) xs) (lent_rest ws from) ∙ go xs
  where
    go : (xs : List ℕ) → map (word (drop from ws)) xs ≡ map (λ n. word ws (from + n)) xs
    go [] = refl
    go (x ∷ xs) =
        ap (λ (w : ℕ). w ∷ map (word (drop from ws)) xs) (get_or-drop from ws x 0)
        ∙ ap (λ (l : List ℕ). word ws (from + x) ∷ l) (go xs)

-- and as many as there are behind it
pub behind_inside : (ws : List ℕ) (from n : ℕ) → from + n < length ws → n < length (take (length ws - from) (drop from ws))
behind_inside ws from n h = rw (lent_rest ws from) (omega (arith, length-drop from ws))
