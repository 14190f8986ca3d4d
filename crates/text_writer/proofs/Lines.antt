-- Stretches one after the other, the parts of lines, and zeros past a text. Assumes nothing.
use mathlib.Core.Path.{◌≡◌, refl, sym, ap, ap₂, ◌∙◌, subst}
use mathlib.Core.List.{List, [], ◌∷◌, ◌++◌, append_assoc, append-nil}
use Prim.Native.Nat.{ℕ, ◌+◌, ◌-◌, ◌≤◌, ◌<◌}
use native.Mathlib.Numerals.{add-one}
use native.Mathlib.Omega.{arith}
use lib.ListN.{length, take, drop, replicate, length-append, drop_of_length-le}
use lib.Seq.{drop-cons, drop-drop, length-take-le, take-add, take-append_seam, drop-append_seam}
use Rattle.rules.specs.Lists.{word}
use Rattle.rules.specs.Game.{padded}
use Rattle.rules.specs.Texts.{decimal, spaced, line}
use Rattle.words.specs.Stretches.{Wrote}
use Rattle.words.proofs.Regions.{same_later}

-- ---- what no call, one call and two calls wrote

pub wrote_none : {at : ℕ} {stretch text : List ℕ} → stretch ≡ [] → Wrote at stretch text text at
wrote_none {at} {text = text} e =
    record {
      past = omega (arith, ap length e);
      words = sym (append-nil (take at text)) ∙ ap (λ (l : List ℕ). take at text ++ l) (sym e);
      rest = refl;
    }

pub wrote_as : {at r : ℕ} {s stretch text text' : List ℕ} → s ≡ stretch → Wrote at s text text' r
    → Wrote at stretch text text' r
wrote_as {at} {r} {text = text} {text' = text'} e w = subst (λ (l : List ℕ). Wrote at l text text' r) e w

pub wrote_both : {at p r : ℕ} {s s' text text' text'' : List ℕ} → Wrote at s text text' p → Wrote p s' text' text'' r
    → Wrote at (s ++ s') text text'' r
wrote_both {at} {p} {r} {s} {s'} {text} {text'} w v =
    record {
      past = omega (arith, w.past, v.past, length-append s s');
      words = v.words ∙ ap (λ (l : List ℕ). l ++ s') w.words ∙ append_assoc (take at text) s s';
      rest = v.rest ∙ same_later p r text text' w.rest (omega (arith, v.past));
    }

-- a stretch that stands behind the same words and in front of the same ones
pub wrote_between : (at : ℕ) (stretch text text' : List ℕ) → at ≤ length text → take at text' ≡ take at text
    → drop at text' ≡ stretch ++ drop (at + length stretch) text → Wrote at stretch text text' (at + length stretch)
wrote_between at stretch text text' fits before behind =
    let past : List ℕ = drop (at + length stretch) text in
    record {
      past = refl;
      words =
          take-add at (length stretch) text'
          ∙ ap₂ ◌++◌ before (ap (take (length stretch)) behind ∙ take-append_seam stretch past);
      rest =
          sym (drop-drop (length stretch) at text' ∙ ap (λ (n : ℕ). drop n text') (omega arith))
          ∙ ap (drop (length stretch)) behind
          ∙ drop-append_seam stretch past;
    }

-- ---- numbers and lines

-- the numbers from the i-th one on: a space and that number first
pub spaced_next : (ns : List ℕ) (i : ℕ) → i < length ns
    → spaced (drop i ns) ≡ (32 ∷ decimal (word ns i)) ++ spaced (drop (i + 1) ns)
unfolding spaced
spaced_next ns i h = rw (add-one i, drop-cons ns i 0) refl

pub spaced_none : (ns : List ℕ) (i : ℕ) → length ns ≤ i → spaced (drop i ns) ≡ []
unfolding spaced
spaced_none ns i h = ap spaced (drop_of_length-le ns h)

pub spaced_length : (n : ℕ) (ns : List ℕ)
    → length (spaced (n ∷ ns)) ≡ 1 + length (decimal n) + length (spaced ns)
unfolding spaced
spaced_length n ns = let e = length-append (decimal n) (spaced ns) in omega (arith, e)

pub line_parts : (name ns : List ℕ) → line name ns ≡ name ++ (spaced ns ++ (10 ∷ []))
unfolding line
line_parts name ns = refl

pub line_length : (name ns : List ℕ) → length (line name ns) ≡ length name + length (spaced ns) + 1
line_length name ns =
    rw line_parts
    (let e = length-append name (spaced ns ++ (10 ∷ [])) in omega (arith, e, length-append (spaced ns) (10 ∷ [])))

-- ---- zeros past a text

-- a text of n bytes, and zeros up to the slice's end
pub padded_to : (text : List ℕ) (n : ℕ) (text' : List ℕ) → n ≤ length text
    → text' ≡ take n text ++ replicate (length text - n) 0 → text' ≡ padded (length text) (take n text)
unfolding padded
padded_to text n text' h e =
    e ∙ ap (λ (k : ℕ). take n text ++ replicate (length text - k) 0) (sym (length-take-le n text h))
