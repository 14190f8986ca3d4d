-- Bytes appended to a text, one stretch after the other. Assumes nothing.
use mathlib.Core.Path.{◌≡◌, refl, sym, ap, ◌∙◌, subst}
use mathlib.Core.Bool.{Bool, true, false, not, true≢false}
use mathlib.Core.List.{List, [], ◌++◌, append_assoc, append-nil}
use Prim.Native.Nat.{ℕ}
use native.Mathlib.Omega.{arith}
use lib.ListN.{length, length-append}
use Rattle.text_writer.specs.declared.Text.{Text}
use Rattle.text_writer.specs.Appending.{unless, Room, Appended}
use Rattle.text_writer.proofs.Lines.{wrote_none, wrote_both}

pub appended_none : {text : Text} → Appended [] text text
appended_none = record { same = refl; long = refl; wrote = wrote_none refl }

pub appended_as : {s s' : List ℕ} {text text' : Text} → s ≡ s' → Appended s text text' → Appended s' text text'
appended_as {text = text} {text' = text'} e a = subst (λ (l : List ℕ). Appended l text text') e a

-- the same bytes, said otherwise, fit
pub room_as : (text : Text) {s s' : List ℕ} → s ≡ s' → Room text s' → Room text s
room_as text e h = omega (arith, ap length e, h)

pub appended_both : {s s' : List ℕ} {text text' text'' : Text} → Appended s text text' → Appended s' text' text''
    → Appended (s ++ s') text text''
appended_both a b =
    record { same = b.same ∙ a.same; long = b.long ∙ a.long; wrote = wrote_both a.wrote b.wrote }

-- ---- what is appended if it is new, or not if it was met before

pub unless_new : (b new : Bool) (s : List ℕ) → new ≡ not b → new ≡ true → unless b s ≡ s
unfolding unless
unless_new true new s e f = absurd (true≢false (sym f ∙ e))
unless_new false new s e f = refl

pub unless_old : (b new : Bool) (s : List ℕ) → new ≡ not b → new ≡ false → unless b s ≡ []
unfolding unless
unless_old true new s e f = refl
unless_old false new s e f = absurd (true≢false (sym e ∙ f))

-- ---- of a stretch, the bytes `left` are left to append

pub record Left (left : List ℕ) (text : Text) (stretch : List ℕ) (text₀ : Text) : Type 0 where
  pub done : List ℕ
  pub grown : Appended done text₀ text
  pub whole : done ++ left ≡ stretch

pub left_as : {left left' : List ℕ} {text : Text} {stretch : List ℕ} {text₀ : Text} → left ≡ left'
    → Left left text stretch text₀ → Left left' text stretch text₀
left_as {text = text} {stretch = stretch} {text₀ = text₀} e w = subst (λ (l : List ℕ). Left l text stretch text₀) e w

-- the next of them fit
pub left_room : (s left : List ℕ) {text : Text} {stretch : List ℕ} {text₀ : Text} → Room text₀ stretch
    → Left (s ++ left) text stretch text₀ → Room text s
left_room s left h w =
    omega (
      arith,
      h,
      w.grown.wrote.past,
      w.grown.long,
      ap length w.whole,
      length-append w.done (s ++ left),
      length-append s left,
    )

-- they are appended
pub left_more : {s left : List ℕ} {text text' : Text} {stretch : List ℕ} {text₀ : Text} → Appended s text text'
    → Left (s ++ left) text stretch text₀ → Left left text' stretch text₀
left_more {s} {left} a w =
    record {
      done = w.done ++ s;
      grown = appended_both w.grown a;
      whole = append_assoc w.done s left ∙ w.whole;
    }

pub left_done : {text : Text} {stretch : List ℕ} {text₀ : Text} → Left [] text stretch text₀
    → Appended stretch text₀ text
left_done {text} {stretch} {text₀} w = appended_as (sym (append-nil w.done) ∙ w.whole) w.grown
