-- What a call that writes a text leaves, by the way it ends, and what its caller finds. Assumes nothing.
use mathlib.Core.Path.{◌≡◌, refl, sym, ap, ap₂, ◌∙◌}
use mathlib.Core.List.{List, [], ◌++◌}
use Prim.Native.Nat.{ℕ, ◌-◌, ◌≤◌, ◌<◌}
use native.Mathlib.Omega.{arith}
use lib.ListN.{length, take, replicate, length-append}
use lib.Seq.{take-append_seam}
use borrow.Author.Tests.{lt-ltb, le-ltb}
use Rattle.rules.specs.declared.Answer.{Answer}
use Rattle.rules.specs.declared.Answer.TheVariants.{Done, Cut, Refused}
use Rattle.rules.specs.Game.{padded}
use Rattle.rules.specs.Texts.{Written, text_into}
use Rattle.text_writer.specs.declared.Text.{Text}
use Rattle.text_writer.specs.Appending.{lent_bytes, written_size, written, Appended}

module _ (least : ℕ) (s slice : List ℕ) where
  -- a slice that is too short is left as it is
  pub text_refused : length slice < least
      → ◌≡◌ {A = Written} (record { answer = Refused 2 0; text = slice }) (text_into least s slice)
  unfolding text_into
  text_refused h = rw (lt-ltb (length slice) least h) refl

  text_long : least ≤ length slice
      → ◌≡◌ {A = Written} (text_into least s slice)
      (record { answer = Done (length s) 0 0; text = padded (length slice) s })
  unfolding text_into
  text_long h = rw (le-ltb (length slice) least h) refl

  -- the text is written from the first byte on, then finished
  pub text_finished : {empty full : Text} {text : List ℕ} {a : Answer} → least ≤ length slice
      → (written_size empty ≡ 0) × (lent_bytes empty ≡ slice) → Appended s empty full → a ≡ Done (written_size full) 0 0
      → text ≡ padded (length (lent_bytes full)) (written full)
      → ◌≡◌ {A = Written} (record { answer = a; text = text }) (text_into least s slice)
  text_finished {empty} {full} {text} {a} h new w e f =
      let m : full.size ≡ length s = omega (arith, w.wrote.past, new.0) in
      let answered : a ≡ Done (length s) 0 0 = e ∙ ap (λ (l : ℕ). Done l 0 0) m in
      let front : take empty.size empty.bytes.now ≡ [] = rw new.0 refl in
      let words : written full ≡ s = w.wrote.words ∙ ap (λ (l : List ℕ). l ++ s) front in
      let shown : text ≡ padded (length slice) s = f ∙ ap₂ padded (w.long ∙ ap length new.1) words in
      let both : ◌≡◌ {A = Written} _ _ = λ i. record { answer = answered i; text = shown i } in
      both ∙ sym (text_long h)

  -- ---- the caller lent a slice that is long enough
  module _ (a : Answer) (text : List ℕ) (long : least ≤ length slice)
      (same : ◌≡◌ {A = Written} (record { answer = a; text = text }) (text_into least s slice)) where
    pub text_answer : a ≡ Done (length s) 0 0
    text_answer = ap (λ (w : Written). w.answer) (same ∙ text_long long)

    text_shown : text ≡ padded (length slice) s
    text_shown = ap (λ (w : Written). w.text) (same ∙ text_long long)

    -- the text stands at its front
    pub text_front : (n : ℕ) → n ≡ length s → (take n text ≡ s) × (n ≤ length text)
    unfolding padded
    text_front n e =
        let rest : List ℕ = replicate (length slice - length s) 0 in
        (rw (e, text_shown) (take-append_seam s rest), omega (arith, ap length text_shown, length-append s rest))

    -- no other answer is given
    pub text_done : (n v e : ℕ) → a ≡ Done n v e → n ≡ length s
    text_done n v e f = let q : Done n v e ≡ Done (length s) 0 0 = sym f ∙ text_answer in cc

    pub text_not_cut : (n v e : ℕ) → ¬ (a ≡ Cut n v e)
    text_not_cut n v e f =
        let q : Cut n v e ≡ Done (length s) 0 0 = sym f ∙ text_answer in
        let z : ◌≡◌ {A = ℕ} 0 1 = cc in
        omega arith

    pub text_not_refused : (n p : ℕ) → ¬ (a ≡ Refused n p)
    text_not_refused n p f =
        let q : Refused n p ≡ Done (length s) 0 0 = sym f ∙ text_answer in
        let z : ◌≡◌ {A = ℕ} 0 1 = cc in
        omega arith
