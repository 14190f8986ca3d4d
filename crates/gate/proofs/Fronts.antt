-- What a call on an input's front leaves, for every input that begins so. Assumes nothing.
use mathlib.Core.Path.{◌≡◌, ◌∙◌}
use mathlib.Core.List.{List}
use Prim.Native.Nat.{ℕ, ◌≤◌}
use lib.ListN.{length, take}
use lib.Seq.{take_all}
use Rattle.rules.specs.declared.Answer.{Answer}
use Rattle.rules.specs.declared.Answer.TheVariants.{Done, Cut, Refused}
use Rattle.rules.specs.Texts.{Written}
use Rattle.rules.specs.Program.{printed, gate_text_length, program_text}
use Rattle.text_writer.proofs.Endings.{text_front, text_done, text_not_cut, text_not_refused}
use Rattle.gate_text.proofs.Programs.{front-printed}

module _ (front slice text : List ℕ) (a : Answer) (few : length front ≤ 8_193)
    (long : gate_text_length ≤ length slice)
    (same : (input : List ℕ) → take 8_193 input ≡ front
    → ◌≡◌ {A = Written} (record { answer = a; text = text }) (program_text input slice)) where
  -- the front itself is such an input
  written : ◌≡◌ {A = Written} (record { answer = a; text = text }) (program_text front slice)
  written = same front (take_all 8_193 front few)

  pub front-done : (n v e : ℕ) → a ≡ Done n v e → (size : ℕ) → size ≡ n
      → ((input : List ℕ) → take 8_193 input ≡ front → take size text ≡ printed input) × (size ≤ length text)
  unfolding program_text
  front-done n v e h size k =
      let m : n ≡ length (printed front) = text_done gate_text_length (printed front) slice a text long written n v e h in
      let f = text_front gate_text_length (printed front) slice a text long written size (k ∙ m) in
      (λ input i. f.0 ∙ front-printed input front i, f.1)

  pub front_not_cut : (n v e : ℕ) → ¬ (a ≡ Cut n v e)
  unfolding program_text
  front_not_cut = text_not_cut gate_text_length (printed front) slice a text long written

  pub front_not_refused : (n p : ℕ) → ¬ (a ≡ Refused n p)
  unfolding program_text
  front_not_refused = text_not_refused gate_text_length (printed front) slice a text long written
