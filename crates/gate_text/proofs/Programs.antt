-- The program's parts make the program: the words that are read are run, and what is printed of that run is what the
-- rules print. Assumes nothing.
use mathlib.Core.Path.{◌≡◌, refl, sym, ap, ◌∙◌, subst}
use mathlib.Core.Bool.{Bool, true, false, cond, ◌||◌}
use mathlib.Core.List.{List, [], ◌∷◌}
use mathlib.Core.Option.{Option, none, some}
use Prim.Native.Nat.{ℕ, ◌+◌, ◌-◌, ◌≤◌, ◌<◌}
use native.Mathlib.Decide.{dec_lt}
use native.Mathlib.Omega.{arith}
use lib.ListN.{length, take, drop, length-drop}
use lib.Seq.{drop-drop, take_all, length-take-le}
use lib.Dec.{eqb, ltb}
use borrow.Author.Tests.{ltb-false, eqb-true, not-false}
use Rattle.rules.specs.declared.Answer.{Answer}
use Rattle.rules.specs.Lists.{word, sum}
use Rattle.rules.specs.Answers.{Accepted}
use Rattle.rules.specs.Words.{Input, input_of}
use Rattle.rules.specs.Refusal.{differ}
use Rattle.rules.specs.Run.{Outcome}
use Rattle.rules.specs.Texts.{line}
use Rattle.rules.specs.Program.{words_of, gate_words, disagree, slices_of, gate_run, refused_text, report, reported}
use Rattle.rules.specs.Program.{printed_words, printed}
use Rattle.gate_text.specs.Reading.{agreeing, accepted}
use Rattle.gate_text.specs.Shown.{Shown}
use Rattle.gate_text.proofs.Decoding.{sum_four, refused_long}
use Rattle.gate_text.proofs.NeverCut.{gate_shown}
use Rattle.lists.proofs.Tests.{or-false}

-- ---- what is read

-- the words of an input that agrees: the four lengths, and the slices behind them
module _ (ws : List ℕ) (agrees : disagree ws ≡ false) where
  lengths : (length ws ≤ 2_048) × (4 ≤ length ws) × (length ws ≡ 4 + sum (take 4 ws))
  unfolding disagree gate_words differ
  lengths =
      let (a, r) = or-false (ltb 2_048 (length ws)) (ltb (length ws) 4 || differ (length ws) (4 + sum (take 4 ws))) agrees in
      let (b, c) = or-false (ltb (length ws) 4) (differ (length ws) (4 + sum (take 4 ws))) r in
      (ltb-false 2_048 (length ws) a, ltb-false (length ws) 4 b, eqb-true (length ws) (4 + sum (take 4 ws)) (not-false (eqb (length ws) (4 + sum (take 4 ws))) c))

  pub four_words : 4 ≤ length ws
  four_words = lengths.1

  pub all_words : length ws ≡ 4 + word ws 0 + word ws 1 + word ws 2 + word ws 3
  all_words = omega (arith, lengths.2, sum_four ws lengths.1)

all_behind : (ws : List ℕ) → take (length ws - 4) (drop 4 ws) ≡ drop 4 ws
all_behind ws = take_all (length ws - 4) (drop 4 ws) (omega (arith, length-drop 4 ws))

-- the parts that the words are split into are the four slices
pub parts_are : (ws : List ℕ) (l s a : ℕ) {labels system actions formula behind last : List ℕ} → l ≡ word ws 0
    → s ≡ word ws 1 → a ≡ word ws 2
    → (labels ≡ take l (take (length ws - 4) (drop 4 ws))) × (behind ≡ drop l (take (length ws - 4) (drop 4 ws)))
    → (system ≡ take s behind) × (last ≡ drop s behind) → (actions ≡ take a last) × (formula ≡ drop a last)
    → input_of labels system actions formula ≡ slices_of ws
unfolding slices_of
parts_are ws l s a e f g labels system actions =
    let rest = drop 4 ws in
    rw (labels.0, system.0, actions.0, actions.1, system.1, labels.1, all_behind ws)
    (rw (drop-drop s l rest, drop-drop a (l + s) rest, e, f, g) refl)

-- ---- what is printed

pub accepted_some : (bytes ws : List ℕ) → accepted bytes ≡ some ws → (disagree ws ≡ false) × (printed bytes ≡ reported (gate_run (slices_of ws)))
unfolding accepted agreeing printed printed_words
accepted_some bytes ws e = go (words_of bytes) e
  where
    go : (o : Option (List ℕ)) → agreeing o ≡ some ws → (disagree ws ≡ false) × (printed_words o ≡ reported (gate_run (slices_of ws)))
    go none h = let z : ◌≡◌ {A = ℕ} 0 1 = cc in absurd (omega arith)
    go (some us) h = within (disagree us) refl h
      where
        within : (t : Bool) → disagree us ≡ t → cond t none (some us) ≡ some ws → (disagree ws ≡ false) × (printed_words (some us) ≡ reported (gate_run (slices_of ws)))
        within true d h = let z : ◌≡◌ {A = ℕ} 0 1 = cc in absurd (omega arith)
        within false d h =
            let u : us ≡ ws = cc in
            (ap disagree (sym u) ∙ d, rw d (ap (λ (vs : List ℕ). reported (gate_run (slices_of vs))) u))

pub accepted_none : (bytes : List ℕ) → accepted bytes ≡ none → line refused_text (2 ∷ 0 ∷ []) ≡ printed bytes
unfolding accepted agreeing printed printed_words
accepted_none bytes e = go (words_of bytes) e
  where
    go : (o : Option (List ℕ)) → agreeing o ≡ none → line refused_text (2 ∷ 0 ∷ []) ≡ printed_words o
    go none h = refl
    go (some us) h = within (disagree us) refl h
      where
        within : (t : Bool) → disagree us ≡ t → cond t none (some us) ≡ none → line refused_text (2 ∷ 0 ∷ []) ≡ printed_words (some us)
        within true d h = rw d refl
        within false d h = let z : ◌≡◌ {A = ℕ} 0 1 = cc in absurd (omega arith)

-- no more than the first 8,193 bytes decide what is printed: an input that has as many is too long, whatever follows
pub front-printed : (input front : List ℕ) → take 8_193 input ≡ front → printed front ≡ printed input
front-printed input front e = ap printed (sym e) ∙ go (dec_lt 8_193 (length input))
  where
    go : Dec (8_193 < length input) → printed (take 8_193 input) ≡ printed input
    go (yes h) =
        let n : length (take 8_193 input) ≡ 8_193 = length-take-le 8_193 input (omega arith) in
        sym (accepted_none (take 8_193 input) (refused_long (take 8_193 input) (omega arith)))
        ∙ accepted_none input (refused_long input (omega arith))
    go (no d) = ap printed (take_all 8_193 input (omega arith))

-- ---- a run, as the code leaves it
module _ (x : Input) (a : Answer) (game work : List ℕ) (same : ◌≡◌ {A = Outcome} (record { answer = a; game = game; work = work }) (gate_run x)) where
  pub run-printed : report a game ≡ reported (gate_run x)
  unfolding reported
  run-printed = ap reported same

  pub game_shown : Accepted a → Shown game
  game_shown = subst (λ (o : Outcome). Accepted o.answer → Shown o.game) (sym same) (gate_shown x)
