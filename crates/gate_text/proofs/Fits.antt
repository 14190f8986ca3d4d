-- Every text that the program prints fits its slice: a first line of at most three words, and at most 512 vertices
-- with at most 1,024 edges. Assumes nothing.
use mathlib.Core.Bool.{Bool, true, false, cond}
use mathlib.Core.List.{List, [], ◌∷◌, ◌++◌}
use mathlib.Core.Logic.{inl, inr}
use mathlib.Core.Option.{Option, none, some}
use Prim.Native.Nat.{ℕ, ◌≤◌, ◌<◌}
use native.Mathlib.Omega.{arith}
use lib.ListN.{length, length-append}
use Rattle.rules.specs.declared.Answer.{Answer}
use Rattle.rules.specs.declared.Answer.TheVariants.{Done, Cut, Refused}
use Rattle.rules.specs.Lists.{In}
use Rattle.rules.specs.Answers.{Accepted}
use Rattle.rules.specs.Words.{Input}
use Rattle.rules.specs.Game.{vertex_count}
use Rattle.rules.specs.Texts.{digits_to, decimal, spaced, line}
use Rattle.rules.specs.Program.{words_of, disagree, slices_of, gate_run, done_text, cut_text, refused_text, vertex_lines}
use Rattle.rules.specs.Program.{report, reported, printed_words, printed, gate_text_length}
use Rattle.game_texts.proofs.Decimals.{line-length}
use Rattle.gate_text.specs.Shown.{Shown}
use Rattle.gate_text.proofs.Sizes.{game-length}
use Rattle.gate_text.proofs.NeverCut.{SmallAnswer, gate_shown, gate_small}

words_three : (m n p : ℕ) → m < 4_294_967_296 → n < 4_294_967_296 → p < 4_294_967_296
    → (i : ℕ) → In i (m ∷ n ∷ p ∷ []) → i < 4_294_967_296
words_three m n p a b c i (inl e) = omega arith
words_three m n p a b c i (inr (inl e)) = omega arith
words_three m n p a b c i (inr (inr (inl e))) = omega arith
words_three m n p a b c i (inr (inr (inr x3))) = elim x3 [ ]

words_two : (m n : ℕ) → m < 4_294_967_296 → n < 4_294_967_296 → (i : ℕ) → In i (m ∷ n ∷ []) → i < 4_294_967_296
words_two m n a b i (inl e) = omega arith
words_two m n a b i (inr (inl e)) = omega arith
words_two m n a b i (inr (inr x'')) = elim x'' [ ]

-- a first line of three words, and a game
game_fits : (m n p : ℕ) → m < 4_294_967_296 → n < 4_294_967_296 → p < 4_294_967_296
    → (name g : List ℕ) → length name ≤ 7 → Shown g
    → length (line name (m ∷ n ∷ p ∷ []) ++ vertex_lines g 0 (vertex_count g)) ≤ 16_384
game_fits m n p a b c name g h shown =
    omega (
      arith,
      length-append (line name (m ∷ n ∷ p ∷ [])) (vertex_lines g 0 (vertex_count g)),
      line-length name (m ∷ n ∷ p ∷ []) (words_three m n p a b c),
      game-length g shown,
    )

pub answer_fits : (a : Answer) (g : List ℕ) → SmallAnswer a → (Accepted a → Shown g) → length (report a g) ≤ 16_384
unfolding report done_text cut_text refused_text
answer_fits (Done s v e) g (a, b, c) shown = game_fits s v e a b c done_text g (omega arith) (shown tt)
answer_fits (Cut s v e) g (a, b, c) shown = game_fits s v e a b c cut_text g (omega arith) (shown tt)
answer_fits (Refused n p) g (a, b) shown = omega (arith, line-length refused_text (n ∷ p ∷ []) (words_two n p a b))

pub reported_fits : (x : Input) → length (reported (gate_run x)) ≤ gate_text_length
unfolding reported gate_text_length
reported_fits x = answer_fits (gate_run x).answer (gate_run x).game (gate_small x) (gate_shown x)

refused_fits : length (line refused_text (2 ∷ 0 ∷ [])) ≤ gate_text_length
unfolding gate_text_length refused_text line spaced decimal digits_to
refused_fits = omega arith

-- every text fits
pub gate_fits : (bytes : List ℕ) → length (printed bytes) ≤ gate_text_length
unfolding printed printed_words
gate_fits bytes = go (words_of bytes)
  where
    go : (o : Option (List ℕ)) → length (printed_words o) ≤ gate_text_length
    go none = refused_fits
    go (some ws) = within (disagree ws)
      where
        within : (t : Bool)
            → length (cond t (line refused_text (2 ∷ 0 ∷ [])) (reported (gate_run (slices_of ws)))) ≤ gate_text_length
        within true = refused_fits
        within false = reported_fits (slices_of ws)
