-- The thin program (document 01, "A thin program reads little-endian words from standard input: four lengths, then
-- labels, system, action formulas, formula"): the bytes that it writes, as a function of the bytes that it reads.
-- Assumes nothing: these are definitions.
use Rattle.std.specs.Prelude.{ℕ, zero, suc, ◌+◌, ◌*◌, Bool, cond, ◌||◌, List, [], ◌∷◌, ◌++◌, length, take, drop, replicate, ltb}
use Rattle.std.proofs.Math.Option.{Option, none, some}
use Rattle.rules.specs.declared.Answer.{Answer}
use Rattle.rules.specs.declared.Answer.TheVariants.{Done, Cut, Refused}
use Rattle.rules.specs.Lists.{word, sum}
use Rattle.rules.specs.declared.Room.{Room}
use Rattle.rules.specs.Words.{Input, input_of, room_of, game_length, work_length}
use Rattle.rules.specs.Depth.{by_depth}
use Rattle.rules.specs.Game.{vertex_count, owner_in, priority_in, targets_in}
use Rattle.rules.specs.Refusal.{differ}
use Rattle.rules.specs.Run.{Outcome, run}
use Rattle.rules.specs.Texts.{decimal, line, Written, text_into}

-- ---- reading

-- four bytes are a word, the lowest first
unfoldable pub word_of : (a b c d : ℕ) → ℕ
word_of a b c d = a + 256 * (b + 256 * (c + 256 * d))

unfoldable pub joined : ℕ → Option (List ℕ) → Option (List ℕ)
joined w none = none
joined w (some ws) = some (w ∷ ws)

-- the words of these bytes; none if the last word is broken
unfoldable pub words_of : List ℕ → Option (List ℕ)
words_of [] = some []
words_of (a ∷ []) = none
words_of (a ∷ b ∷ []) = none
words_of (a ∷ b ∷ c ∷ []) = none
words_of (a ∷ b ∷ c ∷ d ∷ rest) = joined (word_of a b c d) (words_of rest)

-- "with more than 2,048 words in all"
unfoldable pub gate_words : ℕ
gate_words = 2_048

-- "more than 2,048 words in all .. or lengths that disagree": the four lengths count among the words (decision D1), are
-- there (D2), and with the 4 sum to all words, as integers (D3)
unfoldable pub disagree : List ℕ → Bool
disagree ws = ltb gate_words (length ws) || (ltb (length ws) 4 || differ (length ws) (4 + sum (take 4 ws)))

-- the four slices, one after the other
unfoldable pub slices_of : List ℕ → Input
slices_of ws =
    let rest = drop 4 ws in
    let l = word ws 0 in
    let s = word ws 1 in
    let a = word ws 2 in
    input_of (take l rest) (take s (drop l rest)) (take a (drop (l + s) rest)) (drop (l + s + a) rest)

-- ---- running: "It uses V = 512, E = 1,024, k = 512, so no run there is cut" (theorem `gate_never_cut`)

unfoldable pub gate_room : Room
gate_room = room_of 512 1_024

unfoldable pub gate_steps : ℕ
gate_steps = 512

unfoldable pub gate_run : Input → Outcome
gate_run x = run by_depth x gate_room gate_steps (replicate (game_length gate_room) 0) (replicate (work_length gate_room) 0)

-- ---- printing: lines of specs/Texts

-- d o n e
unfoldable pub done_text : List ℕ
done_text = 100 ∷ 111 ∷ 110 ∷ 101 ∷ []

-- c u t: no run here is (theorem `gate_never_cut`)
unfoldable pub cut_text : List ℕ
cut_text = 99 ∷ 117 ∷ 116 ∷ []

-- r e f u s e d
unfoldable pub refused_text : List ℕ
refused_text = 114 ∷ 101 ∷ 102 ∷ 117 ∷ 115 ∷ 101 ∷ 100 ∷ []

-- "Then vertex, owner, priority, targets"
unfoldable pub vertex_line : List ℕ → ℕ → List ℕ
vertex_line g v = line (decimal v) (owner_in g v ∷ priority_in g v ∷ targets_in g v)

-- the lines of n vertices from v on
unfoldable pub vertex_lines : List ℕ → (v n : ℕ) → List ℕ
vertex_lines g v zero = []
vertex_lines g v (suc n) = vertex_line g v ++ vertex_lines g (suc v) n

-- what is printed of the answer and the game's words g: "First line: steps, vertices, edges"; "A refusal prints
-- `refused`, number, place"
unfoldable pub report : Answer → (g : List ℕ) → List ℕ
report (Done s v e) g = line done_text (s ∷ v ∷ e ∷ []) ++ vertex_lines g 0 (vertex_count g)
report (Cut s v e) g = line cut_text (s ∷ v ∷ e ∷ []) ++ vertex_lines g 0 (vertex_count g)
report (Refused n p) g = line refused_text (n ∷ p ∷ [])

unfoldable pub reported : Outcome → List ℕ
reported o = report o.answer o.game

unfoldable pub printed_words : Option (List ℕ) → List ℕ
printed_words none = line refused_text (2 ∷ 0 ∷ [])
printed_words (some ws) = let text = reported (gate_run (slices_of ws)) in cond (disagree ws) (line refused_text (2 ∷ 0 ∷ [])) text

-- the bytes written, of the bytes read
unfoldable pub printed : List ℕ → List ℕ
printed bytes = printed_words (words_of bytes)

-- ---- the text slice

-- so many bytes, in which every text fits (theorem `gate_fits`); the slice of a call must have as many
unfoldable pub gate_text_length : ℕ
gate_text_length = 16_384

-- what the program's call leaves, of the bytes read and the text slice as it is at entry
unfoldable pub program_text : (bytes slice : List ℕ) → Written
program_text bytes slice = text_into gate_text_length (printed bytes) slice
