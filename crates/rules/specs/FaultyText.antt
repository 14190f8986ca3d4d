-- What is wrong with a game that is to be written as PGSolver text, and with a text that is to be read, in the words of
-- document 02, #101: one clause for each condition, with its number and its place. A clause speaks of one condition;
-- that earlier numbers pass is not asked. Theorems `writing_exact`, `reading_exact`: a call is refused with the first
-- of these, and with none if there is none. Assumes nothing: these are definitions.
use Rattle.std.specs.Prelude.{◌≡◌, List, [], ◌∷◌, map, ℕ, ◌≤◌, ◌<◌, length, eqb}
use Rattle.rules.specs.declared.Room.{Room}
use Rattle.rules.specs.Lists.{In, Distinct, position}
use Rattle.rules.specs.Words.{work_length}
use Rattle.rules.specs.Game.{vertex_count, targets_in, edge_count}
use Rattle.rules.specs.Faulty.{FaultyRoom, First}
use Rattle.rules.specs.FaultyGame.{FaultyGame}
use Rattle.rules.specs.Pgsolver.{SolverLine, SolverText, HasForm}
use Rattle.rules.specs.PgsolverWriting.{game_text}
use Rattle.rules.specs.PgsolverReading.{vertex_of, numbers_of}

-- ---- writing: `text` is the length of the slice lent

-- "Refused in writing: after 53, 98 for a vertex without successors, then 2 for too short a text slice"
pub data FaultyWriting (g : List ℕ) (text : ℕ) : (n p : ℕ) → Type 0 where
  no_game : {n p : ℕ} → FaultyGame g n p → FaultyWriting g text n p
  no_successor : (v : ℕ) → v < vertex_count g → targets_in g v ≡ [] → FaultyWriting g text 98 0
  short_text : text < length (game_text g) → FaultyWriting g text 2 0

unfoldable pub writing_turn : ℕ → ℕ
writing_turn n = position eqb n (51 ∷ 52 ∷ 53 ∷ 98 ∷ 2 ∷ [])

-- fault n at place p is the first of all
abbrev pub FirstFaultyWriting : List ℕ → (text n p : ℕ) → Type 0
FirstFaultyWriting g text n p = First writing_turn (FaultyWriting g text) n p

-- ---- reading: `game` is the length of the slice lent

-- "in reading, after 1 and 2: 91 for text that isn't this form, 92 for a vertex missing, given twice or, also as a
-- successor, above the highest, 93 for vertices or edges beyond the room or a priority beyond 32 bits, in that order".
-- No work slice is lent, so none has the wrong length
pub data FaultyReading (r : Room) (bytes : List ℕ) (game : ℕ) : (n p : ℕ) → Type 0 where
  no_room : {n p : ℕ} → FaultyRoom r game (work_length r) n p → FaultyReading r bytes game n p
  formless : ((t : SolverText) → ¬ HasForm bytes t) → FaultyReading r bytes game 91 0
  missing : (t : SolverText) → HasForm bytes t → (v : ℕ) → v ≤ t.highest → (¬ In v (numbers_of t.lines))
      → FaultyReading r bytes game 92 0
  given_twice : (t : SolverText) → HasForm bytes t → (¬ Distinct (numbers_of t.lines)) → FaultyReading r bytes game 92 0
  vertex_above : (t : SolverText) → HasForm bytes t → (l : SolverLine) → In l t.lines → t.highest < l.number
      → FaultyReading r bytes game 92 0
  successor_above : (t : SolverText) → HasForm bytes t → (l : SolverLine) → In l t.lines
      → (s : ℕ) → In s l.successors → t.highest < s → FaultyReading r bytes game 92 0
  vertices_beyond : (t : SolverText) → HasForm bytes t → r.vertices ≤ t.highest → FaultyReading r bytes game 93 0
  edges_beyond : (t : SolverText) → HasForm bytes t → r.edges < edge_count (map vertex_of t.lines)
      → FaultyReading r bytes game 93 0
  priority_beyond : (t : SolverText) → HasForm bytes t → (l : SolverLine) → In l t.lines
      → 4_294_967_295 < l.priority → FaultyReading r bytes game 93 0

-- the numbers rise: fault n at place p is the first of all
abbrev pub FirstFaultyReading : Room → List ℕ → (game n p : ℕ) → Type 0
FirstFaultyReading r bytes game n p = First (λ k. k) (FaultyReading r bytes game) n p
