-- What users of the two calls on PGSolver text rely on, said of the answer and of what stands in the lent slice
-- afterwards, without the functions that compute it (document 02, #101). Assumes nothing: these are statements.
use Rattle.std.specs.Prelude.{◌≡◌, List, ℕ, suc, ◌+◌, ◌≤◌, ◌<◌, length, take, eqb}
use Rattle.rules.specs.declared.Answer.{Answer}
use Rattle.rules.specs.declared.Answer.TheVariants.{Done, Refused}
use Rattle.rules.specs.declared.Room.{Room}
use Rattle.rules.specs.Lists.{word, zeros, In, once}
use Rattle.rules.specs.Game.{vertex_count, edges_in, initial_in, owner_in, priority_in, state_in, item_in, offset_in}
use Rattle.rules.specs.Game.{targets_in, counts_in, game_end}
use Rattle.rules.specs.Pgsolver.{SolverLine, SolverText, HasForm}
use Rattle.rules.specs.PgsolverWriting.{text_in}
use Rattle.rules.specs.FaultyText.{FaultyWriting, FirstFaultyWriting, FaultyReading, FirstFaultyReading}

-- ---- writing

-- so many bytes at the front have the form and say game g, and nothing else stands in the slice
pub record WritesGame (g text : List ℕ) (size : ℕ) : Type 0 where
  pub fits : size ≤ length text
  pub says : HasForm (take size text) (text_in g)
  pub past : (i : ℕ) → size ≤ i → word text i ≡ 0

-- g: the game; text: the lent slice at entry; a: the answer; text': the slice afterwards. There is no fault or a first
-- one (theorem `writing_none_or_first`)
pub record WritingDemand (g text : List ℕ) (a : Answer) (text' : List ℕ) : Type 0 where
  -- "a refusal alters nothing"
  pub refused : (n p : ℕ) → FirstFaultyWriting g (length text) n p → (a ≡ Refused n p) × (text' ≡ text)
  pub accepted : ((n p : ℕ) → ¬ FaultyWriting g (length text) n p)
      → (size : ℕ) × (a ≡ Done size 0 0) × (length text' ≡ length text) × WritesGame g text' size

-- ---- reading

-- the words h are the game that t says, and nothing else stands in the slice
pub record ReadsGame (t : SolverText) (a : Answer) (h : List ℕ) : Type 0 where
  pub answer : a ≡ Done (vertex_count h) (vertex_count h) (edges_in h)
  pub vertices : vertex_count h ≡ suc t.highest
  -- "A game that is read starts at vertex 0"
  pub first : initial_in h ≡ 0
  -- each line gives the vertex of its number: owner, priority and successors, "a repeated successor kept once"
  pub numbers : (l : SolverLine) → In l t.lines → l.number < vertex_count h
  pub owners : (l : SolverLine) → In l t.lines → owner_in h l.number ≡ l.owner
  pub priorities : (l : SolverLine) → In l t.lines → priority_in h l.number ≡ l.priority
  pub edges : (l : SolverLine) → In l t.lines → targets_in h l.number ≡ once eqb l.successors
  -- "games read from text carry 0" (#102), and "0 in both", state and item (#105)
  pub counts : (l : SolverLine) → In l t.lines → counts_in h l.number ≡ zeros (once eqb l.successors)
  pub states : (l : SolverLine) → In l t.lines → state_in h l.number ≡ 0
  pub items : (l : SolverLine) → In l t.lines → item_in h l.number ≡ 0
  -- and every vertex has a line
  pub given : (v : ℕ) → v < vertex_count h → (l : SolverLine) × In l t.lines × (l.number ≡ v)
  -- the words are a game
  pub begins : offset_in h 0 ≡ 0
  pub follows : (v : ℕ) → v < vertex_count h → offset_in h (suc v) ≡ offset_in h v + length (targets_in h v)
  pub ends : (offset_in h (vertex_count h) ≡ edges_in h) × (game_end h ≤ length h)
  pub past : (i : ℕ) → game_end h ≤ i → word h i ≡ 0

-- r: the room; bytes: the text; game: the lent slice at entry; a: the answer; game': the slice afterwards. There is no
-- fault or a first one (theorem `reading_none_or_first`)
pub record ReadingDemand (r : Room) (bytes game : List ℕ) (a : Answer) (game' : List ℕ) : Type 0 where
  -- "a refusal alters nothing"
  pub refused : (n p : ℕ) → FirstFaultyReading r bytes (length game) n p → (a ≡ Refused n p) × (game' ≡ game)
  pub accepted : ((n p : ℕ) → ¬ FaultyReading r bytes (length game) n p)
      → (t : SolverText) × HasForm bytes t × (length game' ≡ length game) × ReadsGame t a game'
