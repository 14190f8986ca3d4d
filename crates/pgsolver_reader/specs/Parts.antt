-- The game as it is written: vertex by vertex, each from its line in the text. Where the lines are not in the order of
-- their numbers, the place of each vertex's line is posted before, where its owner and priority will stand. Assumes
-- nothing: these are definitions.
use Rattle.std.specs.Prelude.{ℕ, ◌+◌, ◌*◌, ◌%◌, ◌≤◌, ◌<◌, max, ◌≡◌, true, List, [], ◌∷◌, map, length}
use Rattle.std.proofs.Math.Seq.{slice}
use Rattle.rules.specs.Answers.{Check}
use Rattle.rules.specs.declared.Room.{Room}
use Rattle.rules.specs.Lists.{word, In, Distinct, from}
use Rattle.rules.specs.Words.{most_vertices, game_length}
use Rattle.rules.specs.Answers.{fault_if, and_then}
use Rattle.rules.specs.Refusal.{differ, refusal1}
use Rattle.rules.specs.Game.{Vertex, vertex_columns, game_words, edge_count}
use Rattle.games.specs.Columns.{edge_column_of}
use Rattle.rules.specs.Texts.{decimal}
use Rattle.rules.specs.Pgsolver.{SolverLine}
use Rattle.rules.specs.PgsolverReading.{vertex_named, numbers_of}
use Rattle.pgsolver_scan.specs.Told.{since}
use Rattle.pgsolver_check.specs.declared.Numbering.{Numbering}
use Rattle.pgsolver_check.specs.Numbers.{in_turn}
use Rattle.pgsolver_check.specs.Lines.{lines_in, lines_from, tops_of, ranks_of, Readable, Body}

-- ---- what the text says

-- the vertices 0 to v - 1 that the lines give
unfoldable pub verts_to : List SolverLine → ℕ → List Vertex
verts_to ls v = map (vertex_named ls) (from 0 v)

-- the lines are those of n vertices, all different, and all numbers are small
pub record Whole (text : List ℕ) (n : ℕ) : Type 0 where
  pub few : n ≤ most_vertices
  pub low : tops_of (lines_in text) < n
  pub ranked : ranks_of (lines_in text) < 4_294_967_296
  pub apart : Distinct (numbers_of (lines_in text))

-- the text's lines, from a place on
pub record Begins (text : List ℕ) (first : ℕ) : Type 0 where
  pub readable : Readable text first
  pub lines : lines_from text first ≡ lines_in text

-- what stands at a place is the line of vertex u, past its number
pub record Turn (text : List ℕ) (u place : ℕ) : Type 0 where
  pub line : SolverLine
  pub within : place ≤ length text
  pub body : Body (since text place) line
  pub among : In line (lines_in text)
  pub number : line.number ≡ u

-- the numbers from a tenth of the bound up to it have so many digits, and 0 as many as 1; v lies there, or at the bound
pub record DigitBound (count bound v : ℕ) : Type 0 where
  pub same : (n : ℕ) → n < bound → bound ≤ 10 * max n 1 → length (decimal n) ≡ count
  pub round : bound % 10 ≡ 0
  pub few : count < bound
  pub least : 10 ≤ bound
  pub reached : bound ≤ 10 * max v 1
  pub within : v ≤ bound

-- ---- where the words of a game of n vertices stand

abbrev pub column_at : (n column : ℕ) → ℕ
column_at n column = 3 + column * n

abbrev pub offsets_from : ℕ → ℕ
offsets_from n = column_at n (length vertex_columns)

abbrev pub edges_begin : ℕ → ℕ
edges_begin n = game_words n 0

-- a place of the text in two words, the low one first
abbrev pub post_at : List ℕ → (n u : ℕ) → ℕ
post_at game n u = word game (column_at n 0 + u) + 4_294_967_296 * word game (column_at n 1 + u)

abbrev pub Posted : (text : List ℕ) (n : ℕ) (game : List ℕ) (u : ℕ) → Type 0
Posted text n game u = Turn text u (post_at game n u)

-- all lines are posted; the vertices from v on are
pub record LinesPosted (text : List ℕ) (n : ℕ) (game : List ℕ) : Type 0 where
  pub posted : (l : SolverLine) → In l (lines_in text) → Posted text n game l.number

pub record PostedFrom (text : List ℕ) (n v : ℕ) (game : List ℕ) : Type 0 where
  pub posted : (u : ℕ) → v ≤ u → u < n → Posted text n game u

-- the places posted for the vertices behind v stay
pub record PostsKept (n v : ℕ) (game game' : List ℕ) : Type 0 where
  pub same : (u : ℕ) → v < u → u < n → post_at game n u ≡ post_at game' n u

-- where the edges of each vertex begin, counted from e on
unfoldable pub starts : ℕ → List Vertex → List ℕ
starts e [] = []
starts e (v ∷ vs) = e ∷ starts (e + length v.edges) vs

-- the vertices below v are written, but for states and items, and their targets up to place q
pub record Part (text : List ℕ) (n v q : ℕ) (game : List ℕ) : Type 0 where
  pub room : game_words n (edge_count (verts_to (lines_in text) n)) ≤ length game
  pub within : v ≤ n
  pub place : q ≡ edges_begin n + edge_count (verts_to (lines_in text) v)
  pub owners : slice (column_at n 0) (column_at n 0 + v) game ≡ map (λ x. x.owner) (verts_to (lines_in text) v)
  pub priorities : slice (column_at n 1) (column_at n 1 + v) game ≡ map (λ x. x.priority) (verts_to (lines_in text) v)
  pub offsets : slice (offsets_from n) (offsets_from n + v) game ≡ starts 0 (verts_to (lines_in text) v)
  pub targets : slice (edges_begin n) q game ≡ edge_column_of 0 (verts_to (lines_in text) v)

-- ---- what is asked of a text before its game is written

pub record Ready (text : List ℕ) (first n : ℕ) (numbering : Numbering) (size : ℕ) : Type 0 where
  pub begins : Begins text first
  pub given : (u : ℕ) → u < n → In u (numbers_of (lines_in text))
  pub order : in_turn numbering ≡ true → numbers_of (lines_in text) ≡ from 0 n
  pub room : game_words n (edge_count (verts_to (lines_in text) n)) ≤ size

-- "after 1 and 2": what is refused before the text is looked at
unfoldable pub room_refusal : Room → (game : ℕ) → Check
room_refusal r game = and_then (refusal1 r) (fault_if 2 0 (differ game (game_length r)))
