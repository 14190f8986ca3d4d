-- Reading a game from PGSolver text (document 02, #101: "read such text back"; "A game that is read starts at vertex
-- 0"; "Refused .. in reading, after 1 and 2: 91 for text that isn't this form, 92 for a vertex missing, given twice or,
-- also as a successor, above the highest, 93 for vertices or edges beyond the room or a priority beyond 32 bits, in
-- that order"). Assumes nothing: these are definitions.
use Rattle.std.specs.Prelude.{ℕ, suc, Bool, true, cond, not, ◌&&◌, ◌||◌, List, [], ◌∷◌, map, length, eqb, ltb, leb}
use Rattle.std.proofs.Math.Option.{Option, none, some}
use Rattle.rules.specs.declared.Answer.{Answer}
use Rattle.rules.specs.declared.Answer.TheVariants.{Done, Refused}
use Rattle.rules.specs.Answers.{Check}
use Rattle.std.specs.declared.result.Result.TheVariants.{Ok, Err}
use Rattle.rules.specs.Answers.{fault}
use Rattle.rules.specs.declared.Room.{Room}
use Rattle.rules.specs.Lists.{from, has, once}
use Rattle.rules.specs.Words.{game_length}
use Rattle.rules.specs.Answers.{fault_if, and_then, first_fault}
use Rattle.rules.specs.Game.{Vertex, edge_to, blank_vertex, edge_count, game_of, padded}
use Rattle.rules.specs.Refusal.{differ, refusal1}
use Rattle.rules.specs.Pgsolver.{SolverLine, SolverText}
use Rattle.rules.specs.PgsolverParse.{parse}

-- ---- the game that is read

-- a vertex with owner o, priority p and edges to ts, as a text shows it: "games read from text carry 0" as counts
-- (#102), and a game read "has 0 in both", state and item (#105)
unfoldable pub text_vertex : (o p : ℕ) (ts : List ℕ) → Vertex
text_vertex o p ts = record { owner = o; priority = p; state = 0; item = 0; edges = map edge_to ts }

-- the vertex of a line: "a repeated successor kept once"; the name is ignored
unfoldable pub vertex_of : SolverLine → Vertex
vertex_of l = text_vertex l.owner l.priority (once eqb l.successors)

-- the vertex that these lines give under a number; in a text that is not refused there is one for each, and the first
-- clause is never reached
unfoldable pub vertex_named : List SolverLine → ℕ → Vertex
vertex_named [] v = blank_vertex
vertex_named (l ∷ ls) v = let later = vertex_named ls v in cond (eqb l.number v) (vertex_of l) later

-- "vertex lines in any order": the vertices in the order of their numbers
unfoldable pub read_vertices : SolverText → List Vertex
read_vertices t = map (vertex_named t.lines) (from 0 (suc t.highest))

-- ---- refusals (decision E2: at place 0)

-- every element passes the test
unfoldable pub all : {A : Type 0} → (A → Bool) → List A → Bool
all f [] = true
all f (a ∷ rest) = f a && all f rest

-- no number stands twice
unfoldable pub different : List ℕ → Bool
different [] = true
different (n ∷ ns) = not (has eqb n ns) && different ns

abbrev pub numbers_of : List SolverLine → List ℕ
numbers_of ls = map (λ l. l.number) ls

-- neither "above the highest" itself nor in its successors
unfoldable pub within_highest : ℕ → SolverLine → Bool
within_highest h l = leb l.number h && all (λ s. leb s h) l.successors

-- as many lines as vertices, their numbers different and none above the highest: then none is missing (theorem
-- `refusal92_exact`)
unfoldable pub refusal92 : SolverText → Check
refusal92 t =
    fault_if 92 0
    (not (eqb (length t.lines) (suc t.highest)
    && (all (within_highest t.highest) t.lines && different (numbers_of t.lines))))

-- "vertices or edges beyond the room or a priority beyond 32 bits": repeated edges are not counted (decision E8)
unfoldable pub refusal93 : Room → SolverText → Check
refusal93 r t =
    fault_if 93 0
    (ltb r.vertices (suc t.highest)
    || (not (all (λ l. ltb l.priority 4_294_967_296) t.lines) || ltb r.edges (edge_count (map vertex_of t.lines))))

-- "91 for text that isn't this form", then 92 and 93 of what it says
unfoldable pub text_refusal : Room → Option SolverText → Check
text_refusal r none = fault 91 0
text_refusal r (some t) = and_then (refusal92 t) (refusal93 r t)

-- "after 1 and 2": the room, then the length of the game slice; no work slice is lent (decision M1)
unfoldable pub reading_refusal : Room → (bytes : List ℕ) → (game : ℕ) → Check
reading_refusal r bytes game =
    first_fault (refusal1 r ∷ fault_if 2 0 (differ game (game_length r)) ∷ text_refusal r (parse bytes) ∷ [])

-- ---- the answer, and what the lent slice holds afterwards

pub record Readback : Type 0 where
  pub answer : Answer
  pub game : List ℕ

-- "A game that is .. read .. counts its vertices as steps"; "starts at vertex 0"
unfoldable pub read_as : List Vertex → List ℕ → Readback
read_as vs game =
    record { answer = Done (length vs) (length vs) (edge_count vs); game = padded (length game) (game_of 0 vs) }

-- the vertices that a text says; none where it does not have the form
unfoldable pub vertices_in : Option SolverText → List Vertex
vertices_in none = []
vertices_in (some t) = read_vertices t

-- a refusal alters nothing
unfoldable pub read_or : Check → List Vertex → List ℕ → Readback
read_or (Ok u) vs game = read_as vs game
read_or (Err f) vs game = record { answer = Refused f.number f.place; game = game }

-- the game that the bytes say, in room r, with the game slice as it is at entry
unfoldable pub read_game : Room → (bytes game : List ℕ) → Readback
read_game r bytes game = read_or (reading_refusal r bytes (length game)) (vertices_in (parse bytes)) game
