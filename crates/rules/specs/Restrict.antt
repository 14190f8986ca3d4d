-- The restriction (document 01, "Restriction": "From the initial vertex, breadth first, targets in order; the first met
-- gets the next number; owners, priorities and edge order stay. The map holds 4,294,967,295 for a vertex not reached";
-- document 02, #102: "The restriction copies the counts"; #105: "The restriction carries them along", states and
-- items). Assumes nothing: these are definitions.
use Rattle.std.specs.Prelude.{ℕ, zero, suc, cond, ◌||◌, List, [], ◌∷◌, map, length, get_or, eqb, ltb}
use Rattle.rules.specs.declared.Answer.{Answer}
use Rattle.rules.specs.declared.Answer.TheVariants.{Done, Refused}
use Rattle.rules.specs.Answers.{Check}
use Rattle.std.specs.declared.result.Result.TheVariants.{Ok, Err}
use Rattle.rules.specs.Lists.{from, zeros, has, position, insert_all}
use Rattle.rules.specs.Answers.{fault_if, and_then}
use Rattle.rules.specs.Game.{Edge, Vertex, edge_count, game_of, padded}
use Rattle.rules.specs.Game.{vertex_count, initial_in, owner_in, priority_in, state_in, item_in, targets_in, edges_at}
use Rattle.rules.specs.Refusal.{differ}
use Rattle.rules.specs.GameRefusal.{game_refusal}

-- ---- the search

-- The vertices met, by their new numbers, once those numbered from i on have been gone through in turn, at most `turns`
-- of them: the targets of each that are new get the next numbers, in order. Without turns it is the relation `Searched`
-- (theorem `reached_searched`)
unfoldable pub search_from : List ℕ → (turns i : ℕ) → List ℕ → List ℕ
search_from g zero i met = met
search_from g (suc turns) i met =
    let more = search_from g turns (suc i) (insert_all eqb met (targets_in g (get_or met i 0))) in
    cond (ltb i (length met)) more met

-- The vertices reached. No more are gone through than there are: in an accepted game every target of a vertex reached
-- is reached (theorem `reached_all`), and more turns change nothing (theorem `turns_enough`)
unfoldable pub reached_vertices : List ℕ → List ℕ
reached_vertices g = search_from g (vertex_count g) 0 (initial_in g ∷ [])

-- ---- the game that is written, and the map

-- the new number of vertex v, given the vertices reached
unfoldable pub new_number : List ℕ → ℕ → ℕ
new_number met v = cond (has eqb v met) (position eqb v met) 4_294_967_295

-- an edge that is kept leads to the new number of its target, and has the count that it had
unfoldable pub kept_edge : List ℕ → Edge → Edge
kept_edge met e = record { target = new_number met e.target; count = e.count }

unfoldable pub kept_vertex : List ℕ → List ℕ → ℕ → Vertex
kept_vertex g met v =
    record {
      owner = owner_in g v;
      priority = priority_in g v;
      state = state_in g v;
      item = item_in g v;
      edges = map (kept_edge met) (edges_at g v);
    }

unfoldable pub kept_vertices : List ℕ → List ℕ → List Vertex
kept_vertices g met = map (kept_vertex g met) met

unfoldable pub vertex_map : List ℕ → List ℕ → List ℕ
vertex_map g met = map (new_number met) (from 0 (vertex_count g))

-- ---- the answer, and what the lent slices hold afterwards

-- "For the restriction: output as long as the input, map and work as many words as vertices"; "51, 52, 53, then 2". The
-- lengths are those of the lent slices
unfoldable pub restriction_refusal : List ℕ → (out mapping work : ℕ) → Check
restriction_refusal g out mapping work =
    and_then (game_refusal g) (fault_if 2 0 (differ out (length g) || (differ mapping (vertex_count g) || differ work (vertex_count g))))

-- the answer, and the lent slices as the call leaves them
pub record Restricted : Type 0 where
  pub answer : Answer
  pub out : List ℕ
  pub mapping : List ℕ
  pub work : List ℕ

-- "A game that is restricted .. counts its vertices as steps"
unfoldable pub restricted_to : List ℕ → List ℕ → List ℕ → List ℕ → Restricted
restricted_to g met out work =
    let vs = kept_vertices g met in
    record {
      answer = Done (length vs) (length vs) (edge_count vs);
      out = padded (length out) (game_of 0 vs);
      mapping = vertex_map g met;
      work = zeros work;
    }

-- a refusal alters nothing
unfoldable pub restricted_or : Check → List ℕ → List ℕ → List ℕ → List ℕ → Restricted
restricted_or (Ok u) g out mapping work = restricted_to g (reached_vertices g) out work
restricted_or (Err f) g out mapping work = record { answer = Refused f.number f.place; out = out; mapping = mapping; work = work }

-- the restriction of game g, with the slices as they are at entry
unfoldable pub restriction : List ℕ → (out mapping work : List ℕ) → Restricted
restriction g out mapping work = restricted_or (restriction_refusal g (length out) (length mapping) (length work)) g out mapping work
