-- What a run answers, and what the slices lent to it hold afterwards (document 01, "Who can cause a refusal"). Assumes
-- nothing: these are definitions.
use Rattle.std.specs.Prelude.{ℕ, ◌-◌, Bool, cond, ◌||◌, List, [], ◌∷◌, length, ltb}
use Rattle.rules.specs.declared.Answer.{Answer}
use Rattle.rules.specs.declared.Answer.TheVariants.{Done, Cut, Refused}
use Rattle.rules.specs.Answers.{Check}
use Rattle.std.specs.declared.result.Result.TheVariants.{Ok, Err}
use Rattle.rules.specs.Lists.{zeros}
use Rattle.rules.specs.declared.Room.{Room}
use Rattle.rules.specs.Words.{Input}
use Rattle.rules.specs.Depth.{Ranking}
use Rattle.rules.specs.Pairs.{Pair, same_pair, initial_pair, targets}
use Rattle.rules.specs.Walk.{Stand, walk}
use Rattle.rules.specs.Game.{Vertex, edge_count, game_of, padded}
use Rattle.rules.specs.Vertices.{vertices_of}
use Rattle.rules.specs.Refusal.{refusal}

-- the answer, and the game slice and the work slice as the call leaves them
pub record Outcome : Type 0 where
  pub answer : Answer
  pub game : List ℕ
  pub work : List ℕ

-- where the walk of k steps stands
unfoldable pub walk_of : Input → ℕ → Stand Pair
walk_of x k = walk same_pair (targets x) (initial_pair x) k

-- "60: within the first k steps the vertices known exceed V or the edges, added self-loops included, exceed E". Neither
-- ever falls, so it is told after k steps
unfoldable pub exceeds : Room → List Vertex → Bool
exceeds r vs = ltb r.vertices (length vs) || ltb r.edges (edge_count vs)

-- "A run is Cut if a vertex still waits after k steps, else Done": the vertices that wait; steps, vertices, edges
unfoldable pub built_answer : List ℕ → (s n m : ℕ) → Answer
built_answer [] s n m = Done s n m
built_answer (v ∷ waiting) s n m = Cut s n m

-- each step settles one vertex, so the steps are the vertices that do not wait
unfoldable pub built_outcome : Stand Pair → List Vertex → List ℕ → List ℕ → Outcome
built_outcome st vs game work =
    record {
      answer = built_answer st.waiting (length vs - length st.waiting) (length vs) (edge_count vs);
      game = padded (length game) (game_of 0 vs);
      work = zeros work;
    }

-- "Game and work are then all zero"
unfoldable pub out_of_room : List ℕ → List ℕ → Outcome
out_of_room game work = record { answer = Refused 60 0; game = zeros game; work = zeros work }

unfoldable pub walk_outcome : Room → Stand Pair → List Vertex → List ℕ → List ℕ → Outcome
walk_outcome r st vs game work = cond (exceeds r vs) (out_of_room game work) (built_outcome st vs game work)

-- "Except for 60, a refusal alters nothing"
unfoldable pub refused_or : Check → Outcome → List ℕ → List ℕ → Outcome
refused_or (Ok u) o game work = o
refused_or (Err f) o game work = record { answer = Refused f.number f.place; game = game; work = work }

-- the run on x in room r, with step limit k and the slices as they are at entry
unfoldable pub run : Ranking → Input → Room → (k : ℕ) → (game work : List ℕ) → Outcome
run rank x r k game work =
    let st = walk_of x k in
    refused_or (refusal x r (length game) (length work)) (walk_outcome r st (vertices_of rank x st) game work) game work
