-- The vertices where a walk stands (document 01, "One step": "A settled vertex without targets gets an edge to itself,
-- and priority 0 if Odd, 1 if Even"; "Words handed over": "A cut game shows a waiting vertex with owner 2, priority 0
-- and no edges"; document 02, #105: "Each vertex, waiting ones too, gains its state and item number"). Assumes nothing:
-- these are definitions.
use Rattle.std.specs.Prelude.{ℕ, cond, List, [], ◌∷◌, map, get_or, length, eqb}
use Rattle.player.specs.Player.{player_index, other_player}
use Rattle.player.specs.declared.Player.{Player}
use Rattle.rules.specs.Lists.{from, has, position}
use Rattle.rules.specs.Words.{Input}
use Rattle.rules.specs.Depth.{Ranking}
use Rattle.rules.specs.Pairs.{Pair, same_pair, initial_pair, owner, priority, targets, transitions_behind}
use Rattle.rules.specs.Walk.{Stand}
use Rattle.rules.specs.Game.{Edge, Vertex, edge_to}

-- ---- what the rules give a settled vertex

-- the owner, the priority and the edges that "One step" gives
pub record Ruled : Type 0 where
  pub owner : Player
  pub priority : ℕ
  pub edges : List Edge

-- the edge from pair p to its target q: it leads to the vertex that stands for q
unfoldable pub ruled_edge : Input → Stand Pair → Pair → Pair → Edge
ruled_edge x st p q = record { target = position same_pair q st.known; count = transitions_behind x p q }

-- what the rules give pair p: an edge for each of its targets, in order
unfoldable pub ruled_vertex : Ranking → Input → Stand Pair → Pair → Ruled
ruled_vertex rank x st p =
    record { owner = owner x p; priority = priority rank x p; edges = map (ruled_edge x st p) (targets x p) }

-- "priority 0 if Odd, 1 if Even": the opponent's index
unfoldable pub stuck_priority : Player → ℕ
stuck_priority o = player_index (other_player o)

-- "A settled vertex without targets gets an edge to itself, and priority 0 if Odd, 1 if Even": vertex v, to which the
-- rules give r and these edges
unfoldable pub totalised_by : List Edge → ℕ → Ruled → Ruled
totalised_by [] v r = record { owner = r.owner; priority = stuck_priority r.owner; edges = edge_to v ∷ [] }
totalised_by (e ∷ es) v r = r

unfoldable pub totalised : ℕ → Ruled → Ruled
totalised v r = totalised_by r.edges v r

-- ---- how a vertex is shown that stands for pair p

unfoldable pub settled_vertex : Pair → Ruled → Vertex
settled_vertex p r =
    record { owner = player_index r.owner; priority = r.priority; state = p.0; item = p.1; edges = r.edges }

-- "a waiting vertex with owner 2, priority 0 and no edges"
unfoldable pub waiting_vertex : Pair → Vertex
waiting_vertex p = record { owner = 2; priority = 0; state = p.0; item = p.1; edges = [] }

-- ---- vertex v where a walk stands, and all of them

unfoldable pub vertex_at : Ranking → Input → Stand Pair → ℕ → Vertex
vertex_at rank x st v =
    let p = get_or st.known v (initial_pair x) in
    let settled = settled_vertex p (totalised v (ruled_vertex rank x st p)) in
    cond (has eqb v st.waiting) (waiting_vertex p) settled

unfoldable pub vertices_of : Ranking → Input → Stand Pair → List Vertex
vertices_of rank x st = map (vertex_at rank x st) (from 0 (length st.known))
