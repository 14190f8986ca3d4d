-- The vertices of a walk as the work words and the item table show them (document 01, "Words handed over": the work
-- slice; "A cut game shows a waiting vertex with owner 2, priority 0 and no edges"; document 02, #105: "Each vertex,
-- waiting ones too, gains its state and item number"). Assumes nothing: these are definitions.
use Rattle.std.specs.Prelude.{◌≡◌, Bool, true, cond, ◌&&◌, List, map, ℕ, ◌+◌, ◌*◌, ◌≤◌, ◌<◌, length, eqb, ltb}
use Rattle.player.specs.Player.{player_index}
use Rattle.player.specs.declared.Player.{Player}
use Rattle.rules.specs.Lists.{word, from}
use Rattle.rules.specs.Words.{most_vertices, most_edges}
use Rattle.rules.specs.Game.{Edge, Vertex, game_words}
use Rattle.rules.specs.Vertices.{stuck_priority}
use Rattle.games.specs.Columns.{vertex_column}
use Rattle.item_table.specs.Entries.{kind_owner}
use Rattle.work_slice.specs.Regions.{edge_word}
use Rattle.pairs.specs.Table.{state_at, item_at}
use Rattle.settling.specs.Stand.{settled_in, start_in, degree_in, degrees_in}

-- ---- one vertex. The regions have v words each, and the edge buffer, with room for e edges, stands behind the eight
-- of them: targets, then counts, both from the last word downwards

-- the player to whom the item of vertex u belongs
unfoldable pub shown_player : List ℕ → List ℕ → ℕ → ℕ → Player
shown_player kinds w v u = kind_owner (word kinds (item_at w v u))

unfoldable pub shown_owner : List ℕ → List ℕ → ℕ → ℕ → ℕ
shown_owner kinds w v u = cond (settled_in w v u) (player_index (shown_player kinds w v u)) 2

-- where the first edge of vertex u leads
abbrev pub first_target : List ℕ → (v e u : ℕ) → ℕ
first_target w v e u = word w (edge_word v e 0 (start_in w v u))

-- it leads to u itself, as only the edge does that is added where there is none
unfoldable pub loops_in : List ℕ → (v e u : ℕ) → Bool
loops_in w v e u = ltb 0 (degree_in w v u) && eqb (first_target w v e u) u

-- the item's priority, but with an added edge that of a vertex without targets
unfoldable pub shown_priority : (kinds priorities w : List ℕ) (v e u : ℕ) → ℕ
shown_priority kinds priorities w v e u =
    cond (settled_in w v u)
    (cond (loops_in w v e u) (stuck_priority (shown_player kinds w v u)) (word priorities (item_at w v u))) 0

-- the edge at place i of the buffer
unfoldable pub shown_edge : List ℕ → (v e i : ℕ) → Edge
shown_edge w v e i = record { target = word w (edge_word v e 0 i); count = word w (edge_word v e 1 i) }

-- the edges of vertex u: none before it is settled
unfoldable pub shown_edges : List ℕ → (v e u : ℕ) → List Edge
shown_edges w v e u = map (shown_edge w v e) (from (start_in w v u) (degree_in w v u))

-- theorem `shown_waiting`: a waiting vertex is shown as such
unfoldable pub shown_vertex : (kinds priorities w : List ℕ) (v e u : ℕ) → Vertex
shown_vertex kinds priorities w v e u =
    record {
      owner = shown_owner kinds w v u;
      priority = shown_priority kinds priorities w v e u;
      state = state_at w v u;
      item = item_at w v u;
      edges = shown_edges w v e u;
    }

-- its word in a column
unfoldable pub shown_word : (kinds priorities w : List ℕ) (v e column u : ℕ) → ℕ
shown_word kinds priorities w v e column u = vertex_column column (shown_vertex kinds priorities w v e u)

-- the first n vertices
unfoldable pub shown_vertices : (kinds priorities w : List ℕ) (v e n : ℕ) → List Vertex
shown_vertices kinds priorities w v e n = map (shown_vertex kinds priorities w v e) (from 0 n)

-- ---- what the functions ask for: sizes only

-- the first n vertices have their words in the regions, and the buffer is whole
pub record Placed (w : List ℕ) (v e n : ℕ) : Type 0 where
  pub known : n ≤ v
  pub most : (v ≤ most_vertices) × (e ≤ most_edges)
  pub whole : 8 * v + 2 * e ≤ length w

-- the edges of those that are settled stand at the first m places of the buffer
pub record EdgesWithin (w : List ℕ) (v m n : ℕ) : Type 0 where
  pub stretch : (u : ℕ) → u < n → settled_in w v u ≡ true → start_in w v u + degree_in w v u ≤ m

-- all this: every column of the first n vertices can be told
pub record Showing (w : List ℕ) (v e n : ℕ) : Type 0 where
  pub placed : Placed w v e n
  pub edged : EdgesWithin w v e n

-- all this, and the n vertices have m edges, which stand at the first m places of the buffer, and a game of this size
-- has room for them
pub record Showable (w : List ℕ) (v e n m size : ℕ) : Type 0 where
  pub placed : Placed w v e n
  pub few : m ≤ e
  pub edged : EdgesWithin w v m n
  pub total : degrees_in w v n ≡ m
  pub room : game_words n m ≤ size
