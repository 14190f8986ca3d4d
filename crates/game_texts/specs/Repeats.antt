-- A game with repeated edges removed (document 02, #101: "gives that game with repeated edges removed"; #102: "the
-- text's round trip now speaks only of what it shows"; #105: "A game read from PGSolver text has 0 in both", state and
-- item). Assumes nothing: these are definitions.
use Rattle.std.specs.Prelude.{ℕ, ◌≤◌, ◌<◌, ◌≡◌, List, map, length, take, eqb}
use Rattle.rules.specs.declared.Answer.TheVariants.{Done}
use Rattle.rules.specs.declared.Room.{Room}
use Rattle.rules.specs.Lists.{from, zeros, once}
use Rattle.rules.specs.Game.{Vertex, edge_count, game_of, padded, vertex_count, initial_in}
use Rattle.rules.specs.Game.{owner_in, priority_in, state_in, item_in, targets_in, counts_in}
use Rattle.rules.specs.PgsolverWriting.{written_game}
use Rattle.rules.specs.PgsolverReading.{text_vertex, read_game}

-- owner and priority stay, and of equal edges the first
unfoldable pub vertex_once : List ℕ → ℕ → Vertex
vertex_once g v = text_vertex (owner_in g v) (priority_in g v) (once eqb (targets_in g v))

unfoldable pub without_repeats : List ℕ → List Vertex
without_repeats g = map (vertex_once g) (from 0 (vertex_count g))

-- "room that holds it"; words have 32 bits, so every priority that a call is handed is below the bound
pub record Held (g : List ℕ) (r : Room) : Type 0 where
  pub vertices : vertex_count g ≤ r.vertices
  pub edges : edge_count (without_repeats g) ≤ r.edges
  pub priorities : (v : ℕ) → v < vertex_count g → priority_in g v < 4_294_967_296

-- game g as a text shows it: with owner, priority and edges of each vertex, and 0 for the initial vertex, every state,
-- every item and every count
unfoldable pub vertex_shown : List ℕ → ℕ → Vertex
vertex_shown g v = text_vertex (owner_in g v) (priority_in g v) (targets_in g v)

unfoldable pub as_shown : List ℕ → List ℕ
as_shown g = game_of 0 (map (vertex_shown g) (from 0 (vertex_count g)))

-- game h is game g, of equal edges only the first, and without its states, items and counts
pub record RepeatsRemoved (g h : List ℕ) : Type 0 where
  pub count : vertex_count h ≡ vertex_count g
  pub initial : initial_in h ≡ initial_in g
  pub owners : (v : ℕ) → v < vertex_count g → owner_in h v ≡ owner_in g v
  pub priorities : (v : ℕ) → v < vertex_count g → priority_in h v ≡ priority_in g v
  pub edges : (v : ℕ) → v < vertex_count g → targets_in h v ≡ once eqb (targets_in g v)
  -- what is lost: "the text's round trip now speaks only of what it shows", and "games read from text carry 0" (#102);
  -- a state and an item are not shown either (#105)
  pub counts : (v : ℕ) → v < vertex_count g → counts_in h v ≡ zeros (once eqb (targets_in g v))
  pub states : (v : ℕ) → v < vertex_count g → state_in h v ≡ 0
  pub items : (v : ℕ) → v < vertex_count g → item_in h v ≡ 0

-- game g, written into a text slice and read from the bytes that the answer counts
pub record RoundTripped (g text : List ℕ) (r : Room) (game : List ℕ) : Type 0 where
  pub size : ℕ
  pub writes : (written_game g text).answer ≡ Done size 0 0
  pub reads : (read_game r (take size (written_game g text).text) game).answer
      ≡ Done (vertex_count g) (vertex_count g) (edge_count (without_repeats g))
  pub leaves : (read_game r (take size (written_game g text).text) game).game
      ≡ padded (length game) (game_of 0 (without_repeats g))
  pub removed : RepeatsRemoved g (read_game r (take size (written_game g text).text) game).game
