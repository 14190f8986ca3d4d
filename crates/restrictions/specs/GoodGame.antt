-- What holds of the words of a game that is not refused (theorem `good_game`): its sizes, its offsets, and where its
-- edges lead. Assumes nothing: this is a statement.
use Rattle.std.specs.Prelude.{◌≡◌, List, ℕ, suc, ◌≤◌, ◌<◌, length}
use Rattle.rules.specs.Words.{most_vertices, most_edges}
use Rattle.rules.specs.Game.{vertex_count, edges_in, initial_in, game_end, owner_in, offset_in, edge_word}

pub record GoodGame (g : List ℕ) : Type 0 where
  pub sized : length g ≡ game_end g
  pub some : 1 ≤ vertex_count g
  pub few : vertex_count g ≤ most_vertices
  pub light : edges_in g ≤ most_edges
  pub begins : offset_in g 0 ≡ 0
  pub rises : (v : ℕ) → v < vertex_count g → offset_in g v ≤ offset_in g (suc v)
  pub ends : offset_in g (vertex_count g) ≡ edges_in g
  pub initial : initial_in g < vertex_count g
  pub owned : (v : ℕ) → v < vertex_count g → owner_in g v < 2
  pub leads : (e : ℕ) → e < edges_in g → edge_word g 0 e < vertex_count g
