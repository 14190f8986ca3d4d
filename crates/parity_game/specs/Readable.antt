-- What makes the words of a game readable: they are no more than a game may have, they end inside the slice, and the
-- edges of each vertex are a stretch of them. A game that is accepted is so, and one that a run leaves. Assumes
-- nothing: this is a definition.
use Rattle.std.specs.Prelude.{ℕ, suc, ◌≤◌, ◌<◌, ◌≡◌, List, length}
use Rattle.rules.specs.Words.{most_vertices, most_edges}
use Rattle.rules.specs.Game.{vertex_count, edges_in, game_end, offset_in}

pub record Readable (g : List ℕ) : Type 0 where
  pub few : vertex_count g ≤ most_vertices
  pub few_edges : edges_in g ≤ most_edges
  pub inside : game_end g ≤ length g
  pub rises : (v : ℕ) → v < vertex_count g → offset_in g v ≤ offset_in g (suc v)
  pub ends : offset_in g (vertex_count g) ≡ edges_in g
