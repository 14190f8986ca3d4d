-- What the words of a game say that 51 does not refuse: the functions that check the rest ask for this. Assumes
-- nothing: this is a definition.
use Rattle.std.specs.Prelude.{ℕ, ◌≤◌, ◌≡◌, List, length}
use Rattle.rules.specs.Words.{most_vertices, most_edges}
use Rattle.rules.specs.Game.{vertex_count, edges_in, game_end}

pub record Sizes (g : List ℕ) : Type 0 where
  pub whole : length g ≡ game_end g
  pub some : 1 ≤ vertex_count g
  pub few : vertex_count g ≤ most_vertices
  pub few_edges : edges_in g ≤ most_edges
