-- What the restriction of a game leaves where no vertex is lost: as many vertices and edges, and a map that renumbers
-- all vertices. Assumes nothing: this is a statement.
use Rattle.std.specs.Prelude.{◌≡◌, List, ℕ, ◌<◌}
use Rattle.rules.specs.declared.Answer.{Answer}
use Rattle.rules.specs.declared.Answer.TheVariants.{Done}
use Rattle.rules.specs.Lists.{word}
use Rattle.rules.specs.Game.{vertex_count, edges_in}

-- g: the game restricted; a: the answer; ns: the words of the map
pub record KeepsAll (g : List ℕ) (a : Answer) (ns : List ℕ) : Type 0 where
  -- Done, with all vertices and edges
  pub answer : a ≡ Done (vertex_count g) (vertex_count g) (edges_in g)
  -- each vertex is sent to a vertex, different ones to different vertices, and no vertex is left out
  pub sent : (v : ℕ) → v < vertex_count g → word ns v < vertex_count g
  pub apart : (v w : ℕ) → v < vertex_count g → w < vertex_count g → word ns v ≡ word ns w → v ≡ w
  pub onto : (u : ℕ) → u < vertex_count g → (v : ℕ) × (v < vertex_count g) × (word ns v ≡ u)
