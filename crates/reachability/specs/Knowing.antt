-- What the inner functions of the restriction promise one another. Assumes nothing: these are definitions.
use Rattle.std.specs.Prelude.{ℕ, ◌<◌, ◌≤◌, ◌≡◌, List, length, take}
use Rattle.rules.specs.Lists.{word, In, Distinct}
use Rattle.rules.specs.Words.{most_vertices}
use Rattle.rules.specs.Game.{edge_count, vertex_count, edges_in}
use Rattle.rules.specs.Restrict.{new_number, kept_vertices}
use Rattle.restrictions.specs.GoodGame.{GoodGame}

-- the first `count` words of `work` are the vertices met, by their new numbers, and `mapping` holds each vertex's new
-- number
pub record Knows (count : ℕ) (mapping work : List ℕ) : Type 0 where
  pub work_long : length work ≡ length mapping
  pub few : length mapping ≤ most_vertices
  pub within : count ≤ length mapping
  pub right : (v : ℕ) → v < length mapping → word mapping v ≡ new_number (take count work) v
  pub distinct : Distinct (take count work)
  pub below : (v : ℕ) → In v (take count work) → v < length mapping

-- the vertices `reached` are vertices of the game g, with no more edges than g has
pub record Chosen (g reached : List ℕ) : Type 0 where
  pub good : GoodGame g
  pub few : length reached ≤ vertex_count g
  pub inside : (i : ℕ) → i < length reached → word reached i < vertex_count g
  pub fit : edge_count (kept_vertices g reached) ≤ edges_in g

-- `mapping` holds the new number of each vertex of g
pub record Numbered (g mapping reached : List ℕ) : Type 0 where
  pub long : length mapping ≡ vertex_count g
  pub right : (v : ℕ) → v < length mapping → word mapping v ≡ new_number reached v
