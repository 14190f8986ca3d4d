-- What the words of a game say that is printed: a run leaves such a game (theorem `run_shown`). Assumes nothing: these
-- are statements.
use Rattle.std.specs.Prelude.{◌≡◌, List, ℕ, suc, ◌+◌, ◌≤◌, ◌<◌, length}
use Rattle.rules.specs.Lists.{In}
use Rattle.rules.specs.Game.{vertex_count, edges_in, owner_in, priority_in, offset_in, targets_in, game_end}

pub record Shown (g : List ℕ) : Type 0 where
  -- the program's room
  pub few : vertex_count g ≤ 512
  pub few_edges : edges_in g ≤ 1_024
  -- the words are a game
  pub begins : offset_in g 0 ≡ 0
  pub follows : (v : ℕ) → v < vertex_count g → offset_in g (suc v) ≡ offset_in g v + length (targets_in g v)
  pub ends : offset_in g (vertex_count g) ≡ edges_in g
  pub inside : game_end g ≤ length g
  -- owners, priorities and targets are small numbers: so is the text
  pub owned : (v : ℕ) → v < vertex_count g → owner_in g v ≤ 2
  pub ranked : (v : ℕ) → v < vertex_count g → priority_in g v < 4_294_967_296
  pub leads : (v u : ℕ) → v < vertex_count g → In u (targets_in g v) → u < vertex_count g
