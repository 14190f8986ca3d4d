-- What the words of a game show of a vertex. Assumes nothing: this is a statement.
use Rattle.std.specs.Prelude.{◌≡◌, ℕ, List, map}
use Rattle.rules.specs.Game.{Vertex, owner_in, priority_in, state_in, item_in, targets_in, counts_in}

-- game g shows vertex v as y
pub record Row (g : List ℕ) (v : ℕ) (y : Vertex) : Type 0 where
  pub owner : owner_in g v ≡ y.owner
  pub priority : priority_in g v ≡ y.priority
  pub state : state_in g v ≡ y.state
  pub item : item_in g v ≡ y.item
  pub targets : targets_in g v ≡ map (λ e. e.target) y.edges
  pub counts : counts_in g v ≡ map (λ e. e.count) y.edges
