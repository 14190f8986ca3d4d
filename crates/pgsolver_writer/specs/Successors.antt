-- What the functions that write a game's lines promise one another. Assumes nothing: these are definitions.
use Rattle.std.specs.Prelude.{ℕ, ◌<◌, ◌≤◌, List, [], ◌∷◌, ◌++◌, length}
use Rattle.rules.specs.Words.{most_vertices}
use Rattle.rules.specs.Lists.{word}
use Rattle.rules.specs.Game.{vertex_count, targets_in}
use Rattle.rules.specs.Texts.{decimal}
use Rattle.rules.specs.Pgsolver.{comma_text}
use Rattle.restrictions.specs.GoodGame.{GoodGame}

-- what holds of the words of a game that is not refused in writing
pub record Writable (g : List ℕ) : Type 0 where
  pub good : GoodGame g
  pub leads : (v : ℕ) → v < vertex_count g → 1 ≤ length (targets_in g v)
  pub words : (i : ℕ) → word g i < 4_294_967_296

-- a space before the first number, a comma before each other one
unfoldable pub spaced_list : List ℕ → List ℕ
spaced_list [] = []
spaced_list (n ∷ ns) = 32 ∷ (decimal n ++ comma_text ns)

-- the byte before the next number, behind these
unfoldable pub separator : List ℕ → ℕ
separator [] = 32
separator (n ∷ ns) = 44

-- vertices of a game
pub record Vertices (targets : List ℕ) : Type 0 where
  pub small : (i : ℕ) → i < length targets → word targets i < most_vertices
  pub few : length targets < 4_294_967_296
