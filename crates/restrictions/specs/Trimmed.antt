-- The words of a game without those past its end: so it is handed over to be restricted, whose length must be exactly
-- that of the game. Assumes nothing: this is a definition.
use Rattle.std.specs.Prelude.{List, ℕ, take}
use Rattle.rules.specs.Game.{game_end}

unfoldable pub trimmed : List ℕ → List ℕ
trimmed g = take (game_end g) g
