-- The two players (document 01, "Modules": Even is 0, Odd is 1, and the opponent). Assumes nothing: these are
-- definitions.
use Rattle.std.specs.Prelude.{ℕ}
use Rattle.player.specs.declared.Player.{Player}
use Rattle.player.specs.declared.Player.TheVariants.{Even, Odd}

-- the word that shows a player in a game
abbrev pub player_index : Player → ℕ
player_index Even = 0
player_index Odd = 1

abbrev pub other_player : Player → Player
other_player Even = Odd
other_player Odd = Even
