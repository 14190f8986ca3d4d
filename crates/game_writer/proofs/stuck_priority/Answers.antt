use mathlib.Core.Path.{ap, ◌∙◌}
use Rattle.player.specs.Player.{player_index}
use Rattle.rules.specs.Vertices.{stuck_priority}
use Rattle.game_writer.proofs.stuck_priority.Goals as goal

pub returns : goal.returns
unfolding stuck_priority
returns c = c.from.ensures ∙ ap player_index c.opponent-winner.ensures
