use mathlib.Core.Path.{sym, ◌∙◌}
use Rattle.parity_game.proofs.Accepted.{sizes}
use Rattle.parity_game.proofs.check_game.Goals as goal

pub check_offsets-requires : goal.check_offsets-requires
check_offsets-requires c = sizes _ (sym c.check_sizes.ensures ∙ c.in_ok-check_sizes.was)

pub check_vertices-requires : goal.check_vertices-requires
check_vertices-requires c = sizes _ (sym c.check_sizes.ensures ∙ c.in_ok-check_sizes.was)
