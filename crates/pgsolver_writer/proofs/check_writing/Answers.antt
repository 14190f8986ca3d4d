-- `check_writing` meets its contract: a game that is not refused has the form that the search for 98 asks for. Assumes
-- nothing.
use mathlib.Core.Path.{sym, ◌∙◌}
use Rattle.restrictions.proofs.Accepted.{good_game}
use Rattle.pgsolver_writer.proofs.check_writing.Goals as goal

pub check_successors-requires : goal.check_successors-requires
check_successors-requires c = good_game _ (sym c.check_game.ensures ∙ c.in_ok-check_game.was)
