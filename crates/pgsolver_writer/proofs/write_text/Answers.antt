-- `write_text` meets its contract: the game is refused, or its text is written. Assumes nothing.
use mathlib.Core.Path.{sym}
use Rattle.pgsolver_writer.proofs.Whole.{told_fault}
use Rattle.pgsolver_writer.proofs.write_text.Goals as goal

pub write_checked-requires : goal.write_checked-requires
write_checked-requires c = sym c.in_ok-check_writing.ensures

pub returns-in_err-check_writing : goal.returns-in_err-check_writing
returns-in_err-check_writing c =
    told_fault c.args.game.now c.args.text.now _ _ c.from_residual.ensures.1 c.in_err-check_writing.ensures
