-- `check_lent` meets its contract. Assumes nothing.
use mathlib.Core.Path.{sym, ◌∙◌}
use Rattle.pgsolver_check.proofs.Checking.{handed_on}
use Rattle.pgsolver_reader.proofs.Assembling.{lent_fault, lent_length}
use Rattle.pgsolver_reader.proofs.check_lent.Goals as goal

pub returns-in_err-check_room : goal.returns-in_err-check_room
returns-in_err-check_room c =
    let fault = c.in_err-check_room.field-0.0 in
    handed_on _ fault c.from_residual.ensures.1
    ∙ lent_fault c.args.room fault c.args.game_len (sym c.in_err-check_room.ensures)

pub returns : goal.returns
returns c =
    c.fault_if.ensures ∙ lent_length _ _ _ _ (sym c.in_ok-check_room.ensures) c.game_words-length.ensures
