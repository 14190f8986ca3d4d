-- `read_field` meets its contract. Assumes nothing.
use Rattle.pgsolver_scan.specs.Told.{since}
use Rattle.pgsolver_scan.proofs.Scanning.{field-none}
use Rattle.pgsolver_scan.proofs.Reading.{field_followed}
use Rattle.pgsolver_scan.proofs.read_field.Goals as goal

pub returns-in_err-number : goal.returns-in_err-number
returns-in_err-number c =
    rw c.from_residual.ensures
    (field-none c.args.byte (since c.args.text.now c.args.place) c.in_err-number.ensures)

pub returns : goal.returns
returns c =
    field_followed c.args.text.now c.args.place c.args.byte c.in_ok-number.number c.in_ok-number.ensures _
    c.followed.ensures
