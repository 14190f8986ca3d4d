-- `read_list` meets its contract. Assumes nothing.
use Rattle.pgsolver_scan.proofs.Reading.{list_not, list-told}
use Rattle.pgsolver_scan.proofs.read_list.Goals as goal

pub returns-in_err-first : goal.returns-in_err-first
returns-in_err-first c =
    rw c.from_residual.ensures (list_not c.args.text.now c.args.place c.in_err-first.ensures)

pub returns : goal.returns
returns c =
    list-told c.args.text.now c.args.place c.in_ok-first.first c.in_ok-first.ensures c.read_commas.result
    c.read_commas.ensures
