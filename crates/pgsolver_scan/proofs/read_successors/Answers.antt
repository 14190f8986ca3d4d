-- `read_successors` meets its contract. Assumes nothing.
use Rattle.pgsolver_scan.proofs.Reading.{when_true, when_false}
use Rattle.pgsolver_scan.proofs.Lines.{successors_none, successors_unnamed, successors_open, successors_told}
use Rattle.pgsolver_scan.proofs.read_successors.Goals as goal

pub returns-in_err-list : goal.returns-in_err-list
returns-in_err-list c =
    rw c.from_residual.ensures (successors_none c.args.text.now c.args.place c.in_err-list.ensures)

pub returns-in_err-end : goal.returns-in_err-end
returns-in_err-end c =
    rw c.from_residual-in_err-end.ensures
    (successors_unnamed c.args.text.now c.args.place c.in_ok-list.list c.in_ok-list.ensures c.in_err-end.ensures)

pub returns-then-bytes_at : goal.returns-then-bytes_at
returns-then-bytes_at c =
    successors_told c.args.text.now c.args.place c.in_ok-list.list c.in_ok-list.ensures c.in_ok-end.end
    c.in_ok-end.ensures (when_true _ _ _ c.bytes_at.ensures.place_value c.if-bytes_at.true)
    (c.bytes_at.ensures.place_in_bounds c.if-bytes_at.true).0

pub returns : goal.returns
returns c =
    successors_open c.args.text.now c.args.place c.in_ok-list.list c.in_ok-list.ensures c.in_ok-end.end
    c.in_ok-end.ensures (when_false _ _ _ c.bytes_at.ensures.place_value c.if-bytes_at.false)
