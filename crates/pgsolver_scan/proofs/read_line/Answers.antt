-- `read_line` meets its contract: field by field, then the successors. Assumes nothing.
use Rattle.pgsolver_scan.proofs.Lines.{line_unnumbered, line_unranked, line_unowned, line_open, line_told}
use Rattle.pgsolver_scan.proofs.read_line.Goals as goal

pub returns-in_err-number : goal.returns-in_err-number
returns-in_err-number c =
    rw c.from_residual.ensures (line_unnumbered c.args.text.now c.args.place c.in_err-number.ensures)

pub returns-in_err-priority : goal.returns-in_err-priority
returns-in_err-priority c =
    rw c.from_residual-in_err-priority.ensures
    (line_unranked c.args.text.now c.args.place c.in_ok-number.number c.in_ok-number.ensures
    c.in_err-priority.ensures)

pub returns-in_err-owner : goal.returns-in_err-owner
returns-in_err-owner c =
    rw c.from_residual-in_err-owner.ensures
    (line_unowned c.args.text.now c.args.place c.in_ok-number.number c.in_ok-number.ensures
    c.in_ok-priority.priority c.in_ok-priority.ensures c.in_err-owner.ensures)

pub returns-in_err-successors : goal.returns-in_err-successors
returns-in_err-successors c =
    rw c.from_residual-in_err-successors.ensures
    (line_open c.args.text.now c.args.place c.in_ok-number.number c.in_ok-number.ensures
    c.in_ok-priority.priority c.in_ok-priority.ensures c.in_ok-owner.owner c.in_ok-owner.ensures
    c.in_err-successors.ensures)

pub returns : goal.returns
returns c =
    line_told c.args.text.now c.args.place c.in_ok-number.number c.in_ok-number.ensures
    c.in_ok-priority.priority c.in_ok-priority.ensures c.in_ok-owner.owner c.in_ok-owner.ensures
    c.in_ok-successors.successors c.in_ok-successors.ensures
