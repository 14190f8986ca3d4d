-- `read_name` meets its contract. Assumes nothing.
use native.Mathlib.Omega.{arith}
use Rattle.pgsolver_scan.proofs.Naming.{naming_lacks, naming_done, naming_line, naming_end, newline_there}
use Rattle.pgsolver_scan.proofs.read_name.Goals as goal

pub returns-in_err-end : goal.returns-in_err-end
returns-in_err-end c =
    rw c.from_residual.ensures
    (naming_end (naming_lacks c.args.text.now c.args.place _ c.in_err-end.ensures) (omega arith))

pub returns-then-text-end-eq34 : goal.returns-then-text-end-eq34
returns-then-text-end-eq34 c =
    let (l, h, e) = c.in_ok-end.ensures in
    naming_done (naming_lacks c.args.text.now c.args.place c.in_ok-end.end l) h c.if-text-end-eq34.true

pub returns : goal.returns
returns c =
    let (l, h, e) = c.in_ok-end.ensures in
    naming_line (naming_lacks c.args.text.now c.args.place c.in_ok-end.end l) h c.if-text-end-eq34.false
    (newline_there _ c.if-text-end-eq34.false e)
