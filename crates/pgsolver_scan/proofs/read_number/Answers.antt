-- `read_number` meets its contract. Assumes nothing.
use Rattle.pgsolver_scan.proofs.Scanning.{told_none, told_zero, told_one, told_nonzero}
use Rattle.pgsolver_scan.proofs.read_number.Goals as goal
use Rattle.pgsolver_scan.proofs.read_number.Goals.{else-zero_first-via-then-zero_first+else-place-number}
use Rattle.pgsolver_scan.proofs.read_number.Goals.{else-zero_first-via-else-zero_first}

pub returns-then-number-place : goal.returns-then-number-place
returns-then-number-place c = told_none c.digits-number.result c.digits-number.ensures c.if-number-place.true

pub returns-then-place-number : goal.returns-then-place-number
returns-then-place-number c =
    told_zero c.digits-number.result c.digits-number.ensures c.if-place-number.true c.if-zero_first.true

pub returns : goal.returns
returns c =
    elim c.else-zero_first.branch [
      | else-zero_first-via-then-zero_first+else-place-number w ↦
          told_one c.digits-number.result c.digits-number.ensures c.if-number-place.false w.if-place-number.false
      | else-zero_first-via-else-zero_first w ↦
          told_nonzero c.digits-number.result c.digits-number.ensures c.if-number-place.false w.if-zero_first.false
    ]
