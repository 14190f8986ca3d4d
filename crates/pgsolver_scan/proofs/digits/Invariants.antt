-- `digits` meets its contract: `Scan` says what was read up to each digit. Assumes nothing.
use Prim.Native.Nat.{◌-◌}
use lib.ListN.{length}
use Rattle.pgsolver_scan.proofs.Scanning.{Scan}
use Rattle.pgsolver_scan.proofs.digits.Given as goal

abbrev pub invariant-loop-digit : goal.invariant-loop-digit
invariant-loop-digit g l = Scan l.text l.place l.next l.value

abbrev pub decreases-loop-digit : goal.decreases-loop-digit
decreases-loop-digit g l = length l.text - l.next
