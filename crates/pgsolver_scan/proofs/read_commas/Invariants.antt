-- `read_commas` meets its contract: `Commas` says what was read up to each comma. Assumes nothing.
use Prim.Native.Nat.{◌-◌}
use lib.ListN.{length}
use Rattle.pgsolver_scan.proofs.Reading.{Commas}
use Rattle.pgsolver_scan.proofs.read_commas.Given as goal

abbrev pub invariant-loop-list : goal.invariant-loop-list
invariant-loop-list l = Commas l.text l.fn.first.next l.fn.first.value l.list

abbrev pub decreases-loop-list : goal.decreases-loop-list
decreases-loop-list l = length l.text - l.list.next
