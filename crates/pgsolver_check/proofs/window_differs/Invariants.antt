-- `window_differs` meets its contract. Assumes nothing.
use Prim.Native.Nat.{◌-◌}
use lib.ListN.{length}
use Rattle.pgsolver_check.proofs.Windowing.{Window}
use Rattle.pgsolver_check.proofs.window_differs.Given as goal

abbrev pub invariant-loop-place : goal.invariant-loop-place
invariant-loop-place l = Window l.text l.first l.base l.place l.bits

abbrev pub decreases-loop-place : goal.decreases-loop-place
decreases-loop-place l = length l.text - l.place
