use Prim.Native.Nat.{◌+◌}
use lib.ListN.{drop}
use Rattle.words.proofs.Stretches.{Writing}
use Rattle.reachability.proofs.copy.Given as goal

abbrev pub invariant-loop-i : goal.invariant-loop-i
invariant-loop-i l = Writing (l.start + l.i) (drop l.i l.from) l.out l.start l.from l.initial.out
