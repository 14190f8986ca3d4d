use Rattle.words.proofs.Stretches.{Writing}
use Prim.Native.Nat.{◌+◌}
use mathlib.Core.List.{map}
use lib.ListN.{drop}
use Rattle.rules.specs.Lists.{word}
use Rattle.reachability.proofs.write_numbers.Given as goal

abbrev pub invariant-loop-i : goal.invariant-loop-i
invariant-loop-i l =
    Writing (l.start + l.i) (map (word l.mapping) (drop l.i l.targets)) l.out l.start
    (map (word l.mapping) l.targets) l.initial.out
