use Rattle.words.proofs.Stretches.{Writing}
use Prim.Native.Nat.{◌+◌}
use mathlib.Core.List.{map}
use lib.ListN.{drop}
use Rattle.rules.specs.Lists.{word}
use Rattle.words.proofs.carry.Given as goal

abbrev pub invariant-loop-i : goal.invariant-loop-i
invariant-loop-i l =
    Writing (l.start + l.i) (map (word l.src) (drop l.i l.numbers)) l.out l.start
    (map (word l.src) l.numbers) l.initial.out
