-- The first of the targets are met.
use mathlib.Core.Path.{◌≡◌}
use lib.Dec.{eqb}
use lib.ListN.{drop}
use Rattle.rules.specs.Lists.{insert_all}
use Rattle.reachability.specs.Meets.{met_in, Met}
use Rattle.reachability.proofs.Search.discover_all.Given as goal

abbrev pub invariant-loop-target : goal.invariant-loop-target
invariant-loop-target l =
    Met (met_in l.self) l.initial.self l.self
    × (insert_all eqb (met_in l.initial.self) l.targets ≡ insert_all eqb (met_in l.self) (drop l.target-index l.targets))
