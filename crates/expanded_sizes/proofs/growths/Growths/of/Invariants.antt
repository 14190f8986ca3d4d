use Prim.Native.Nat.{◌≤◌}
use mathlib.Core.Path.{◌≡◌}
use lib.ListN.{length}
use Rattle.rules.specs.Table.{size}
use Rattle.expanded_sizes.specs.Growths.{GrowFrom}
use Rattle.expanded_sizes.proofs.growths.Growths.of.Given as goal

abbrev pub invariant-loop-node : goal.invariant-loop-node
invariant-loop-node l =
    (l.node ≤ size l.regulars) × (length l.of_node ≡ 1024) × GrowFrom l.regulars l.node l.of_node
