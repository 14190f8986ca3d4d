use Prim.Native.Nat.{◌≤◌}
use mathlib.Core.Path.{◌≡◌}
use lib.ListN.{length}
use Rattle.rules.specs.Table.{size}
use Rattle.expanded_sizes.specs.Growths.{CountedFrom}
use Rattle.expanded_sizes.proofs.expanded_size.Given as goal

abbrev pub invariant-loop-node : goal.invariant-loop-node
invariant-loop-node l =
    (l.node ≤ size l.formula) × (length l.sizes ≡ 1024) × CountedFrom l.regulars l.formula l.node l.sizes
