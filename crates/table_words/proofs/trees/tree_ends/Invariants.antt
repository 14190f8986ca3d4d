use Prim.Native.Nat.{ℕ, ◌+◌, ◌≤◌}
use mathlib.Core.Path.{◌≡◌}
use lib.ListN.{length, get_or}
use Rattle.rules.specs.Table.{size}
use Rattle.tables.specs.Ends.{end_of}
use Rattle.table_words.specs.Tables.{children_of}
use Rattle.table_words.proofs.trees.tree_ends.Given as goal

abbrev pub invariant-loop-node : goal.invariant-loop-node
invariant-loop-node g l =
    (l.node ≤ size l.ws) × (length l.ends ≡ 1026)
    × ((j : ℕ) → l.node ≤ j → j ≤ size l.ws + 1
    → get_or l.ends j 0 ≡ end_of (children_of g.K.NodeKind.node_shape l.ws) (size l.ws) j)
