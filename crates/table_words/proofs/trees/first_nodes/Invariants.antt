use Prim.Native.Nat.{ℕ, ◌+◌, ◌≤◌, ◌-◌}
use mathlib.Core.Path.{◌≡◌}
use lib.ListN.{length}
use Rattle.table_words.specs.Tables.{Ends}
use Rattle.table_words.proofs.Marks.{FirstsTo}
use Rattle.table_words.proofs.trees.first_nodes.Given as goal

abbrev pub invariant-loop-node : goal.invariant-loop-node
invariant-loop-node l =
    (l.node ≤ l.count + 1) × (length l.firsts ≡ 1025)
    × ((c : ℕ → ℕ) → Ends c l.count l.ends → FirstsTo c l.count l.node l.firsts)

abbrev pub decreases-loop-node : goal.decreases-loop-node
decreases-loop-node l = l.count + 1 - l.node
