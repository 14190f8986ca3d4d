use Prim.Native.Nat.{◌+◌}
use native.Mathlib.Omega.{arith}
use lib.ListN.{set, length-set}
use Rattle.rules.specs.Table.{size}
use Rattle.tables.specs.Ends.{end_of}
use Rattle.tables.proofs.Ends.{end_number_out, set_down}
use Rattle.table_words.specs.Tables.{children_of}
use Rattle.table_words.proofs.trees.tree_ends.Goals as goal

pub loop-node-init : goal.loop-node-init
loop-node-init g c =
    let es = c.args.ends.now in
    let told = c.told-ends in
    let m = c.at-count.result in
    let n = size c.args.ws.now in
    let t = children_of g.K.NodeKind.node_shape c.args.ws.now in
    let out = end_number_out t n in (
      omega arith,
      simp length-set told,
      set_down (end_of t n) (set es (m + 1) (m + 1)) m (n + 1) (m + 1) (simp length-set (omega arith))
          (omega (arith, out m (omega arith)))
          (set_down (end_of t n) es (m + 1) (n + 1) (m + 1) (omega arith) (omega (arith, out (m + 1) (omega arith)))
          (λ j h l. absurd (omega arith))),
    )
