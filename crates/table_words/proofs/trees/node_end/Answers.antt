use Prim.Native.Nat.{◌+◌}
use native.Mathlib.Omega.{arith}
use mathlib.Core.Path.{sym, ◌∙◌, ap}
use Rattle.rules.specs.Table.{size}
use Rattle.tables.specs.Ends.{end_of}
use Rattle.tables.proofs.Ends.{end_number_leaf, end_number_one, end_number_two, end_number_most, end_number_past}
use Rattle.table_words.specs.Tables.{children_of}
use Rattle.table_words.proofs.Shaped.{has_children}
use Rattle.table_words.proofs.trees.node_end.Goals as goal

pub bounds-ends-ends : goal.bounds-ends-ends
bounds-ends-ends g c =
    let k = c.requires.by_index (c.args.node + 1) (omega arith) (omega arith) in
    omega (arith, end_number_most (children_of g.K.NodeKind.node_shape c.args.ws.now) (size c.args.ws.now) (c.args.node + 1))

pub offset_bounds-ends-ends : goal.offset_bounds-ends-ends
offset_bounds-ends-ends g c = omega (arith, bounds-ends-ends g c)

pub returns-in-Leaf : goal.returns-in-Leaf
returns-in-Leaf g c =
    sym (end_number_leaf _ _ _ c.requires.sized.1 (has_children g.K.NodeKind.node_shape c.args.ws.now c.args.node _ c.shape_at.ensures c.in-Leaf.is))

pub returns-in-Single : goal.returns-in-Single
returns-in-Single g c =
    c.requires.by_index (c.args.node + 1) (omega arith) (omega arith)
    ∙ sym (end_number_one _ _ _ c.requires.sized.1 (has_children g.K.NodeKind.node_shape c.args.ws.now c.args.node _ c.shape_at.ensures c.in-Single.is))

pub returns-in-Pair : goal.returns-in-Pair
returns-in-Pair g c =
    let t = children_of g.K.NodeKind.node_shape c.args.ws.now in
    let n = size c.args.ws.now in
    let k = c.requires.by_index (c.args.node + 1) (omega arith) (omega arith) in
    let most = end_number_most t n (c.args.node + 1) in
    let past = end_number_past t n (c.args.node + 1) (omega arith) in
    c.requires.by_index _ (omega arith) (omega arith) ∙ ap (end_of t n) k
    ∙ sym (end_number_two t n _ c.requires.sized.1 (has_children g.K.NodeKind.node_shape c.args.ws.now c.args.node _ c.shape_at.ensures c.in-Pair.is))
