-- One more offset stands behind those that were written.
use Prim.Native.Nat.{◌<◌}
use lib.ListN.{length}
use native.Mathlib.Omega.{arith}
use Rattle.game_columns.proofs.Written.{count_most, offsets_put, offsets_done}
use Rattle.game_columns.proofs.write_offsets.Goals as goal

pub overflow_add-edges : goal.overflow_add-edges
overflow_add-edges g c =
    let shown = g.V.Vertices.shown c.args.vertices.now in
    let below : c.loop-vertex.vertex < length shown = omega (arith, c.loop-vertex-test.true, c.count-count.ensures) in
    let most = count_most shown c.loop-vertex.edges c.loop-vertex.vertex _ c.degree-edges.ensures below c.loop-vertex.invariant.0 in
    omega (arith, most, c.requires.few)

pub loop-vertex-preserved : goal.loop-vertex-preserved
loop-vertex-preserved g c =
    let shown = g.V.Vertices.shown c.args.vertices.now in
    let below : c.loop-vertex.vertex < length shown = omega (arith, c.loop-vertex-test.true, c.count-count.ensures) in
    offsets_put shown c.loop-vertex.edges c.loop-vertex.vertex _ c.args.start c.degree-edges.ensures below c.requires.room
    c.loop-vertex.invariant

pub returns : goal.returns
returns g c =
    offsets_done (g.V.Vertices.shown c.args.vertices.now) c.loop-vertex.edges c.loop-vertex.vertex c.args.start
    c.count-count.result c.count-count.ensures (omega arith) c.loop-vertex-test.false c.requires.room
    c.loop-vertex.invariant
