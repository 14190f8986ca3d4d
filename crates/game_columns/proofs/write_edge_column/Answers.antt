-- The edges of one more vertex stand behind those that were written.
use Prim.Native.Nat.{◌<◌, ◌≤◌}
use lib.ListN.{length}
use native.Mathlib.Omega.{arith}
use Rattle.game_columns.proofs.Written.{edges_room, edges_put, edges_done}
use Rattle.game_columns.proofs.write_edge_column.Goals as goal

pub write_edges-next-requires-clause-room : goal.write_edges-next-requires-clause-room
write_edges-next-requires-clause-room g c =
    let shown = g.V.Vertices.shown c.args.vertices.now in
    let below : c.loop-vertex.vertex < length shown = omega (arith, c.loop-vertex-test.true, c.count-count.ensures) in
    edges_room shown c.args.column c.loop-vertex.vertex below c.requires.1 c.loop-vertex.invariant

pub loop-vertex-preserved : goal.loop-vertex-preserved
loop-vertex-preserved g c =
    let shown = g.V.Vertices.shown c.args.vertices.now in
    let below : c.loop-vertex.vertex < length shown = omega (arith, c.loop-vertex-test.true, c.count-count.ensures) in
    edges_put shown c.args.column c.loop-vertex.vertex below c.write_edges-next.auto.out c.write_edges-next.ensures
    c.loop-vertex.invariant

pub returns : goal.returns
returns g c =
    let shown = g.V.Vertices.shown c.args.vertices.now in
    let past : length shown ≤ c.loop-vertex.vertex = omega (arith, c.loop-vertex-test.false, c.count-count.ensures) in
    edges_done shown c.args.column c.loop-vertex.vertex past c.loop-vertex.invariant
