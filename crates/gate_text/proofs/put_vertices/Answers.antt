use native.Mathlib.Omega.{arith}
use Prim.Native.Nat.{◌+◌, ◌-◌, ◌<◌, ◌≤◌}
use Rattle.rules.specs.Game.{vertex_count}
use Rattle.rules.specs.Program.{vertex_line, vertex_lines}
use Rattle.text_writer.proofs.Appending.{left_as, left_room, left_more, left_done}
use Rattle.gate_text.proofs.Lines.{lines_more, lines_none}
use Rattle.gate_text.proofs.put_vertices.Goals as goal

pub put_vertex-requires-clause-room : goal.put_vertex-requires-clause-room
put_vertex-requires-clause-room c =
    let g = c.args.game.now.words.now in
    let v = c.loop-vertex.vertex in
    let h : v < vertex_count g = omega (arith, c.vertices-vertex-end.ensures.0) in
    left_room (vertex_line g v) (vertex_lines g (v + 1) (vertex_count g - (v + 1))) c.requires
    (left_as (lines_more g v (vertex_count g) h) c.loop-vertex.invariant)

pub loop-vertex-preserved : goal.loop-vertex-preserved
loop-vertex-preserved c =
    let g = c.args.game.now.words.now in
    let v = c.loop-vertex.vertex in
    let h : v < vertex_count g = omega (arith, c.vertices-vertex-end.ensures.0) in
    left_more c.put_vertex.ensures (left_as (lines_more g v (vertex_count g) h) c.loop-vertex.invariant)

pub returns : goal.returns
returns c =
    let g = c.args.game.now.words.now in
    let v = c.loop-vertex.vertex in
    let h : vertex_count g ≤ v = omega (arith, c.vertices-vertex-end.ensures.0) in
    left_done (left_as (lines_none g v (vertex_count g) h) c.loop-vertex.invariant)
