-- One more word stands behind those that were written.
use Prim.Native.Nat.{◌+◌, ◌≤◌}
use mathlib.Core.Path.{◌∙◌}
use lib.ListN.{length}
use native.Mathlib.Omega.{arith}
use Rattle.compiled.specs.Tables.{kinds_in, priorities_in}
use Rattle.game_columns.proofs.Written.{wrote_as}
use Rattle.game_writer.specs.Walks.{word_in}
use Rattle.game_writer.proofs.Rows.{row_room, row_put, row_done}
use Rattle.game_writer.proofs.Whole.{column_shown, shown_length}
use Rattle.game_writer.proofs.WalkedVertices.write_column.Goals as goal

pub bounds-out-start : goal.bounds-out-start
bounds-out-start c =
    let many = shown_length (kinds_in c.args.self.now.compiled.now) (priorities_in c.args.self.now.compiled.now)
    c.args.self.now.slots.work.now c.args.self.now.slots.vertices c.args.self.now.edge_room c.args.self.now.known in
    let room : c.args.start + c.args.self.now.known ≤ length c.args.out.now = omega (arith, c.requires.1, many) in
    row_room (word_in c.args.self.now c.args.column) c.args.self.now.known c.loop-vertex.vertex c.args.start
    c.loop-vertex-test.true room c.loop-vertex.invariant

pub loop-vertex-preserved : goal.loop-vertex-preserved
loop-vertex-preserved c =
    let many = shown_length (kinds_in c.args.self.now.compiled.now) (priorities_in c.args.self.now.compiled.now)
    c.args.self.now.slots.work.now c.args.self.now.slots.vertices c.args.self.now.edge_room c.args.self.now.known in
    let room : c.args.start + c.args.self.now.known ≤ length c.args.out.now = omega (arith, c.requires.1, many) in
    row_put (word_in c.args.self.now c.args.column) c.args.self.now.known c.loop-vertex.vertex c.args.start _
    (c.column_word-shown.ensures ∙ (λ i. word_in (c.at.ensures.0 i) c.args.column (c.at.ensures.1 i).0))
    c.loop-vertex-test.true room c.loop-vertex.invariant

pub returns : goal.returns
returns c =
    wrote_as
    (column_shown (kinds_in c.args.self.now.compiled.now) (priorities_in c.args.self.now.compiled.now)
    c.args.self.now.slots.work.now c.args.self.now.slots.vertices c.args.self.now.edge_room c.args.column
    c.args.self.now.known)
    (row_done (word_in c.args.self.now c.args.column) c.args.self.now.known c.loop-vertex.vertex c.args.start
    (omega arith) c.loop-vertex-test.false c.loop-vertex.invariant)
