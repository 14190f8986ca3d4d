use mathlib.Core.Path.{◌≡◌, sym}
use Prim.Native.Nat.{◌+◌, ◌-◌, ◌≤◌, ◌<◌}
use native.Mathlib.Omega.{arith}
use Rattle.rules.specs.Game.{vertex_count}
use Rattle.rules.specs.Pgsolver.{line_text}
use Rattle.rules.specs.PgsolverWriting.{line_in}
use Rattle.text_writer.specs.Appending.{Room}
use Rattle.text_writer.proofs.Appending.{room_as, appended_as, appended_both, left_as, left_room, left_more, left_done}
use Rattle.pgsolver_writer.proofs.Texts.{lines_from, lines_more, lines_none, text_size, text_stretches}
use Rattle.pgsolver_writer.proofs.WritableGame.put_text.Goals as goal

pub put_header-requires : goal.put_header-requires
put_header-requires c =
    let highest : c.vertices-vertices.result - 1 ≡ vertex_count c.args.self.game.words.now - 1
    = omega (arith, c.vertices-vertices.ensures.0) in
    omega (arith, c.requires.room, text_size c.args.self.game.words.now (c.vertices-vertices.result - 1) highest)

pub put_line-requires-clause-room : goal.put_line-requires-clause-room
put_line-requires-clause-room c =
    let g = c.args.self.game.words.now in
    let n = c.loop-number.number in
    let below : n < vertex_count g = omega (arith, c.vertices-vertices.ensures.0) in
    let highest : c.vertices-vertices.result - 1 ≡ vertex_count g - 1 = omega (arith, c.vertices-vertices.ensures.0) in
    let size = text_size g (c.vertices-vertices.result - 1) highest in
    let header = c.put_header.ensures in
    let lines : Room c.put_header.new.text (lines_from g 0)
    = omega (arith, c.requires.room, size, header.long, header.wrote.past) in
    room_as c.loop-number.text c.vertex.ensures
    (left_room (line_text (line_in g n)) (lines_from g (n + 1)) lines
    (left_as (lines_more g n below) c.loop-number.invariant.0))

pub loop-number-preserved : goal.loop-number-preserved
loop-number-preserved c =
    let g = c.args.self.game.words.now in
    let n = c.loop-number.number in
    let below : n < vertex_count g = omega (arith, c.vertices-vertices.ensures.0) in
    let line = appended_as c.vertex.ensures c.put_line.ensures.wrote in
    (left_more line (left_as (lines_more g n below) c.loop-number.invariant.0), c.put_line.ensures.emptied)

pub returns : goal.returns
returns c =
    let g = c.args.self.game.words.now in
    let n = c.loop-number.number in
    let all : vertex_count g ≤ n = omega (arith, c.vertices-vertices.ensures.0) in
    let highest : c.vertices-vertices.result - 1 ≡ vertex_count g - 1 = omega (arith, c.vertices-vertices.ensures.0) in
    appended_as (sym (text_stretches g (c.vertices-vertices.result - 1) highest))
    (appended_both c.put_header.ensures (left_done (left_as (lines_none g n all) c.loop-number.invariant.0)))
