use mathlib.Core.Path.{ap, ◌∙◌}
use Prim.Native.Nat.{◌≤◌, ◌<◌}
use native.Mathlib.Omega.{arith}
use lib.ListN.{length}
use Rattle.rules.specs.Game.{vertex_count}
use Rattle.pgsolver_writer.proofs.Texts.{text_short, size_start, size_more, size_done}
use Rattle.pgsolver_writer.proofs.WritableGame.text_length.Goals as goal

pub loop-number-init : goal.loop-number-init
loop-number-init c =
    let begun = size_start c.args.self.game.words.now c.vertices-vertices.result c.digit_count-size.result c.vertices-vertices.ensures.0
    c.digit_count-size.ensures.0 in
    (begun, c.requires)

pub overflow_add-size-in-loop-number : goal.overflow_add-size-in-loop-number
overflow_add-size-in-loop-number c =
    let game = c.args.self.game.words.now in
    let below : c.loop-number.number < vertex_count game = omega (arith, c.vertices-vertices.ensures.0) in
    let line = c.line_length-size.ensures.0 ∙ ap length c.vertex.ensures in
    let more = size_more game c.loop-number.number c.loop-number.size c.line_length-size.result below line
    c.loop-number.invariant.0 in
    omega (arith, more, text_short game c.args.self.writable)

pub loop-number-preserved : goal.loop-number-preserved
loop-number-preserved c =
    let game = c.args.self.game.words.now in
    let below : c.loop-number.number < vertex_count game = omega (arith, c.vertices-vertices.ensures.0) in
    let line = c.line_length-size.ensures.0 ∙ ap length c.vertex.ensures in
    let more = size_more game c.loop-number.number c.loop-number.size c.line_length-size.result below line
    c.loop-number.invariant.0 in
    (more, c.line_length-size.ensures.1)

pub returns-clause-bytes : goal.returns-clause-bytes
returns-clause-bytes c =
    let game = c.args.self.game.words.now in
    let all : vertex_count game ≤ c.loop-number.number = omega (arith, c.vertices-vertices.ensures.0) in
    let right = size_done game c.loop-number.number c.loop-number.size all c.loop-number.invariant.0 in
    let few = text_short game c.args.self.writable in
    (right, omega (arith, right, few))
