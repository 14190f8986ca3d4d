use native.Mathlib.Omega.{arith}
use Rattle.settling.proofs.Meetings.{met_old, met_new, met_room}
use Rattle.settling.proofs.meet.Goals as goal

pub returns-then-known-before : goal.returns-then-known-before
returns-then-known-before c =
    met_old _ _ _ _ c.args.counters _ c.number.ensures _ _ c.in_ok-vertex.was c.if-known-before.true

pub put_word-requires : goal.put_word-requires
put_word-requires c =
    let room = met_room _ _ _ _ c.args.counters _ c.number.ensures _ _ c.in_ok-vertex.was c.if-known-before.false in
    omega (arith, c.requires.0.whole, c.number.auto.work, c.requires.0.stack, room)

pub returns : goal.returns
returns c =
    let room = met_room _ _ _ _ c.args.counters _ c.number.ensures _ _ c.in_ok-vertex.was c.if-known-before.false in
    met_new _ _ _ _ c.args.counters _ c.number.ensures _ _ c.in_ok-vertex.was _ c.if-known-before.false
    (omega (arith, c.requires.0.stack, room)) (omega (arith, c.requires.0.whole, c.number.auto.work))
    c.put_word.ensures
