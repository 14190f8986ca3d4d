use Rattle.std.proofs.Common.{arith}
use Rattle.pairs.proofs.Orders.{none_yet, one_more, has_at, ends_at}
use Rattle.pairs.proofs.Slots.probe.Goals as goal

pub loop-slot-init : goal.loop-slot-init
loop-slot-init c = none_yet _ _ _

pub returns-in_default : goal.returns-in_default
returns-in_default c =
    ends_at _ _ _ _ _ c.loop-slot.auto.slot c.loop-slot-test.true (c.in_default.ensures) c.loop-slot.invariant

pub returns-then-key_in-key : goal.returns-then-key_in-key
returns-then-key_in-key c =
    has_at _ _ _ _ _ _ c.loop-slot.auto.slot c.loop-slot-test.true (rw (← c.key_in.ensures) c.if-key_in-key.true) (c.in-Some.ensures)

pub loop-slot-preserved : goal.loop-slot-preserved
loop-slot-preserved c =
    let holds = c.in-Some.ensures in
    one_more _ _ _ _ c.loop-slot.auto.slot (omega (arith, holds)) (λ same. c.if-key_in-key.false (rw c.key_in.ensures same))
    c.loop-slot.invariant
