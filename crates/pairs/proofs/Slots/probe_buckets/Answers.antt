use Rattle.std.proofs.Common.{arith}
use Rattle.std.specs.declared.option.Option.TheVariants.{Some, None}
use Rattle.pairs.proofs.Multiples.{slot_below}
use Rattle.pairs.proofs.Orders.{found_in_bucket, past_bucket, no_bucket_left}
use Rattle.pairs.proofs.Slots.probe_buckets.Goals as goal

pub overflow_add-start : goal.overflow_add-start
overflow_add-start c =
    let size = c.slot_count-slots.ensures in
    let below = slot_below c.loop-done.origin c.slot_count-slots.result (omega (arith, size, c.requires.0)) in
    omega (arith, below, size, c.slot_of-start.ensures, c.requires.1)

pub probe-requires : goal.probe-requires
probe-requires c =
    let size = c.slot_count-slots.ensures in
    let below = slot_below c.loop-done.origin c.slot_count-slots.result (omega (arith, size, c.requires.0)) in
    (omega (arith, below, c.slot_of-start.ensures, c.min-end.ensures), omega (arith, size, c.min-end.ensures))

pub returns-in-Some : goal.returns-in-Some
returns-in-Some c =
    let size = c.slot_count-slots.ensures in
    c.loop-done.invariant (Some c.in-Some.place)
    (found_in_bucket _ _ _ _ _ _ _ _ c.loop-done-test.true (rw size at c.slot_of-start.ensures) (rw size at c.min-end.ensures)
    c.in-Some.ensures)

pub loop-done-preserved : goal.loop-done-preserved
loop-done-preserved c = λ r left.
    let size = c.slot_count-slots.ensures in
    c.loop-done.invariant r
    (past_bucket _ _ _ _ _ _ _ _ _ c.loop-done-test.true (rw size at c.slot_of-start.ensures) (rw size at c.min-end.ensures)
    c.wrapping_mul32-origin.ensures c.in_default.ensures left)

pub returns : goal.returns
returns c = c.loop-done.invariant None (no_bucket_left _ _ _ _ _ c.loop-done-test.false)
