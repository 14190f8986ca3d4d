-- `count_list` meets its contract. Assumes nothing.
use native.Mathlib.Omega.{arith}
use Rattle.pgsolver_check.proofs.Counting.{counting_start, counting_more, counting_few, counting_done, counting_only}
use Rattle.pgsolver_check.proofs.count_list.Goals as goal

pub loop-successor-init : goal.loop-successor-init
loop-successor-init c = counting_start (rw c.into_iter-successor-iterator.ensures.into_iter_gives c.new-successor-items.ensures) c.requires.1

pub overflow_add-count : goal.overflow_add-count
overflow_add-count c = omega (arith, c.from-count.ensures, counting_few c.loop-successor.invariant c.meet.result c.in-Some.ensures.steps)

pub loop-successor-preserved : goal.loop-successor-preserved
loop-successor-preserved c =
    rw c.from-count.ensures
    (counting_more c.loop-successor.invariant c.in-Some.ensures.steps c.meet.ensures.0 c.meet.ensures.1)

pub empty_list-requires : goal.empty_list-requires
empty_list-requires c =
    let at = c.in-None.ensures.steps.0 in
    (c.requires.0, counting_only c.loop-successor.invariant at, omega (arith, c.loop-successor.invariant.gone.further))

pub returns-clause-counted : goal.returns-clause-counted
returns-clause-counted c = counting_done c.loop-successor.invariant c.in-None.ensures.steps.0

pub returns-clause-same_line : goal.returns-clause-same_line
returns-clause-same_line c = c.loop-successor.invariant.gone.line
