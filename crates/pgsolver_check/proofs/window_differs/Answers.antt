-- `window_differs` meets its contract. Assumes nothing.
use native.Mathlib.Omega.{arith}
use Rattle.pgsolver_check.proofs.Walking.{walk_unnumbered, walk_number, walk_later}
use Rattle.pgsolver_check.proofs.Windowing.{window_start, window_twice, window_on, window_done}
use Rattle.pgsolver_check.proofs.window_differs.Goals as goal

pub loop-place-init : goal.loop-place-init
loop-place-init c = window_start c.args.base c.requires.0 c.clear.ensures

pub returns-in_default-clause-not_distinct : goal.returns-in_default-clause-not_distinct
returns-in_default-clause-not_distinct c =
    absurd (walk_unnumbered c.requires.0 c.loop-place.invariant.walk c.loop-place-test.true c.in_default.ensures)

pub returns-then-seen_before-clause-not_distinct : goal.returns-then-seen_before-clause-not_distinct
returns-then-seen_before-clause-not_distinct c = λ e.
    window_twice c.requires.0 c.loop-place.invariant c.loop-place-test.true c.in-Some.number.value
    (walk_number c.requires.0 c.loop-place.invariant.walk c.loop-place-test.true c.in-Some.number
    c.in-Some.ensures).0
    (c.seen_before.ensures.again c.if-seen_before.true)

pub loop-place-smaller : goal.loop-place-smaller
loop-place-smaller c =
    omega (
      arith,
      c.loop-place-test.true,
      walk_later c.requires.0 c.loop-place.invariant.walk c.loop-place-test.true,
      c.past_line-place.ensures,
    )

pub loop-place-preserved : goal.loop-place-preserved
loop-place-preserved c =
    window_on c.requires.0 c.loop-place.invariant c.loop-place-test.true c.in-Some.number.value
    (walk_number c.requires.0 c.loop-place.invariant.walk c.loop-place-test.true c.in-Some.number
    c.in-Some.ensures).0
    c.past_line-place.ensures (c.seen_before.ensures.noted c.if-seen_before.false)

pub returns-clause-apart : goal.returns-clause-apart
returns-clause-apart c = λ e. window_done c.loop-place.invariant c.loop-place-test.false
