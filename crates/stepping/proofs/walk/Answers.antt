use Rattle.stepping.proofs.Walking.{walking_on, walking_many, walking_idle, walk_failed}
use Rattle.stepping.proofs.walk.Goals as goal

pub step_in_place-requires : goal.step_in_place-requires
step_in_place-requires c = c.loop-done.invariant.made.good

pub returns-then-counters-eq0 : goal.returns-then-counters-eq0
returns-then-counters-eq0 c = walking_idle _ _ _ _ _ _ _ _ _ c.loop-done.invariant c.if-counters-eq0.true

pub returns-in_err-step_in_place : goal.returns-in_err-step_in_place
returns-in_err-step_in_place c =
    walk_failed _ _ _ _ _ _ _ _ c.from_residual.ensures.0
    (walking_many _ _ _ _ _ _ _ _ _ c.loop-done.invariant c.loop-done-test.true c.in_err-step_in_place.ensures.2)

pub loop-done-preserved : goal.loop-done-preserved
loop-done-preserved c =
    walking_on _ _ _ _ _ _ _ _ _ c.loop-done.invariant _ _ c.loop-done-test.true c.in_ok-step_in_place.ensures.0
