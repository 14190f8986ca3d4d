-- One more target is met.
use mathlib.Core.Path.{refl}
use Rattle.reachability.proofs.Meets.{met_as, met_more}
use Rattle.reachability.proofs.Turns.{meet_step, meet_end}
use Rattle.reachability.proofs.Search.discover_all.Goals as goal

pub loop-target-preserved : goal.loop-target-preserved
loop-target-preserved c = (
  met_more c.loop-target.invariant.0 c.discover.ensures,
  meet_step _ _ _ c.args.targets.now c.loop-target.target-index _ c.loop-target-test.true refl
      c.discover.ensures.known c.loop-target.invariant.1,
)

pub returns : goal.returns
returns c =
    met_as
    (meet_end _ _ c.args.targets.now c.loop-target.target-index c.loop-target-test.false c.loop-target.invariant.1)
    c.loop-target.invariant.0
