-- `step_in_place` meets its contract: it is a step, or one that would be too much. Assumes nothing.
use mathlib.Core.Path.{refl}
use Rattle.stepping.proofs.Walking.{still_none, tried_failed}
use Rattle.stepping.proofs.step_in_place.Goals as goal

pub returns-in_err-next : goal.returns-in_err-next
returns-in_err-next c =
    tried_failed _ _ _ _ _ _ _ _ _ _ c.from_residual.ensures.0 c.requires refl c.in_err-next.ensures

pub returns : goal.returns
returns c = (c.in_ok-next.ensures, still_none _ _ _ _ _ _ _ _ _ c.in_ok-next.ensures)
