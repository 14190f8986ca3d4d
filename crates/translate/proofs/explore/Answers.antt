-- `explore` meets its contract: the steps go on from where the walk begins. Assumes nothing.
use native.Mathlib.Omega.{arith}
use Rattle.stepping.proofs.Walking.{exceeding_later, walk_failed}
use Rattle.translate.proofs.explore.Goals as goal

pub returns-in_err-begun : goal.returns-in_err-begun
returns-in_err-begun c =
    walk_failed _ _ _ _ _ _ _ _ c.from_residual.ensures.0
    (exceeding_later _ _ _ _ 0 _ (omega arith) c.in_err-begun.ensures)
