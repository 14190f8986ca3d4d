-- The words are refused, or their game is built. Assumes nothing.
use mathlib.Core.Path.{sym}
use Rattle.rules.specs.Depth.{by_depth}
use Rattle.faults.proofs.Handed.{handed_on}
use Rattle.translate.proofs.Outcomes.{refused_run}
use Rattle.translate.proofs.run_lent.Goals as goal

pub returns-in_err-input : goal.returns-in_err-input
returns-in_err-input c =
    rw (handed_on _ _ c.from_residual.ensures.1)
    (refused_run by_depth _ _ _ _ _ _ _ (sym c.in_err-input.ensures.checked))
