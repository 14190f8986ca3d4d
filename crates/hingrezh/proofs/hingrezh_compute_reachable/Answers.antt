-- `hingrezh_compute_reachable` meets its contract: what holds of the answer holds of the one that the lent words say.
-- Assumes nothing.
use Rattle.hingrezh.proofs.Carried.{restriction_carried}
use Rattle.hingrezh.proofs.hingrezh_compute_reachable.Goals as goal

pub returns : goal.returns
returns c =
    let it =
    restriction_carried _ _ _ _ _ _ _ _ c.compute_reachable-result.result c.into.ensures (
      c.compute_reachable-result.ensures.equals,
      (
        c.compute_reachable-result.ensures.coded,
        (c.compute_reachable-result.ensures.restricts, c.compute_reachable-result.ensures.demand1),
      ),
    ) in
    record { coded = it.0; equals = it.1.0; restricts = it.1.1.0; demand1 = it.1.1.1 }
