-- `hingrezh_write_pgsolver` meets its contract: what holds of the answer holds of the one that the lent words say.
-- Assumes nothing.
use Rattle.hingrezh.proofs.Carried.{writing_carried}
use Rattle.hingrezh.proofs.hingrezh_write_pgsolver.Goals as goal

pub returns : goal.returns
returns c =
    let it =
    writing_carried _ _ _ _ c.write_pgsolver-result.result c.into.ensures (
      c.write_pgsolver-result.ensures.equals,
      (
        c.write_pgsolver-result.ensures.coded,
        c.write_pgsolver-result.ensures.demand,
      ),
    ) in
    record { coded = it.0; equals = it.1.0; demand = it.1.1 }
