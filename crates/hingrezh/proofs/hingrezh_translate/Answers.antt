-- `hingrezh_translate` meets its contract: what holds of the answer holds of the one that the lent words say. Assumes
-- nothing.
use Rattle.hingrezh.proofs.Carried.{run_carried}
use Rattle.hingrezh.proofs.hingrezh_translate.Goals as goal

pub returns : goal.returns
returns c =
    let it =
    run_carried _ _ _ _ _ _ _ _ _ c.into.ensures (
      c.translate-result.ensures.equals,
      (
        c.translate-result.ensures.coded,
        (
          c.translate-result.ensures.demand1,
          (
            c.translate-result.ensures.demand3,
            c.translate-result.ensures.no_false_pass,
          ),
        ),
      ),
    ) in
    record { coded = it.0; equals = it.1.0; demand1 = it.1.1.0; demand3 = it.1.1.1.0; no_false_pass = it.1.1.1.1 }
