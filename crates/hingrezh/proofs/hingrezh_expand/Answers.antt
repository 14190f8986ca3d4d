-- `hingrezh_expand` meets its contract: what holds of the answer holds of the one that the lent words say. Assumes
-- nothing.
use Rattle.regular_rules.specs.Refusals.{regular_input}
use Rattle.hingrezh.proofs.Carried.{expansion_carried}
use Rattle.hingrezh.proofs.hingrezh_expand.Goals as goal

pub returns : goal.returns
returns c =
    let x = regular_input c.args.labels.now c.args.actions.now c.args.regulars.now c.args.formula.now in
    let it =
    expansion_carried x _ _ _ c.expand-result.result c.into.ensures (
      c.expand-result.ensures.equals,
      (
        c.expand-result.ensures.demand,
        c.expand-result.ensures.means,
      ),
    ) in
    record { coded = it.0; equals = it.1.0; demand = it.1.1.0; means = it.1.1.1 }
