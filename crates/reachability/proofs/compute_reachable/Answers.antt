-- What equals the restriction restricts, and is refused as demanded.
use Rattle.std.proofs.Common.{rules}
use Rattle.restrictions.proofs.Refusals.{restriction_demand1}
use Rattle.reachability.proofs.Whole.{read_back}
use Rattle.reachability.proofs.compute_reachable.Goals as goal

pub returns-clause-restricts : goal.returns-clause-restricts
returns-clause-restricts c =
    read_back _ c.args.out.now c.args.map.now c.args.work.now _ _ _ c.restrict_lent.new.work (search rules)

pub returns-clause-demand1 : goal.returns-clause-demand1
returns-clause-demand1 c = restriction_demand1 _ _ _ _ _ _ _ _ (search rules)
