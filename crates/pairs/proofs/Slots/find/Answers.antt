use Rattle.std.proofs.Common.{rules}
use Rattle.pairs.proofs.Orders.{probed_both}
use Rattle.pairs.proofs.Search.{found}
use Rattle.pairs.proofs.Slots.find.Goals as goal

pub returns : goal.returns
returns c = λ known table.
    found _ _ _ _ table _
    (probed_both _ _ _ _ _ _ c.probe_buckets.ensures (λ post. search rules) c.or_else.ensures)
