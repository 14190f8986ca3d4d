use borrow.Author.Rules.{rules}
use borrow.Author.Tests.{tests}
use native.Mathlib.Omega.{arith}
use Rattle.std.proofs.lemmas.Iterator.{YieldsList-from_slice, YieldsList-from_map}
use Rattle.std.proofs.lemmas.Iterator.Consumers.{fits_by_from_yields_list}
use Rattle.labels.specs.Marks.{weight}
use Rattle.labels.proofs.Marks.{weights_below}
use Rattle.labels.proofs.mark_of.Goals as goal

pub sum-sum-requires-clause-fits : goal.sum-sum-requires-clause-fits
sum-sum-requires-clause-fits c =
    let actions = c.args.actions.now in
    fits_by_from_yields_list weight actions c.map.result _
    (YieldsList-from_map _ weight (YieldsList-from_slice actions cc) c.map.ensures.closure (λ x r q k. search (rules, tests)))
    (omega (arith, weights_below actions, c.requires))
