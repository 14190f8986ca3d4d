use borrow.Author.Rules.{rules}
use borrow.Author.Tests.{tests}
use mathlib.Core.Path.{◌≡◌, ◌∙◌}
use lib.Dec.{eqb}
use Rattle.std.specs.List.{sum_by}
use Rattle.rules.specs.Lists.{one}
use Rattle.labels.proofs.Listed.{occurs_summed}
use Rattle.labels.proofs.times_among.Goals as goal

pub returns : goal.returns
returns c =
    let e : c.sum.result ≡ sum_by (λ x. one (eqb x c.args.one)) c.args.words.now = search (rules, tests) in
    e ∙ occurs_summed c.args.one c.args.words.now
