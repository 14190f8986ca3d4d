use borrow.Author.Rules.{rules}
use mathlib.Core.Path.{◌≡◌, ◌∙◌}
use Rattle.std.specs.List.{sum_by}
use Rattle.words.proofs.Sums.{sum_summed}
use Rattle.words.proofs.sum.Goals as goal

pub returns : goal.returns
returns c =
    let e : c.sum.result ≡ sum_by (λ x. x) c.args.ws.now = search rules in
    e ∙ sum_summed c.args.ws.now
