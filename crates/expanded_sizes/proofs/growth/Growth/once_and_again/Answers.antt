use mathlib.Core.Path.{ap, ◌∙◌}
use native.Mathlib.Nat.{mul-one}
use Rattle.regular_rules.specs.Regular.{star}
use Rattle.regular_rules.specs.Sizes.{offset, factor, capped}
use Rattle.expanded_sizes.proofs.growth.Growth.once_and_again.Goals as goal

pub returns : goal.returns
unfolding offset factor
returns c = λ r g.
    let whole = c.then.ensures r (star r) g (c.again.ensures r g) in
    (whole.0, whole.1 ∙ ap capped (mul-one (factor r)))
