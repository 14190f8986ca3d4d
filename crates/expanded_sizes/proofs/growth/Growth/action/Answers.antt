use mathlib.Core.Path.{refl}
use Rattle.regular_rules.specs.Sizes.{offset, factor, capped}
use Rattle.expanded_sizes.proofs.growth.Growth.action.Goals as goal

pub returns : goal.returns
unfolding offset factor capped
returns c = λ a. (refl, refl)
