use native.Mathlib.Omega.{arith}
use Rattle.regular_rules.specs.Sizes.{offset, factor, capped}
use Rattle.expanded_sizes.proofs.growth.Growth.or.Goals as goal

pub returns : goal.returns
unfolding offset factor capped
returns c = λ r t g h. (omega (arith, c.counted.ensures.value), omega (arith, c.counted-2.ensures.value))
