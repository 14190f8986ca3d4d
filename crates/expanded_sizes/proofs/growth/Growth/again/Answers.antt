use Rattle.expanded_sizes.proofs.growth.Growth.again.Goals as goal
use native.Mathlib.Omega.{arith}
use native.Mathlib.Nat.{mul-one}
use Rattle.regular_rules.specs.Sizes.{offset, factor, capped}
use Rattle.regular_rules.proofs.Counting.{size_affine}

pub returns : goal.returns
unfolding offset factor capped
returns c = λ r g.
    let a = c.above.ensures.value r 1 g (omega arith) in
    let s = size_affine r 1 in
    let m = mul-one (factor r) in
    (omega (arith, c.counted.ensures.value), omega arith)
