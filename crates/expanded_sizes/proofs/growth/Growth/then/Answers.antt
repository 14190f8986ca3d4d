use mathlib.Core.Path.{ap, ◌∙◌}
use Rattle.regular_rules.specs.Sizes.{offset, factor, capped}
use Rattle.regular_rules.proofs.Counting.{size_affine, capped_product}
use Rattle.expanded_sizes.proofs.growth.Growth.then.Goals as goal

pub returns : goal.returns
unfolding offset factor
returns c = λ r t (o, f) (p, g). (
  c.above.ensures.value r (offset t) (o, f) p ∙ ap capped (size_affine r (offset t)),
  c.counted.ensures.value ∙ rw (f, g) (capped_product (factor r) (factor t)),
)
