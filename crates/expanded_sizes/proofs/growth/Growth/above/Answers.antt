use mathlib.Core.Path.{sym, ap, ◌∙◌}
use Rattle.regular_rules.specs.Sizes.{offset, factor, capped}
use Rattle.regular_rules.proofs.Counting.{size_affine, capped_affine}
use Rattle.expanded_sizes.proofs.growth.Growth.above.Goals as goal

pub returns-clause-value : goal.returns-clause-value
returns-clause-value c = λ r s (o, f) n.
    c.counted.ensures.value ∙ rw (o, f, n) (capped_affine (offset r) (factor r) s) ∙ ap capped (sym (size_affine r s))
