use mathlib.Core.Path.{sym, ap, ◌∙◌}
use native.Mathlib.Omega.{arith}
use Rattle.std.proofs.Common.{rules}
use Rattle.regular_rules.specs.Sizes.{capped}
use Rattle.regular_rules.proofs.SizesAt.{size_modal}
use Rattle.expanded_sizes.proofs.Parts.{leaf_counted, counted_next, next_few, right_few, two_counted, fixpoint_counted}
use Rattle.expanded_sizes.proofs.node_size.Goals as goal

-- ---- no sum wraps

pub overflow_add-sizes : goal.overflow_add-sizes
overflow_add-sizes c =
    let (good, inside) = c.requires.good in
    omega (arith, next_few _ _ _ good _ inside _ c.requires.later (search rules) (search rules))

pub overflow_add-sizes-in-And : goal.overflow_add-sizes-in-And
overflow_add-sizes-in-And c =
    let (good, inside) = c.requires.good in
    let o = c.operand_at-operand.ensures in
    omega (
      arith,
      next_few _ _ _ good _ inside _ c.requires.later (search rules) (search rules),
      right_few _ _ _ good _ inside _ c.requires.later _ (search rules) (search rules) o,
    )

pub overflow_add-sizes-in-Least : goal.overflow_add-sizes-in-Least
overflow_add-sizes-in-Least c =
    let (good, inside) = c.requires.good in
    omega (arith, next_few _ _ _ good _ inside _ c.requires.later (search rules) (search rules))

pub above-requires : goal.above-requires
above-requires c =
    let (good, inside) = c.requires.good in
    next_few _ _ _ good _ inside _ c.requires.later (search rules) (search rules)

-- ---- by the kind

pub returns-in-True : goal.returns-in-True
returns-in-True c = leaf_counted _ _ _ c.requires.good.0 _ c.requires.good.1 (search rules)

pub returns-in-And : goal.returns-in-And
returns-in-And c =
    let (good, inside) = c.requires.good in
    let o = c.operand_at-operand.ensures in
    c.counted.ensures.value
    ∙ two_counted _ _ _ good _ inside _ c.requires.later _ (search rules) (search rules) o

pub returns-in-Box : goal.returns-in-Box
returns-in-Box c =
    let (good, inside) = c.requires.good in
    c.above.ensures.value _ _ (rw c.operand_at-operand.ensures at c.at.ensures)
    (counted_next _ _ _ good _ inside _ c.requires.later (search rules) (search rules))
    ∙ ap capped (sym (size_modal _ _ _ good _ inside (search rules) (search rules)))

pub returns-in-Least : goal.returns-in-Least
returns-in-Least c =
    let (good, inside) = c.requires.good in
    c.counted-in-Least.ensures.value
    ∙ fixpoint_counted _ _ _ good _ inside _ c.requires.later (search rules) (search rules)
