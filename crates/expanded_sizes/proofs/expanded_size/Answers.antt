use native.Mathlib.Omega.{arith}
use Rattle.writing.specs.FormulaReading.{formula_syntax}
use Rattle.regular_rules.specs.Refusals.{expanded_size}
use Rattle.regular_rules.specs.Sizes.{size_at}
use Rattle.expanded_sizes.proofs.expanded_size.Goals as goal

pub returns : goal.returns
unfolding expanded_size formula_syntax size_at
returns c =
    let some = c.requires.1.some in
    c.loop-node.invariant.2 0 (omega arith) (omega arith)
