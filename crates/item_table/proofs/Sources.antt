-- What a source says of its input: there are few equations. Assumes nothing.
use Prim.Native.Nat.{◌≤◌}
use Rattle.rules.specs.Table.{size}
use Rattle.rules.specs.Formula.{equation_count}
use Rattle.trees.proofs.Equations.{count_limit}
use Rattle.item_table.specs.declared.Source.{Source}

pub source_few : (s : Source) → equation_count s.input.formula.now ≤ 1_024
source_few s = count_limit (size s.input.actions.now) s.input.formula.now s.input.good.formula
