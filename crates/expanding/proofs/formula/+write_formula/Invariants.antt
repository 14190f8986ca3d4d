-- The measure is the number of nodes from a node on.
use Prim.Native.Nat.{◌-◌}
use Rattle.rules.specs.Table.{size}
use Rattle.expanding.proofs.formula.+write_formula.Given as goal

abbrev pub decreases-write_formula : goal.decreases-write_formula
decreases-write_formula l = size l.formula.now - l.node
