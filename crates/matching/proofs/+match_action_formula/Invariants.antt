-- The measure is the number of nodes less the node.
use Prim.Native.Nat.{◌-◌}
use Rattle.rules.specs.Table.{size}
use Rattle.matching.proofs.+match_action_formula.Given as goal

abbrev pub decreases-match_action_formula : goal.decreases-match_action_formula
decreases-match_action_formula l = size l.actions.now - l.node
