use Rattle.std.proofs.Common.{rules}
use Rattle.alike_nodes.proofs.FormulaShapes.{body_fixpoint}
use Rattle.alike_nodes.proofs.FormulaNodes.shape_in_body.Goals as goal

pub returns-in-Least : goal.returns-in-Least
returns-in-Least c =
    body_fixpoint c.args.self.now c.args.numbers.now c.args.node c.requires.inside.0 c.of-kind.result c.new-in-Least.result (search rules)
    (search rules) (search rules) c.new-in-Least.ensures
