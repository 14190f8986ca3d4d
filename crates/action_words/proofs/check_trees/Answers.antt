use mathlib.Core.Path.{◌∙◌}
use Rattle.action_words.proofs.Actions.{row_decides}
use Rattle.action_words.proofs.check_trees.Goals as goal

pub returns : goal.returns
returns c =
    c.fault_if.ensures
    ∙ row_decides c.args.labels.now c.args.trees.now.words.now c.args.row.now.words.now c.check_operands.ensures
    c.in_ok-check_operands.was c.requires.1 c.is_finished.ensures c.size.ensures
