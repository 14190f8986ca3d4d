use mathlib.Core.Path.{sym, ◌∙◌}
use Rattle.action_words.proofs.Actions.{actions_passed}
use Rattle.inputs.proofs.check_formulas.Goals as goal

pub check_formula-requires : goal.check_formula-requires
check_formula-requires c =
    actions_passed c.args.actions.now c.args.labels.now (sym c.check_actions.ensures ∙ c.in_ok-check_actions.was)
