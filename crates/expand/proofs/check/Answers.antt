use native.Mathlib.Omega.{arith}
use mathlib.Core.Path.{sym, ◌∙◌}
use Rattle.label_words.proofs.Labels.{labels_passed}
use Rattle.action_words.proofs.Actions.{actions_passed}
use Rattle.regular_rules.proofs.Theorems.{passed_regulars}
use Rattle.expand.proofs.check.Goals as goal

pub check_actions-requires : goal.check_actions-requires
check_actions-requires c =
    omega (arith, labels_passed c.args.labels.now (sym c.check_labels.ensures ∙ c.in_ok-check_labels.was))

pub check_regulars-requires : goal.check_regulars-requires
check_regulars-requires c =
    actions_passed c.args.actions.now c.args.labels.now (sym c.check_actions.ensures ∙ c.in_ok-check_actions.was)

pub check_formula-requires : goal.check_formula-requires
check_formula-requires c =
    let good = passed_regulars c.args.actions.now c.args.regulars.now (sym c.check_regulars.ensures ∙ c.in_ok-check_regulars.was) in
    (good.few, good.sized)
