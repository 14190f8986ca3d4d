use native.Mathlib.Omega.{arith}
use mathlib.Core.Path.{sym, ◌∙◌}
use Rattle.label_words.proofs.Labels.{labels_passed}
use Rattle.inputs.proofs.check_words.Goals as goal

pub check_system-requires : goal.check_system-requires
check_system-requires c =
    omega (arith, labels_passed c.args.labels.now (sym c.check_labels.ensures ∙ c.in_ok-check_labels.was))

pub check_formulas-requires : goal.check_formulas-requires
check_formulas-requires c =
    omega (arith, labels_passed c.args.labels.now (sym c.check_labels.ensures ∙ c.in_ok-check_labels.was))
