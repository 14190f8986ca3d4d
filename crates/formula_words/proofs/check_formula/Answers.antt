use mathlib.Core.Path.{sym, ◌∙◌}
use Rattle.table_words.proofs.Checks.{table_passed}
use Rattle.formula_words.proofs.check_formula.Goals as goal

pub check_trees-requires : goal.check_trees-requires
check_trees-requires g c =
    (c.requires, table_passed _ _ _ c.args.formula.now (sym c.check_table.ensures ∙ c.in_ok-check_table.was))
