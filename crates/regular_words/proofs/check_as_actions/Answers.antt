use mathlib.Core.Path.{sym, ◌∙◌}
use Rattle.table_words.proofs.Checks.{table_passed}
use Rattle.regular_words.proofs.check_as_actions.Goals as goal

pub check_trees-requires : goal.check_trees-requires
check_trees-requires c =
    (c.requires, table_passed _ _ _ c.args.regulars.now (sym c.check_table.ensures ∙ c.in_ok-check_table.was))
