use mathlib.Core.Path.{sym, ◌∙◌}
use Rattle.table_words.proofs.Checks.{table_passed}
use Rattle.action_words.proofs.check_actions.Goals as goal

pub check_row-requires : goal.check_row-requires
check_row-requires c =
    (c.requires, table_passed _ _ _ c.args.actions.now (sym c.check_table.ensures ∙ c.in_ok-check_table.was))
