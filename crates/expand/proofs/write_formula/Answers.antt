-- `write_formula` meets its contract: a check refuses, or the tables decide. Assumes nothing.
use mathlib.Core.Path.{sym, ◌∙◌}
use Rattle.regular_rules.specs.Refusals.{regular_input}
use Rattle.expand.proofs.Whole.{refused_before, right_length, good_tables, tables_decide}
use Rattle.expand.proofs.write_formula.Goals as goal

pub returns-in_err-check : goal.returns-in_err-check
returns-in_err-check c =
    let x = regular_input c.args.labels.now c.args.actions.now c.args.regulars.now c.args.formula.now in
    refused_before x c.args.out.now _ _ c.from_residual.ensures.1 (sym c.in_err-check.ensures)

pub write_checked-requires-clause-tables : goal.write_checked-requires-clause-tables
write_checked-requires-clause-tables c =
    let x = regular_input c.args.labels.now c.args.actions.now c.args.regulars.now c.args.formula.now in
    good_tables x c.args.out.now (sym c.in_ok-check.ensures)

pub write_checked-requires-clause-room : goal.write_checked-requires-clause-room
write_checked-requires-clause-room c =
    let x = regular_input c.args.labels.now c.args.actions.now c.args.regulars.now c.args.formula.now in
    right_length x c.args.out.now (sym c.in_ok-check.ensures)

pub returns : goal.returns
returns c =
    let x = regular_input c.args.labels.now c.args.actions.now c.args.regulars.now c.args.formula.now in
    c.write_checked.ensures ∙ tables_decide x c.args.out.now (sym c.in_ok-check.ensures)
