-- `write_checked` meets its contract: 62 refuses, or the formula is written. Assumes nothing.
use native.Mathlib.Omega.{arith}
use mathlib.Core.Path.{sym}
use Rattle.expand.proofs.Whole.{tables_refused, counted_all, tables_written}
use Rattle.expand.proofs.write_checked.Goals as goal

pub returns-in_err-fault_if : goal.returns-in_err-fault_if
returns-in_err-fault_if c =
    tables_refused c.args.regulars.now c.args.formula.now c.args.out.now c.expanded_size-nodes.result c.expanded_size-nodes.ensures
    c.from_residual.result _ c.from_residual.ensures.1 (sym c.in_err-fault_if.ensures)

pub write_expanded-requires-clause-size : goal.write_expanded-requires-clause-size
write_expanded-requires-clause-size c =
    counted_all c.args.regulars.now c.args.formula.now c.args.out.now _ c.expanded_size-nodes.ensures (sym c.in_ok-fault_if.ensures)

pub overflow_mul-result : goal.overflow_mul-result
overflow_mul-result c =
    let counted = counted_all c.args.regulars.now c.args.formula.now c.args.out.now _ c.expanded_size-nodes.ensures (sym c.in_ok-fault_if.ensures) in
    omega (arith, counted.1)

pub overflow_add-result : goal.overflow_add-result
overflow_add-result c =
    let counted = counted_all c.args.regulars.now c.args.formula.now c.args.out.now _ c.expanded_size-nodes.ensures (sym c.in_ok-fault_if.ensures) in
    omega (arith, counted.1)

pub overflow_cast-result : goal.overflow_cast-result
overflow_cast-result c =
    let counted = counted_all c.args.regulars.now c.args.formula.now c.args.out.now _ c.expanded_size-nodes.ensures (sym c.in_ok-fault_if.ensures) in
    omega (arith, counted.1)

pub returns : goal.returns
returns c =
    tables_written c.args.regulars.now c.args.formula.now c.args.out.now _ c.expanded_size-nodes.ensures (sym c.in_ok-fault_if.ensures)
    _ c.requires.room c.write_expanded.ensures
