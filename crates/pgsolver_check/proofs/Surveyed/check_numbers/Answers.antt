-- `check_numbers` meets its contract. Assumes nothing.
use native.Mathlib.Omega.{arith}
use mathlib.Core.Path.{◌∙◌, sym}
use borrow.Author.Tests.{ltb-true, ltb-false}
use Rattle.pgsolver_check.proofs.Checking.{handed_on, found_fault, found_none, unequal, equal}
use Rattle.pgsolver_check.proofs.Checking.{seen_highest, other_count, other_top, numbers}
use Rattle.pgsolver_check.proofs.Surveyed.check_numbers.Goals as goal

pub overflow_add-miscounted : goal.overflow_add-miscounted
overflow_add-miscounted c = omega (arith, seen_highest c.args.self.now.seen (omega arith))

pub returns-in_err-fault_if : goal.returns-in_err-fault_if
returns-in_err-fault_if c =
    let (bad, is) = found_fault 92 c.fault_if.ensures c.in_err-fault_if.was in
    handed_on _ _ c.from_residual.ensures.1 ∙ is ∙ sym (other_count c.args.self.now.seen (omega arith) (unequal _ _ bad))

pub returns-in_err-fault_if-2 : goal.returns-in_err-fault_if-2
returns-in_err-fault_if-2 c =
    let (bad, is) = found_fault 92 c.fault_if-2.ensures c.in_err-fault_if-2.was in
    handed_on _ _ c.from_residual-in_err-fault_if-2.ensures.1 ∙ is
    ∙ sym (other_top c.args.self.now.seen (omega arith) (equal _ _ (found_none 92 c.fault_if.ensures c.in_ok-fault_if.was))
    (ltb-true _ _ bad))

pub are_different-different-requires : goal.are_different-different-requires
are_different-different-requires c = (
  equal _ _ (found_none 92 c.fault_if.ensures c.in_ok-fault_if.was),
  ltb-false _ _ (found_none 92 c.fault_if-2.ensures c.in_ok-fault_if-2.was),
)

pub returns : goal.returns
returns c =
    c.fault_if-3.ensures
    ∙ sym (numbers c.args.self.now.seen (omega arith) (equal _ _ (found_none 92 c.fault_if.ensures c.in_ok-fault_if.was))
    (ltb-false _ _ (found_none 92 c.fault_if-2.ensures c.in_ok-fault_if-2.was)) c.are_different-different.result
    c.are_different-different.ensures)
