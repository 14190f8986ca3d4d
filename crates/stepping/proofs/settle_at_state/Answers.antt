-- `settle_at_state` meets its contract: there are no operands, or as many of the two are met as the kind has. Assumes
-- nothing.
use mathlib.Core.Path.{sym, ◌∙◌, subst}
use borrow.Author.Tests.{ltb-true, ltb-false}
use Rattle.rules.specs.Lists.{zeros}
use Rattle.settling.specs.Made.{AllFit}
use Rattle.settling.proofs.Make.{made_none}
use Rattle.stepping.proofs.Operands.{operands_none, operands_read}
use Rattle.stepping.proofs.settle_at_state.Goals as goal

pub returns-then-is_constant : goal.returns-then-is_constant
unfolding zeros
returns-then-is_constant c =
    let none = ltb-true _ 2 (sym c.is_constant.ensures ∙ c.if-is_constant.true) in
    rw (operands_none _ _ _ none) (made_none _ _ _ _ c.requires.ready)

pub settle_operands-requires-clause-fitting : goal.settle_operands-requires-clause-fitting
settle_operands-requires-clause-fitting c =
    let o = c.operand_count.ensures in
    subst (AllFit _)
    (operands_read _ c.args.item.left c.args.item.right _ o.0 o.1 (ltb-false _ 2 (sym c.is_constant.ensures ∙ c.if-is_constant.false)))
    c.requires.all_fit

pub returns : goal.returns
returns c =
    let o = c.operand_count.ensures in
    let read = operands_read _ c.args.item.left c.args.item.right _ o.0 o.1
    (ltb-false _ 2 (sym c.is_constant.ensures ∙ c.if-is_constant.false)) in
    rw read c.settle_operands.ensures
