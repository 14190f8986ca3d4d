use native.Mathlib.Omega.{arith}
use Rattle.lists.proofs.Members.{in_at}
use Rattle.settling.proofs.Make.{answer_failed}
use Rattle.settling.proofs.Operands.{settling_start, settling_on, settling_many, settling_end}
use Rattle.settling.proofs.settle_operands.Goals as goal

pub loop-item-init : goal.loop-item-init
loop-item-init c = settling_start _ _ _ _ _ _ c.requires.ready

pub number_target-requires : goal.number_target-requires
number_target-requires c =
    (c.loop-item.invariant.made.ready, c.requires.fitting _ (in_at c.args.items.now c.loop-item.item-index 0 c.loop-item-test.true))

pub returns-in_err-so_far : goal.returns-in_err-so_far
returns-in_err-so_far c =
    answer_failed _ _ _ _ _ _ _ _ c.from_residual.ensures.0
    (settling_many _ _ _ _ _ _ _ c.loop-item.work _ _ c.loop-item.invariant c.loop-item-test.true
    c.in_err-so_far.ensures)

pub loop-item-preserved : goal.loop-item-preserved
loop-item-preserved c =
    settling_on _ _ _ _ _ _ _ _ _ _ c.loop-item.invariant c.loop-item-test.true _ c.number_target.auto.work
    c.in_ok-so_far.ensures

pub returns : goal.returns
returns c =
    settling_end _ _ _ _ _ _ _ _ _ c.loop-item.invariant
    (omega (arith, c.loop-item-test.false, c.loop-item.auto.item-index-end))
