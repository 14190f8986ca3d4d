-- `step` meets its contract: the vertex on top of the stack is taken off, its pair is settled, and it is closed.
-- Assumes nothing.
use mathlib.Core.Path.{refl}
use native.Mathlib.Omega.{arith}
use Rattle.stepping.proofs.Steps.{step-none, top_below}
use Rattle.stepping.proofs.Pops.{pop_inside, pop_unmarked, pop_full, pop_close, pop_answer, settled_kept}
use Rattle.stepping.proofs.step.Goals as goal

pub returns-then-counters-eq0 : goal.returns-then-counters-eq0
returns-then-counters-eq0 c =
    step-none _ _ _ _ _ _ _ c.requires c.if-counters-eq0.true

pub pop-popped-requires : goal.pop-popped-requires
pop-popped-requires c =
    let g = c.requires in
    record {
      ready = g.ready;
      one_waits = (
        omega (arith, c.if-counters-eq0.false),
        top_below _ _ _ _ _ _ _ g
            c.if-counters-eq0.false _ refl,
      );
    }

pub settle-requires : goal.settle-requires
settle-requires c =
    let good = c.args.tables.now.input.good in
    record {
      inside = pop_inside _ good _ _ _ _ c.requires c.if-counters-eq0.false _ _ c.pop-popped.ensures;
      unmarked = pop_unmarked _ good _ _ _ _ c.requires c.if-counters-eq0.false _ _ c.pop-popped.ensures;
    }

pub close-requires : goal.close-requires
close-requires c =
    pop_close _ c.args.tables.now.input.good _ _ _ _ c.requires c.if-counters-eq0.false _ _ c.pop-popped.ensures _ _
    (settled_kept _ _ _ _ _ _ _ _ c.in_ok-made.ensures)

pub returns-in_err-made : goal.returns-in_err-made
returns-in_err-made c =
    pop_full _ c.args.tables.now.input.good _ _ _ _ c.requires c.if-counters-eq0.false _ _ c.pop-popped.ensures
    _ _ c.from_residual.ensures.0 c.in_err-made.ensures

pub returns : goal.returns
returns c =
    pop_answer _ c.args.tables.now.input.good _ _ _ _ c.requires c.if-counters-eq0.false _ _ c.pop-popped.ensures _ _
    (settled_kept _ _ _ _ _ _ _ _ c.in_ok-made.ensures) c.close.new.work c.close.result c.close.ensures
