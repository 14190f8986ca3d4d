use native.Mathlib.Omega.{arith}
use mathlib.Core.Path.{sym, ◌∙◌}
use Rattle.tables.proofs.Faults.{from_stop, from_next, from_done}
use Rattle.faults.proofs.first_fault.Goals as goal

pub returns-then-bad : goal.returns-then-bad
returns-then-bad g c = λ test agrees.
    let p = c.loop-place.place in
    sym (c.loop-place.invariant test agrees
    ∙ from_stop _ _ _ test (omega arith) (sym (agrees p _ (omega arith) (omega arith) c.bad.ensures) ∙ c.if-bad.true))

pub loop-place-preserved : goal.loop-place-preserved
loop-place-preserved g c = λ test agrees.
    let p = c.loop-place.place in
    c.loop-place.invariant test agrees
    ∙ from_next _ _ _ test (sym (agrees p _ (omega arith) (omega arith) c.bad.ensures) ∙ c.if-bad.false)

pub returns : goal.returns
returns g c = λ test agrees. sym (c.loop-place.invariant test agrees ∙ from_done _ _ _ test (omega arith))
