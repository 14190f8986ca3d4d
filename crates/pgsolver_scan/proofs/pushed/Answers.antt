-- `pushed` meets its contract. Assumes nothing.
use Rattle.pgsolver_scan.proofs.Scanning.{push_saturated, push_exact, is_known, value_small}
use Rattle.pgsolver_scan.proofs.pushed.Goals as goal
use Rattle.pgsolver_scan.proofs.pushed.Goals.{else-not-this-via-then-not-this+else-value}
use Rattle.pgsolver_scan.proofs.pushed.Goals.{else-not-this-via-else-not-this}

pub returns-then-value : goal.returns-then-value
returns-then-value g c =
    push_saturated c.args.value c.args.digit c.if-value.true

pub returns : goal.returns
returns g c =
    push_exact c.args.value c.args.digit c.requires.0
    (elim c.else-not-this.branch [
      | else-not-this-via-then-not-this+else-value w ↦ w.if-value.false
      | else-not-this-via-else-not-this w ↦ value_small _ c.args.value c.requires.1 (is_known _ w.if-not-this.false)
    ])
