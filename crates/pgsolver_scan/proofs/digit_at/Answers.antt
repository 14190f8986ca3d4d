-- `digit_at` meets its contract. Assumes nothing.
use Rattle.pgsolver_scan.proofs.Scanning.{digit_told, is_known}
use Rattle.pgsolver_scan.proofs.digit_at.Goals as goal
use Rattle.pgsolver_scan.proofs.digit_at.Goals.{else-not-this-via-then-not-this+else-text-place}
use Rattle.pgsolver_scan.proofs.digit_at.Goals.{else-not-this-via-else-not-this}

pub returns : goal.returns
returns g c =
    digit_told c.args.text.now c.args.place c.digit_of.result
    (elim c.else-not-this.branch [
      | else-not-this-via-then-not-this+else-text-place w ↦ w.if-text-place.false
      | else-not-this-via-else-not-this w ↦ c.requires (is_known _ w.if-not-this.false)
    ])
    c.digit_of.ensures
