-- The call is refused, or what is left is the restriction.
use mathlib.Core.Path.{sym, ◌∙◌}
use Rattle.restrictions.proofs.Restriction.{restriction_passed, restriction_refused}
use Rattle.faults.proofs.Handed.{handed_on}
use Rattle.reachability.proofs.restrict_lent.Goals as goal

pub returns-in_err-check_lent : goal.returns-in_err-check_lent
returns-in_err-check_lent c =
    rw (handed_on _ _ c.from_residual.ensures.1)
    (sym (restriction_refused _ _ _ _ _ _ (sym c.in_err-check_lent.ensures)))

pub returns : goal.returns
returns c = c.restrict.ensures ∙ sym (restriction_passed _ _ _ _ (sym c.in_ok-check_lent.ensures))
