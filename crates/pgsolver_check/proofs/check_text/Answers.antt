-- `check_text` meets its contract. Assumes nothing.
use native.Mathlib.Omega.{arith}
use mathlib.Core.Path.{sym, ◌∙◌}
use Rattle.pgsolver_check.proofs.Checking.{handed_on, surveyed_found, refused91, refused92, refused93, planned}
use Rattle.rules.specs.Words.{room_of}
use Rattle.pgsolver_check.proofs.check_text.Goals as goal

pub returns-in_err-found : goal.returns-in_err-found
returns-in_err-found c =
    rw (handed_on _ _ c.from_residual.ensures.1)
    (refused91 c.args.text.now (room_of c.args.vertices c.args.edges) _ c.survey_text.ensures c.ok_or.ensures.value c.in_err-found.was)

pub invariant_of-surveyed : goal.invariant_of-surveyed
invariant_of-surveyed c =
    record { seen = surveyed_found _ c.survey_text.ensures c.ok_or.ensures.value c.in_ok-found.was }

pub returns-in_err-check_numbers : goal.returns-in_err-check_numbers
returns-in_err-check_numbers c =
    rw (handed_on _ _ c.from_residual-in_err-check_numbers.ensures.1)
    (refused92 (room_of c.args.vertices c.args.edges) (surveyed_found _ c.survey_text.ensures c.ok_or.ensures.value c.in_ok-found.was)
    (sym c.in_err-check_numbers.was ∙ c.check_numbers.ensures))

pub check_fit-requires-clause-right : goal.check_fit-requires-clause-right
check_fit-requires-clause-right c = sym c.check_numbers.ensures ∙ c.in_ok-check_numbers.was

pub returns-in_err-check_fit : goal.returns-in_err-check_fit
returns-in_err-check_fit c =
    rw (handed_on _ _ c.from_residual-in_err-check_fit.ensures.1)
    (refused93 (room_of c.args.vertices c.args.edges) (surveyed_found _ c.survey_text.ensures c.ok_or.ensures.value c.in_ok-found.was)
    (sym c.check_numbers.ensures ∙ c.in_ok-check_numbers.was)
    (sym c.in_err-check_fit.was ∙ c.check_fit.ensures))

pub returns : goal.returns
returns c =
    planned (room_of c.args.vertices c.args.edges) (surveyed_found _ c.survey_text.ensures c.ok_or.ensures.value c.in_ok-found.was)
    (sym c.check_numbers.ensures ∙ c.in_ok-check_numbers.was) (omega arith)
    (sym c.check_fit.ensures ∙ c.in_ok-check_fit.was)
