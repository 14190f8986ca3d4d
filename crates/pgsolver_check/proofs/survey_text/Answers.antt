-- `survey_text` meets its contract. Assumes nothing.
use native.Mathlib.Omega.{arith}
use Rattle.pgsolver_check.proofs.Surveying.{surveying_start, surveying_broken, surveying_later}
use Rattle.pgsolver_check.proofs.Surveying.{surveying_room, surveying_more, surveyed_within, surveyed_low}
use Rattle.pgsolver_check.proofs.Surveying.{surveyed_broken, surveyed, surveyed_not}
use Rattle.pgsolver_check.proofs.survey_text.Goals as goal

pub returns-in_err-header : goal.returns-in_err-header
returns-in_err-header c = rw c.from_residual.ensures (surveyed_not c.args.text.now c.in_err-header.ensures)

pub loop-place-init : goal.loop-place-init
loop-place-init c =
    let header = c.in_ok-header.header in
    surveying_start c.args.text.now header.value header.next
    (surveyed_within c.args.text.now header.value header.next c.in_ok-header.ensures) (omega arith) c.clear.ensures

pub returns-in_err-row : goal.returns-in_err-row
returns-in_err-row c =
    let header = c.in_ok-header.header in
    rw c.from_residual-in_err-row.ensures
    (surveyed_broken c.args.text.now header.value header.next c.in_ok-header.ensures
    (surveying_broken c.loop-place.invariant c.loop-place-test.true c.in_err-row.ensures))

pub with_line-found-requires : goal.with_line-found-requires
with_line-found-requires c =
    let header = c.in_ok-header.header in
    surveying_room c.loop-place.invariant c.loop-place-test.true c.in_ok-row.row c.in_ok-row.ensures
    (surveyed_low c.args.text.now header.value header.next c.in_ok-header.ensures)

pub loop-place-smaller : goal.loop-place-smaller
loop-place-smaller c =
    omega (
      arith,
      c.loop-place-test.true,
      surveying_later c.loop-place.invariant c.loop-place-test.true c.in_ok-row.row c.in_ok-row.ensures,
    )

pub loop-place-preserved : goal.loop-place-preserved
loop-place-preserved c =
    surveying_more c.loop-place.invariant c.loop-place-test.true c.in_ok-row.row c.in_ok-row.ensures
    c.with_line-found.ensures

pub returns : goal.returns
returns c =
    let header = c.in_ok-header.header in
    surveyed c.args.text.now header.value header.next c.in_ok-header.ensures c.loop-place-test.false
    c.loop-place.invariant
