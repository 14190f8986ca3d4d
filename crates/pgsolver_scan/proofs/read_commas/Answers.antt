-- `read_commas` meets its contract. Assumes nothing.
use native.Mathlib.Omega.{arith}
use Rattle.pgsolver_scan.proofs.Scanning.{byte_stands, byte_lacking}
use Rattle.pgsolver_scan.proofs.Reading.{commas_start, commas_end, commas_fail, commas_more, commas_later}
use Rattle.pgsolver_scan.proofs.read_commas.Goals as goal

pub loop-list-init : goal.loop-list-init
loop-list-init c = commas_start c.args.text.now c.args.first.next c.args.first.value c.requires

pub returns-in_err-number : goal.returns-in_err-number
returns-in_err-number c =
    let h = c.byte_at.ensures.place_in_bounds c.loop-list-test.true in
    rw c.from_residual.ensures
    (commas_fail c.loop-list.list c.loop-list.invariant h
    (byte_stands c.args.text.now c.loop-list.list.next 44 c.byte_at.ensures.place_value h c.loop-list-test.true)
    c.in_err-number.ensures)

pub loop-list-smaller : goal.loop-list-smaller
loop-list-smaller c =
    let h = c.byte_at.ensures.place_in_bounds c.loop-list-test.true in
    omega (
      arith,
      h,
      commas_later c.args.text.now c.loop-list.list.next c.in_ok-number.number h c.in_ok-number.ensures,
    )

pub loop-list-preserved : goal.loop-list-preserved
loop-list-preserved c =
    let h = c.byte_at.ensures.place_in_bounds c.loop-list-test.true in
    rw c.max.ensures
    (commas_more c.loop-list.list c.loop-list.invariant h
    (byte_stands c.args.text.now c.loop-list.list.next 44 c.byte_at.ensures.place_value h c.loop-list-test.true)
    c.in_ok-number.number c.in_ok-number.ensures)

pub returns : goal.returns
returns c =
    commas_end c.loop-list.list c.loop-list.invariant
    (λ h. byte_lacking c.args.text.now c.loop-list.list.next 44 c.byte_at.ensures.place_value h
    c.loop-list-test.false)
