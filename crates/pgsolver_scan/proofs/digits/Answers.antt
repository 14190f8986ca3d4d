-- `digits` meets its contract. Assumes nothing.
use native.Mathlib.Omega.{arith}
use Rattle.pgsolver_scan.proofs.Scanning.{scan-start, scan_more, stopped, digit_most, value_most}
use Rattle.pgsolver_scan.proofs.Knowing.{known_inside, known_small}
use Rattle.pgsolver_scan.proofs.digits.Goals as goal

pub loop-digit-init : goal.loop-digit-init
loop-digit-init g c = scan-start c.args.text.now c.args.place c.requires.within

pub digit_at-requires : goal.digit_at-requires
digit_at-requires g c = λ e. known_inside (c.requires.known e) c.loop-digit.invariant

pub pushed-value-requires : goal.pushed-value-requires
pushed-value-requires g c = (
  digit_most c.args.text.now c.loop-digit.next c.in-Some.ensures,
  value_most _ c.loop-digit.value (λ e. known_small (c.requires.known e) c.loop-digit.invariant)
      c.loop-digit.invariant.small,
)

pub loop-digit-smaller : goal.loop-digit-smaller
loop-digit-smaller g c = omega (arith, c.in-Some.ensures.0)

pub loop-digit-preserved : goal.loop-digit-preserved
loop-digit-preserved g c = scan_more c.loop-digit.invariant c.in-Some.ensures c.pushed-value.ensures

pub returns : goal.returns
returns g c = stopped c.loop-digit.invariant c.in_default.ensures
