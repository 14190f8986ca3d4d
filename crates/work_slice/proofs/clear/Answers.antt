use Rattle.std.proofs.Common.{◌≡◌, ◌-◌, replicate, rules, arith}
use Rattle.work_slice.proofs.Zeros.{zeroed}
use Rattle.work_slice.proofs.clear.Goals as goal

pub returns : goal.returns
returns c =
    let e : c.fill.new.self ≡ replicate (c.place-end.result - c.place-start.result) 0 = search rules in
    rw (← c.place-start.ensures) (rw (← c.place-end.ensures) (
    zeroed _ _ _ _ (omega (arith, c.place-start.ensures, c.place-end.ensures, c.requires.0))
    (omega (arith, c.place-end.ensures, c.requires.1)) e))
