use Prim.Native.Nat.{◌+◌}
use mathlib.Core.Path.{◌≡◌}
use native.Mathlib.Numerals.{add-one}
use native.Mathlib.Omega.{arith}
use lib.Seq.{drop-cons}
use Rattle.words.proofs.Stretches.{put, turn}
use Rattle.reachability.proofs.copy.Goals as goal

pub loop-i-preserved : goal.loop-i-preserved
loop-i-preserved c =
    let from = c.args.from.now in
    let i = c.loop-i.i in
    let e : c.args.start + (i + 1) ≡ c.args.start + i + 1 = omega arith in
    rw e (put (omega (arith, c.requires)) (turn (rw (add-one i) (drop-cons from i 0 c.loop-i-test.true)) c.loop-i.invariant))
