use Prim.Native.Nat.{◌+◌, ◌<◌}
use mathlib.Core.Path.{◌≡◌}
use native.Mathlib.Omega.{arith}
use lib.ListN.{length}
use Rattle.rules.specs.Lists.{word}
use Rattle.words.proofs.Stretches.{carry_room, carry_put}
use Rattle.reachability.proofs.write_numbers.Goals as goal

pub loop-i-preserved : goal.loop-i-preserved
loop-i-preserved c =
    let x = c.args in
    let i = c.loop-i.i in
    let more : i < length x.targets.now = omega arith in
    let room = carry_room (word x.mapping.now) x.targets.now i more c.requires.room c.loop-i.invariant in
    let e : x.start + (i + 1) ≡ x.start + i + 1 = omega arith in
    rw e (carry_put (word x.mapping.now) x.targets.now i more room c.loop-i.invariant)
