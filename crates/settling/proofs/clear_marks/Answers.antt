use mathlib.Core.Path.{◌≡◌}
use Prim.Native.Nat.{◌+◌, ◌*◌}
use native.Mathlib.Omega.{arith}
use Rattle.settling.proofs.clear_marks.Goals as goal

pub returns-then-room-marks : goal.returns-then-room-marks
returns-then-room-marks c =
    let v = c.args.room.vertices in
    let z : 7 * v + v ≡ 8 * v = omega arith in
    rw (← z) c.clear.ensures
