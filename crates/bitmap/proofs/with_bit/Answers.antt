-- `with_bit` meets its contract. Assumes nothing.
use Prim.Native.Nat.{◌<◌}
use native.Mathlib.Omega.{arith}
use Rattle.bitmap.proofs.Bits.{shifted, bit_room}
use Rattle.bitmap.proofs.with_bit.Goals as goal

pub overflow_add-result : goal.overflow_add-result
overflow_add-result c =
    let word = c.args.word in
    let shift = c.args.shift in
    let h : word < 4294967296 = omega arith in
    omega (arith, shifted word shift c.requires.0, bit_room word shift c.requires.0 h c.requires.1)

pub returns : goal.returns
returns c = shifted c.args.word c.args.shift c.requires.0
