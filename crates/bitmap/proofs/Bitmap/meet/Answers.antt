-- `meet` meets its contract: the number's bit is set already, or is set now. Assumes nothing.
use Prim.Native.Nat.{◌/◌, ◌%◌}
use native.Mathlib.Omega.{arith}
use Rattle.rules.specs.Lists.{word}
use Rattle.bitmap.proofs.Bits.{met_old, met_new, bit_off}
use Rattle.bitmap.proofs.Bitmap.meet.Goals as goal

pub returns-then-word-shift-eq1 : goal.returns-then-word-shift-eq1
returns-then-word-shift-eq1 c =
    rw (← c.self.view_is) (met_old c.self.inside.words c.args.number c.if-word-shift-eq1.true)

pub with_bit-requires : goal.with_bit-requires
with_bit-requires c =
    let number = c.args.number in
    (omega arith, bit_off (word c.self.inside.words (number / 32)) (number % 32) c.if-word-shift-eq1.false)

pub returns : goal.returns
returns c =
    rw (← c.self.view_is, c.with_bit.ensures)
    (met_new c.self.inside.words c.args.number (omega (arith, c.requires, c.self.told)) c.if-word-shift-eq1.false)
