-- `wipe` meets its contract. Assumes nothing.
use native.Mathlib.Omega.{arith}
use Rattle.bitmap.proofs.Bits.{wiped}
use Rattle.bitmap.proofs.Bitmap.wipe.Goals as goal

pub returns : goal.returns
returns c =
    rw (← c.self.view_is) (wiped c.self.inside.words c.args.number (omega (arith, c.requires, c.self.told)))
