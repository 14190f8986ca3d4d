-- `wipe_all` meets its contract: only the numbers that are left are marked. Assumes nothing.
use native.Mathlib.Omega.{arith}
use Rattle.bitmap.proofs.Sets.{only_more, only_done}
use Rattle.bitmap.proofs.Bitmap.wipe_all.Goals as goal

pub loop-number-preserved : goal.loop-number-preserved
loop-number-preserved c =
    only_more c.args.numbers.now c.loop-number.number-index (omega arith) c.wipe.ensures c.loop-number.invariant

pub returns : goal.returns
returns c =
    only_done c.args.numbers.now c.loop-number.number-index c.loop-number-test.false c.loop-number.invariant
