-- `wipe_all` meets its contract: only the numbers that are left are marked. Assumes nothing.
use lib.ListN.{drop}
use Rattle.bitmap.specs.Marks.{Only}
use Rattle.bitmap.proofs.Bitmap.wipe_all.Given as goal

abbrev pub invariant-loop-number : goal.invariant-loop-number
invariant-loop-number l = Only l.self (drop l.number-index l.numbers)
