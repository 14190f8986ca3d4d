-- `wipe_list` meets its contract: only numbers that are left are marked. Assumes nothing.
use Rattle.bitmap.specs.Marks.{Only}
use Rattle.pgsolver_scan.specs.Successors.{left}
use Rattle.pgsolver_check.proofs.wipe_list.Given as goal

abbrev pub invariant-loop-successor : goal.invariant-loop-successor
invariant-loop-successor l = Only l.bits (left l.successor-iterator)
