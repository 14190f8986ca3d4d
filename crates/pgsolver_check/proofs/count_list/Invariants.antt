-- `count_list` meets its contract. Assumes nothing.
use Rattle.pgsolver_check.proofs.Counting.{Counting}
use Rattle.pgsolver_check.proofs.count_list.Given as goal

abbrev pub invariant-loop-successor : goal.invariant-loop-successor
invariant-loop-successor l = Counting l.text l.list l.count l.next l.bits l.successor-iterator
