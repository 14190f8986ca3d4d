-- `put_list` meets its contract. Assumes nothing.
use Rattle.pgsolver_reader.proofs.Putting.{Putting}
use Rattle.pgsolver_reader.proofs.put_list.Given as goal

abbrev pub invariant-loop-successor : goal.invariant-loop-successor
invariant-loop-successor l =
    Putting l.text l.list l.next l.start l.end l.bits l.game l.initial.game l.successor-iterator
