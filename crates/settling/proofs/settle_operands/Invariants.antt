use Rattle.settling.proofs.Operands.{Settling}
use Rattle.settling.proofs.settle_operands.Given as goal

abbrev pub invariant-loop-item : goal.invariant-loop-item
invariant-loop-item l =
    Settling l.initial.work l.room.vertices l.room.edges l.initial.so_far l.state l.items l.work l.so_far l.item-index
