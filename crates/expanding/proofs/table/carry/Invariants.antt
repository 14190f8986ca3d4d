-- So many nodes are carried.
use Rattle.expanding.specs.Parts.{Carried}
use Rattle.expanding.proofs.table.carry.Given as goal

abbrev pub invariant-loop-i : goal.invariant-loop-i
invariant-loop-i l = Carried l.part l.to l.i l.renumbering l.initial.out l.out
