-- `put` meets its contract: the successors before this one are written, and are marked. Assumes nothing.
use Rattle.pgsolver_writer.proofs.Turns.{Listing}
use Rattle.pgsolver_writer.proofs.Targets.put.Given as goal

abbrev pub invariant-loop-target : goal.invariant-loop-target
invariant-loop-target l = Listing l.self.words.now l.target-index l.separator l.bits l.text l.initial.text
