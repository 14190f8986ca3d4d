-- `length` meets its contract: the bytes of the successors met are counted. Assumes nothing.
use Rattle.pgsolver_writer.proofs.Turns.{Counted}
use Rattle.pgsolver_writer.proofs.Targets.length.Given as goal

abbrev pub invariant-loop-target : goal.invariant-loop-target
invariant-loop-target l = Counted l.self.words.now l.target-index l.size l.bits
