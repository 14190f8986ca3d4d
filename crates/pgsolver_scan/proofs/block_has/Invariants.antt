-- `block_has` meets its contract: `Counted` says what the hits so far show. Assumes nothing.
use Rattle.pgsolver_scan.proofs.Blocks.{Counted}
use Rattle.pgsolver_scan.proofs.block_has.Given as goal

abbrev pub invariant-loop-byte : goal.invariant-loop-byte
invariant-loop-byte l = Counted l.block 0 l.byte-index l.hits l.wanted.one l.wanted.other
