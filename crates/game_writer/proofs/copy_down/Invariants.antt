-- The words that the iterator has left are left to write.
use Prim.Native.Nat.{◌+◌}
use Rattle.std.proofs.Common.{reverse}
use Rattle.words.proofs.Stretches.{Writing}
use Rattle.game_writer.proofs.copy_down.Given as goal

abbrev pub invariant-loop-i : goal.invariant-loop-i
invariant-loop-i l =
    Writing (l.start + l.i-iterator.count) (reverse l.i-iterator.iter.iter.rest.now) l.out l.start (reverse l.words)
    l.initial.out
