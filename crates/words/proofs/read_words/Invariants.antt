use Rattle.std.proofs.Common.{◌≡◌, take}
use Rattle.words.specs.Bytes.{words_at}
use Rattle.words.proofs.read_words.Given as goal

abbrev pub invariant-loop-i : goal.invariant-loop-i
invariant-loop-i l = take l.i l.words ≡ words_at l.i l.bytes
