-- `word_at` meets its contract: the sum of four bytes. Assumes nothing.
use Rattle.std.proofs.Common.{arith}
use Rattle.rules.specs.Program.{word_of}
use Rattle.words.specs.Bytes.{word_at}
use Rattle.words.proofs.word_at.Goals as goal

pub returns : goal.returns
unfolding word_at word_of
returns c = omega arith
