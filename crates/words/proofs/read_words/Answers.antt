use native.Mathlib.Omega.{arith}
use Rattle.words.proofs.Reading.{read_none, read_more}
use Rattle.words.proofs.read_words.Goals as goal

pub loop-i-init : goal.loop-i-init
loop-i-init c = read_none c.args.bytes.now

pub loop-i-preserved : goal.loop-i-preserved
loop-i-preserved c = read_more c.args.bytes.now c.loop-i.words c.loop-i.i _ c.word_at.ensures (omega arith) c.loop-i.invariant
