-- `lengths_agree` meets its contract: it asks how many words stand behind the first four. Assumes nothing.
use Rattle.gate_text.proofs.Decoding.{agree_by}
use Rattle.gate_text.proofs.lengths_agree.Goals as goal

pub returns : goal.returns
returns c = agree_by c.args.words.now _ c.sum.ensures c.requires
