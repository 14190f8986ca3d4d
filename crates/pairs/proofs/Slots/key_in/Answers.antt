use Rattle.std.proofs.Common.{arith}
use Rattle.pairs.proofs.Parts.{slot_at}
use Rattle.pairs.proofs.Slots.key_in.Goals as goal

pub returns : goal.returns
returns c = slot_at _ _ _ (omega (arith, c.requires))
