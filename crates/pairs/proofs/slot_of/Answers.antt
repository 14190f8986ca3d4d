use Rattle.std.proofs.Common.{ℕ, ◌*◌, ◌/◌, ◌^◌, ap}
use Rattle.pairs.specs.Slot.{slot_of}
use Rattle.pairs.proofs.slot_of.Goals as goal

pub returns : goal.returns
unfolding slot_of
returns c = ap (λ (p : ℕ). p * c.args.slots / 2 ^ 32) c.wrapping_mul32-multiple.ensures
