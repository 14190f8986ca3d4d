use Rattle.std.proofs.Common.{◌+◌, ◌*◌, arith, rules}
use Rattle.pairs.proofs.Parts.{slot_at, vertex_read}
use Rattle.pairs.proofs.Slots.held_in.Goals as goal

pub returns : goal.returns
returns c =
    let slots = c.args.self.now in
    let read = slot_at slots.vertices (2 * c.args.slot + 1) slots.work.now (omega (arith, c.requires)) in
    vertex_read _ _ _ _ (λ x i is. search rules) (rw read at c.checked_sub.ensures) c.map.ensures.cases
