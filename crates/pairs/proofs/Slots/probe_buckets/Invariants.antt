use Rattle.std.specs.Prelude.{◌-◌}
use Rattle.std.specs.declared.option.Option.{Option}
use Rattle.pairs.specs.declared.Place.{Place}
use Rattle.pairs.specs.Slot.{bucket_count, buckets}
use Rattle.pairs.specs.Table.{slot_count, slots_of}
use Rattle.pairs.specs.Answers.{Probed}
use Rattle.pairs.proofs.Slots.probe_buckets.Given as goal

-- what is answered along the buckets that are left is the answer
abbrev pub invariant-loop-done : goal.invariant-loop-done
invariant-loop-done l =
    let slots = slots_of l.self.work.now l.self.vertices in
    let size = slot_count l.self.vertices in
    (r : Option Place) → Probed slots (buckets (bucket_count - l._done) l.origin size) l.key r → Probed slots (buckets bucket_count l.key size) l.key r
