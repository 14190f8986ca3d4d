use Rattle.std.specs.Prelude.{◌-◌}
use Rattle.rules.specs.Lists.{from}
use Rattle.pairs.specs.Table.{slots_of}
use Rattle.pairs.specs.Answers.{Others}
use Rattle.pairs.proofs.Slots.probe.Given as goal

abbrev pub invariant-loop-slot : goal.invariant-loop-slot
invariant-loop-slot l = Others (slots_of l.self.work.now l.self.vertices) (from l.start (l.slot - l.start)) l.key
