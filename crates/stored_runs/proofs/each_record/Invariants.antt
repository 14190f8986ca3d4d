use denote.Param.Always.{always_mut}
use Rattle.stored_runs.specs.Records.{RecordsRan}
use Rattle.stored_runs.proofs.each_record.Given as goal

abbrev pub invariant-loop-number : goal.invariant-loop-number
invariant-loop-number g l =
    (always_mut g.F.FnMut l.initial.run → always_mut g.F.FnMut l.run)
    × RecordsRan g.R.Read.remaining g.H.From.from_gives g.F.FnMut g.row.N l.number
    (l.initial.run, l.initial.input) (l.run, l.input)
