-- `past_line` meets its contract. Assumes nothing.
use native.Mathlib.Omega.{arith}
use mathlib.Core.Path.{sym, ◌∙◌}
use Rattle.pgsolver_scan.proofs.Reading.{when_true}
use Rattle.pgsolver_scan.proofs.PastLines.{past_end, past_lacks, past_ended, past_first}
use Rattle.pgsolver_scan.proofs.past_line.Goals as goal

pub returns-then-text-place : goal.returns-then-text-place
returns-then-text-place c = past_end c.args.text.now c.args.place c.if-text-place.true

pub returns-then-bytes_at : goal.returns-then-bytes_at
returns-then-bytes_at c =
    past_ended c.args.text.now c.args.place _ (when_true _ _ _ c.bytes_at.ensures.place_value c.if-bytes_at.true)

pub returns-in-Some : goal.returns-in-Some
returns-in-Some c = past_first c.args.text.now c.args.place c.in-Some.end c.in-Some.ensures

pub returns-in-None : goal.returns-in-None
returns-in-None c =
    past_end c.args.text.now _ (omega arith) ∙ sym (past_lacks c.args.text.now c.args.place _ c.in-None.ensures)
