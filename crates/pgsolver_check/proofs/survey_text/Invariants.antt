-- `survey_text` meets its contract. Assumes nothing.
use Prim.Native.Nat.{◌-◌}
use lib.ListN.{length}
use Rattle.pgsolver_check.proofs.Surveying.{Surveying}
use Rattle.pgsolver_check.proofs.survey_text.Given as goal

abbrev pub invariant-loop-place : goal.invariant-loop-place
invariant-loop-place l = Surveying l.text l.initial.found.plan.highest l.initial.place l.place l.found l.bits

abbrev pub decreases-loop-place : goal.decreases-loop-place
decreases-loop-place l = length l.text - l.place
