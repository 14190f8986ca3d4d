-- No more records differ than there were.
use Rattle.std.proofs.Common.{◌≤◌}
use Rattle.texts.proofs.compare_all.Given as goal

abbrev pub invariant-loop-number : goal.invariant-loop-number
invariant-loop-number g l = l.differences ≤ l.number-counter
