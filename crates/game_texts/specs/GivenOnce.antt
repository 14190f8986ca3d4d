-- The numbers of a text's lines are as they must be (document 02, #101: "92 for a vertex missing, given twice or, also
-- as a successor, above the highest"). Assumes nothing: these are statements.
use Rattle.std.specs.Prelude.{ℕ, ◌≤◌}
use Rattle.rules.specs.Lists.{In, Distinct}
use Rattle.rules.specs.Pgsolver.{SolverLine, SolverText}
use Rattle.rules.specs.PgsolverReading.{numbers_of}

-- theorem `refusal92_exact`: a text is not refused with 92 exactly if this holds
pub record GivenOnce (t : SolverText) : Type 0 where
  pub given : (v : ℕ) → v ≤ t.highest → In v (numbers_of t.lines)
  pub once : Distinct (numbers_of t.lines)
  pub below : (l : SolverLine) → In l t.lines → l.number ≤ t.highest
  pub leads : (l : SolverLine) → In l t.lines → (s : ℕ) → In s l.successors → s ≤ t.highest
