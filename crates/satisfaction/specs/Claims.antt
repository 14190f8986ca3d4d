-- What is claimed of a run's answer and game: which verdicts on the game there are, and what they say of the formula.
-- Assumes nothing: these are statements.
use Rattle.std.specs.Prelude.{◌≡◌, List, ◌↔◌, ℕ}
use Rattle.rules.specs.declared.Answer.{Answer}
use Rattle.rules.specs.declared.Answer.TheVariants.{Done}
use Rattle.rules.specs.Words.{Input}
use Rattle.meaning.specs.Satisfies.{Satisfied}
use Rattle.satisfaction.specs.Verdict.{Verdict}

-- the run is finished
abbrev pub Finished : Answer → Type 0
Finished a = (s : ℕ) × (n : ℕ) × (m : ℕ) × (a ≡ Done s n m)

-- No false pass: where a verdict on the game of a finished run is accepted with its reasons, the initial state
-- satisfies the formula
abbrev pub NoFalsePass : Input → Answer → List ℕ → Type 0
NoFalsePass x a g = Finished a → Verdict g → Satisfied x

-- nor a false alarm: where the initial state satisfies the formula, there is such a verdict
abbrev pub VerdictExactly : Input → Answer → List ℕ → Type 0
VerdictExactly x a g = Finished a → Verdict g ↔ Satisfied x
