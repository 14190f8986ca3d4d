-- What is claimed of the formula that the expander writes: it says of every system what the formula handed over says by
-- paths. Assumes nothing: these are statements.
use Rattle.std.specs.Prelude.{◌≡◌, List, [], ◌∷◌, ◌↔◌, ℕ, take}
use Rattle.std.specs.declared.result.Result.TheVariants.{Ok}
use Rattle.rules.specs.declared.Answer.{Answer}
use Rattle.rules.specs.declared.Answer.TheVariants.{Done, Cut, Refused}
use Rattle.rules.specs.declared.Room.{Room}
use Rattle.rules.specs.Words.{Input, input_of}
use Rattle.rules.specs.System.{initial_state}
use Rattle.rules.specs.Answers.{first_fault}
use Rattle.rules.specs.Refusal.{refusal21, refusal22, refusal23, refusal24, refusal25, refusal26}
use Rattle.rules.specs.Depth.{by_depth}
use Rattle.rules.specs.Run.{run}
use Rattle.meaning.specs.Satisfies.{SatisfiesBy, Satisfied}
use Rattle.satisfaction.specs.Claims.{Finished}
use Rattle.satisfaction.specs.Verdict.{Verdict}
use Rattle.regular_rules.specs.Refusals.{RegularInput}
use Rattle.regular_rules.specs.Expansion.{regular_formula}
use Rattle.regular_meaning.specs.Paths.{Leads}

-- the initial state of the system satisfies the formula handed over, whose modalities lead by paths
abbrev pub RegularSatisfied : RegularInput → (ss : List ℕ) → Type 0
RegularSatisfied x ss = SatisfiesBy ss (Leads x.labels ss x.actions) (regular_formula x) [] (initial_state ss)

-- the words of a system that are not refused, given those of the labels
abbrev pub SystemAccepted : (ls ss : List ℕ) → Type 0
SystemAccepted ls ss =
    first_fault
    (refusal21 ss ∷ refusal22 ss ∷ refusal23 ss ∷ refusal24 ss ∷ refusal25 ls ss ∷ refusal26 ss ∷ [])
    ≡ Ok tt

-- the input of a run over the formula that was written
abbrev pub run_input : RegularInput → (ss written : List ℕ) → Input
run_input x ss written = input_of x.labels ss x.actions written

-- on every system the formula that was written says the same as the one handed over
abbrev pub ExpansionMeans : RegularInput → (written : List ℕ) → Type 0
ExpansionMeans x written =
    (ss : List ℕ) → SystemAccepted x.labels ss → Satisfied (run_input x ss written) ↔ RegularSatisfied x ss

-- No false pass: where a verdict on the game of a finished run over the formula that was written is accepted with its
-- reasons, the initial state satisfies the formula handed over. For every system, room, limit and content of the slices
abbrev pub NoFalsePassByPaths : RegularInput → (written : List ℕ) → Type 0
NoFalsePassByPaths x written =
    (ss : List ℕ) (r : Room) (k : ℕ) (game work : List ℕ)
    → Finished (run by_depth (run_input x ss written) r k game work).answer
    → Verdict (run by_depth (run_input x ss written) r k game work).game
    → RegularSatisfied x ss

-- what an answer of the expander says of the slice as the call leaves it: the words written are its first w
abbrev pub WrittenMeans : RegularInput → Answer → (out : List ℕ) → Type 0
WrittenMeans x (Done w zero_1 zero_2) out = ExpansionMeans x (take w out) × NoFalsePassByPaths x (take w out)
WrittenMeans x (Cut w v e) out = Unit {0}
WrittenMeans x (Refused n p) out = Unit {0}
