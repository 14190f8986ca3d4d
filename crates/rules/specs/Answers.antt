-- The answers of the calls (document 01, "Who can cause a refusal"). Assumes nothing: these are definitions.
use Rattle.std.specs.Prelude.{◌≡◌, ℕ, Bool, true, false, List, [], ◌∷◌, Result}
use Rattle.rules.specs.declared.Answer.{Answer}
use Rattle.rules.specs.declared.Answer.TheVariants.{Done, Cut, Refused}
use Rattle.rules.specs.declared.Fault.{Fault}
use Rattle.std.specs.declared.result.Result.TheVariants.{Ok, Err}

-- "Done (steps, vertices, edges), Cut (steps, vertices known, edges) or Refused (number, place)" as four words. 01 has
-- no number for the three: 0, 1, 2 are this project's, and unused values are 0
unfoldable pub said : Answer → List ℕ
said (Done s v e) = 0 ∷ s ∷ v ∷ e ∷ []
said (Cut s v e) = 1 ∷ s ∷ v ∷ e ∷ []
said (Refused n p) = 2 ∷ n ∷ p ∷ 0 ∷ []

-- these words are those of an answer of which P holds (theorem `said_once`: they are those of one answer only)
abbrev pub Says : List ℕ → (Answer → Type 0) → Type 0
Says ws P = (a : Answer) × (ws ≡ said a) × P a

-- an answer other than Refused
abbrev pub Accepted : Answer → Type 0
Accepted (Done s v e) = Unit {0}
Accepted (Cut s v e) = Unit {0}
Accepted (Refused n p) = ⊥

-- ---- checks

-- what a check of an input answers: it passes, or has a fault
abbrev pub Check : Type 0
Check = Result (Unit {0}) Fault

-- a fault: its number and its place
abbrev pub fault : (number place : ℕ) → Check
fault n p = Err (record { number = n; place = p })

-- fault n at place p if the test holds
unfoldable pub fault_if : ℕ → ℕ → Bool → Check
fault_if n p true = fault n p
fault_if n p false = Ok tt

-- the first check's fault, else the second check
unfoldable pub and_then : Check → Check → Check
and_then (Ok u) next = next
and_then (Err f) next = Err f

-- the first fault of these
unfoldable pub first_fault : List Check → Check
first_fault [] = Ok tt
first_fault (c ∷ cs) = and_then c (first_fault cs)
