use Prim.Native.Nat.{ℕ, ◌≤◌, ◌<◌}
use mathlib.Core.Path.{◌≡◌}
use mathlib.Core.Bool.{Bool}
use Rattle.rules.specs.Refusal.{fault_from}
use Rattle.faults.proofs.first_fault.Given as goal

abbrev pub invariant-loop-place : goal.invariant-loop-place
invariant-loop-place g l =
    (test : ℕ → Bool)
    → ((place : ℕ) (r : Bool) → l.first ≤ place → place < l.end → goal.F-post g l.bad place r → r ≡ test place)
    → fault_from l.number l.first l.end test ≡ fault_from l.number l.place l.end test
