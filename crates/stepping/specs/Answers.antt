-- What a step in place answers. Assumes nothing: these are definitions.
use Rattle.std.specs.Prelude.{◌≡◌, List, Result, ℕ, ◌<◌, eqb}
use Rattle.std.specs.declared.result.Result.TheVariants.{Ok, Err}
use Rattle.rules.specs.Walk.{step}
use Rattle.pairs.specs.declared.NoRoom.{NoRoom}
use Rattle.settling.specs.declared.Counters.{Counters}
use Rattle.settling.specs.Stand.{stand_of}
use Rattle.settling.specs.Good.{Exceeding, StepMade}

-- a step was made, after which none waits if none did; or a vertex waits whose step would be too much, and the counters
-- are as they were
abbrev pub TriedAnswer : (ℕ → List ℕ) → (ℕ → ℕ → ℕ) → ℕ → List ℕ → ℕ → ℕ → Counters → List ℕ → Counters
    → Result Unit NoRoom → Type 0
TriedAnswer targets behind root w v e c w' c' (Ok x) =
    StepMade targets behind root w v e c w' c' × (c.waiting ≡ 0 → c'.waiting ≡ 0)
TriedAnswer targets behind root w v e c w' c' (Err x) =
    (c' ≡ c) × (0 < c.waiting) × Exceeding targets root v e (step eqb targets root (stand_of w v c))
