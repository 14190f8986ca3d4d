-- Chains of references from an equation to ever later ones, and what a chain counts: a reading without recursion
-- (document 01, "Depth"). Assumes nothing: these are definitions.
use Rattle.std.specs.Prelude.{◌≡◌, List, [], ◌∷◌, ℕ, ◌+◌, ◌<◌, eqb}
use Rattle.rules.specs.Lists.{In, has, one}
use Rattle.rules.specs.Words.{Input}
use Rattle.rules.specs.Formula.{equation_of, body_tree}
use Rattle.rules.specs.Depth.{references, alternates}

-- the equations that the body of equation i refers to
unfoldable pub referred : Input → ℕ → List ℕ
referred x i = references (body_tree x (equation_of x.formula i))

-- from equation i on, each equation refers to the next, which is later and is not t
abbrev pub Chain : Input → (t i : ℕ) → List ℕ → Type 0
Chain x t i [] = Unit {0}
Chain x t i (j ∷ js) = In j (referred x i) × (i < j) × (¬ (j ≡ t)) × Chain x t j js

-- its last equation
unfoldable pub last_of : ℕ → List ℕ → ℕ
last_of i [] = i
last_of i (j ∷ js) = last_of j js

-- how often the operator changes along it
unfoldable pub changes : List ℕ → ℕ → List ℕ → ℕ
changes f i [] = 0
changes f i (j ∷ js) = alternates (equation_of f i).operator (equation_of f j).operator + changes f j js

-- what it counts: its changes, plus 1 if its last body refers to t
unfoldable pub worth : Input → (t i : ℕ) → List ℕ → ℕ
worth x t i js = changes x.formula i js + one (has eqb t (referred x (last_of i js)))
