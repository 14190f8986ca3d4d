-- Depth and priority of an equation (document 01, "Depth"). Assumes nothing: these are definitions.
use Rattle.std.specs.Prelude.{ℕ, zero, suc, ◌+◌, ◌*◌, ◌/◌, cond, ◌≡◌, List, [], ◌∷◌, ◌++◌, map, eqb, ltb}
use Rattle.rules.specs.Lists.{largest}
use Rattle.rules.specs.Words.{Input}
use Rattle.rules.specs.Formula.{Operator, least, greatest, equation_of, equation_count, Formula, truth, falsity, conjunction, disjunction, box, diamond, reference, body_tree}

-- the references in a body, by their equations. (There are none in an action formula)
unfoldable pub references : Formula → List ℕ
references truth = []
references falsity = []
references (conjunction l r) = references l ++ references r
references (disjunction l r) = references l ++ references r
references (box a b) = references b
references (diamond a b) = references b
references (reference i) = i ∷ []

-- "plus 1 if the operators of i and j differ"
unfoldable pub alternates : Operator → Operator → ℕ
alternates least least = 0
alternates least greatest = 1
alternates greatest least = 1
alternates greatest greatest = 0

-- what a reference to j in the body of i counts when i is read for t, given the reading of j: "1 for t itself; for a
-- later equation j, the reading of j for t, plus 1 if the operators of i and j differ; 0 for any other"
unfoldable pub contribution : List ℕ → (t i j reading : ℕ) → ℕ
contribution f t i j reading = cond (eqb j t) 1 (cond (ltb i j) (reading + alternates (equation_of f i).operator (equation_of f j).operator) 0)

-- "To read equation i for target t, take the largest of these over the references in its body, 0 if there are none",
-- read to a depth. Only later equations are entered, so their count is deep enough: `ReadingEquation`
unfoldable pub reading_to : (depth : ℕ) → Input → (t i : ℕ) → ℕ
reading_to zero x t i = 0
reading_to (suc d) x t i = largest (map (λ j. let r = reading_to d x t j in contribution x.formula t i j r) (references (body_tree x (equation_of x.formula i))))

unfoldable pub reading : Input → (t i : ℕ) → ℕ
reading x t i = reading_to (equation_count x.formula) x t i

-- The reading of an equation is the largest of what the references in its body count (theorem `reading_equation`: of
-- each equation of accepted words)
abbrev pub ReadingEquation : Input → (t i : ℕ) → Type 0
ReadingEquation x t i =
    reading x t i
    ≡ largest
    (map (λ j. contribution x.formula t i j (reading x t j)) (references (body_tree x (equation_of x.formula i))))

-- "The reading of an equation for itself is its depth d"
unfoldable pub depth : Input → ℕ → ℕ
depth x i = reading x i i

-- A ranking gives each equation its priority. The rules hold for any ranking
abbrev pub Ranking : Type 0
Ranking = Input → ℕ → ℕ

unfoldable pub least_bit : Operator → ℕ
least_bit least = 1
least_bit greatest = 0

-- the Rust's ranking: "2 times floor(d/2), plus 1 for a least equation"
unfoldable pub by_depth : Ranking
by_depth x i = 2 * (depth x i / 2) + least_bit (equation_of x.formula i).operator
