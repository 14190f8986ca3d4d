-- Other numbers for the operands of a tree that is shown. Assumes nothing.
use Prim.Native.Nat.{ℕ, ◌≤◌}
use native.Mathlib.Omega.{arith}
use Rattle.rules.specs.Actions.{Action}
use Rattle.rules.specs.Formula.{Formula, truth, falsity, conjunction, disjunction, box, diamond, reference}
use Rattle.alike_nodes.specs.Nodes.{FormulaShown}

pub formula_shown_map : (Number Number' : Formula → ℕ → Type 0) (OfAction OfAction' : Action → ℕ → Type 0)
    → ((f : Formula) (l : ℕ) → Number f l → Number' f l)
    → ((a : Action) (r : ℕ) → OfAction a r → OfAction' a r)
    → (f : Formula) (k l r : ℕ) → FormulaShown Number OfAction f k l r → FormulaShown Number' OfAction' f k l r
formula_shown_map N N' O O' p q truth k l r s = s
formula_shown_map N N' O O' p q falsity k l r s = s
formula_shown_map N N' O O' p q (conjunction f g) k l r (a, b, c) = (a, p f l b, p g r c)
formula_shown_map N N' O O' p q (disjunction f g) k l r (a, b, c) = (a, p f l b, p g r c)
formula_shown_map N N' O O' p q (box t f) k l r (a, b, c) = (a, p f l b, q t r c)
formula_shown_map N N' O O' p q (diamond t f) k l r (a, b, c) = (a, p f l b, q t r c)
formula_shown_map N N' O O' p q (reference i) k l r s = s

-- its kind stands for one
pub shown_kind : (Number : Formula → ℕ → Type 0) (OfAction : Action → ℕ → Type 0) (f : Formula) (k l r : ℕ) → FormulaShown Number OfAction f k l r → k ≤ 8
shown_kind N O truth k l r (a, b, c) = omega (arith, a)
shown_kind N O falsity k l r (a, b, c) = omega (arith, a)
shown_kind N O (conjunction f g) k l r (a, b, c) = omega (arith, a)
shown_kind N O (disjunction f g) k l r (a, b, c) = omega (arith, a)
shown_kind N O (box t f) k l r (a, b, c) = omega (arith, a)
shown_kind N O (diamond t f) k l r (a, b, c) = omega (arith, a)
shown_kind N O (reference i) k l r (a, b, c) = omega (arith, a)
