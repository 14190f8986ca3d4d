-- Readings: the depth to which they are read does not matter, a reading is the largest of what the references in the
-- body count, and readings are small. Assumes nothing.
use mathlib.Core.Path.{◌≡◌, refl, ap, ap₂, ◌∙◌}
use mathlib.Core.Bool.{Bool, true, false, cond}
use mathlib.Core.List.{List, map}
use Prim.Native.Nat.{ℕ, zero, suc, ◌+◌, ◌-◌, ◌*◌, ◌/◌, ◌≤◌, ◌<◌}
use native.Mathlib.Omega.{arith}
use lib.Dec.{eqb, ltb}
use borrow.Author.Tests.{ltb-true, eq-eqb, ne_eqb, lt-ltb, le-ltb}
use Rattle.rules.specs.Lists.{largest}
use Rattle.rules.specs.Words.{Input}
use Rattle.rules.specs.Formula.{Operator, least, greatest, equation_count, equation_of, body_tree}
use Rattle.rules.specs.Depth.{references, alternates, contribution, reading_to, reading, ReadingEquation, depth}
use Rattle.rules.specs.Depth.{least_bit, by_depth}
use Rattle.tables.specs.Good.{GoodFormula}
use Rattle.trees.proofs.Equations.{count_limit}
use Rattle.trees.proofs.Largest.{largest_same, largest_most}
use Rattle.trees.proofs.References.{body_references_below, references_words}

-- ---- what a reference counts, by the tests

pub contribution_target : (f : List ℕ) (t i j r : ℕ) → j ≡ t → contribution f t i j r ≡ 1
unfolding contribution
contribution_target f t i j r e = rw (eq-eqb j t e)

pub contribution_later : (f : List ℕ) (t i j r : ℕ) → (j ≡ t → ⊥) → i < j
    → contribution f t i j r ≡ r + alternates (equation_of f i).operator (equation_of f j).operator
unfolding contribution
contribution_later f t i j r d h = rw (ne_eqb j t d, lt-ltb i j h)

pub contribution_other : (f : List ℕ) (t i j r : ℕ) → (j ≡ t → ⊥) → j ≤ i → contribution f t i j r ≡ 0
unfolding contribution
contribution_other f t i j r d h = rw (ne_eqb j t d, le-ltb i j h)

-- the reading matters only if j is later
contribution_same : (f : List ℕ) (t i j r s : ℕ) → (i < j → r ≡ s) → contribution f t i j r ≡ contribution f t i j s
unfolding contribution
contribution_same f t i j r s h = go (eqb j t) (ltb i j) refl
  where
    n : ℕ
    n = alternates (equation_of f i).operator (equation_of f j).operator

    go : (a b : Bool) → ltb i j ≡ b → cond a 1 (cond b (r + n) 0) ≡ cond a 1 (cond b (s + n) 0)
    go true b e = refl
    go false true e = ap (λ (k : ℕ). k + n) (h (ltb-true i j e))
    go false false e = refl

pub alternates_most : (p q : Operator) → alternates p q ≤ 1
unfolding alternates
alternates_most least least = omega arith
alternates_most least greatest = omega arith
alternates_most greatest least = omega arith
alternates_most greatest greatest = omega arith

contribution_most : (f : List ℕ) (t i j r d : ℕ) → r ≤ d → contribution f t i j r ≤ suc d
unfolding contribution
contribution_most f t i j r d h = go (eqb j t) (ltb i j) (alternates (equation_of f i).operator (equation_of f j).operator) (alternates_most (equation_of f i).operator (equation_of f j).operator)
  where
    go : (a b : Bool) (n : ℕ) → n ≤ 1 → cond a 1 (cond b (r + n) 0) ≤ suc d
    go true b n e = omega arith
    go false true n e = omega arith
    go false false n e = omega arith

-- ---- only the words of the formula matter

readings_to : (d : ℕ) (x y : Input) (t i : ℕ) → x.formula ≡ y.formula → reading_to d x t i ≡ reading_to d y t i
unfolding reading_to body_tree
readings_to zero x y t i e = refl
readings_to (suc d) x y t i e =
    largest_same (λ j. contribution x.formula t i j (reading_to d x t j)) (λ j. contribution x.formula t i j (reading_to d y t j))
    (references (body_tree x (equation_of x.formula i))) (λ j m. ap (contribution x.formula t i j) (readings_to d x y t j e))
    ∙ ap (λ (l : List ℕ). largest (map (λ j. contribution x.formula t i j (reading_to d y t j)) l)) (references_words x y (equation_of x.formula i).body e)
    ∙ ap (λ (f : List ℕ). largest (map (λ j. contribution f t i j (reading_to d y t j)) (references (body_tree y (equation_of f i))))) e

pub reading_words : (x y : Input) (t i : ℕ) → x.formula ≡ y.formula → reading x t i ≡ reading y t i
unfolding reading
reading_words x y t i e = readings_to (equation_count x.formula) x y t i e ∙ ap (λ (f : List ℕ). reading_to (equation_count f) y t i) e

pub depth_words : (x y : Input) (i : ℕ) → x.formula ≡ y.formula → depth x i ≡ depth y i
unfolding depth
depth_words x y i e = reading_words x y i i e

pub by_depth_words : (x y : Input) (i : ℕ) → x.formula ≡ y.formula → by_depth x i ≡ by_depth y i
unfolding by_depth
by_depth_words x y i e = ap₂ (λ (d : ℕ) (f : List ℕ). 2 * (d / 2) + least_bit (equation_of f i).operator) (depth_words x y i e) e

-- ---- readings are small

reading_to_most : (d : ℕ) (x : Input) (t i : ℕ) → reading_to d x t i ≤ d
unfolding reading_to
reading_to_most zero x t i = omega arith
reading_to_most (suc d) x t i =
    largest_most (λ j. contribution x.formula t i j (reading_to d x t j)) (suc d) (references (body_tree x (equation_of x.formula i)))
    (λ j m. contribution_most x.formula t i j (reading_to d x t j) d (reading_to_most d x t j))

pub reading_most : (x : Input) (t i : ℕ) → reading x t i ≤ equation_count x.formula
unfolding reading
reading_most x t i = reading_to_most (equation_count x.formula) x t i

pub least_bit_most : (o : Operator) → least_bit o ≤ 1
unfolding least_bit
least_bit_most least = omega arith
least_bit_most greatest = omega arith

module _ (m : ℕ) (x : Input) (good : GoodFormula m x.formula) where
  pub reading_limit : (t i : ℕ) → reading x t i ≤ 1_024
  reading_limit t i = omega (arith, reading_most x t i, count_limit m x.formula good)

  pub depth_limit : (i : ℕ) → depth x i ≤ 1_024
  unfolding depth
  depth_limit i = reading_limit i i

  pub by_depth_limit : (i : ℕ) → by_depth x i ≤ 1_025
  unfolding by_depth
  by_depth_limit i = omega (arith, depth_limit i, least_bit_most (equation_of x.formula i).operator)

  pub by_depth_fits : (i : ℕ) → by_depth x i < 4_294_967_296
  by_depth_fits i = omega (arith, by_depth_limit i)

  -- ---- any depth that reaches the last equation gives the same reading

  pub reading-depth : (d e t i : ℕ) → i < equation_count x.formula → equation_count x.formula - i ≤ d → equation_count x.formula - i ≤ e
      → reading_to d x t i ≡ reading_to e x t i
  unfolding reading_to
  reading-depth zero e t i h a b = absurd (omega arith)
  reading-depth (suc d) zero t i h a b = absurd (omega arith)
  reading-depth (suc d) (suc e) t i h a b =
      largest_same (λ j. contribution x.formula t i j (reading_to d x t j)) (λ j. contribution x.formula t i j (reading_to e x t j))
      (references (body_tree x (equation_of x.formula i)))
      (λ j r. contribution_same x.formula t i j (reading_to d x t j) (reading_to e x t j)
      (λ l. reading-depth d e t j (body_references_below m x good j i h r) (omega arith) (omega arith)))

  -- to read an equation, take the largest of what the references in its body count
  pub reading_equation : (t i : ℕ) → i < equation_count x.formula → ReadingEquation x t i
  unfolding reading reading_to
  reading_equation t i h = reading-depth (equation_count x.formula) (suc (equation_count x.formula)) t i h (omega arith) (omega arith)
