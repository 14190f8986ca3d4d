-- Rankings under which the game's winner tells what the formula means: request #107, "an outer equation never below an
-- inner one, strictly above it when the operators differ". Assumes nothing: these are statements.
use Rattle.std.specs.Prelude.{◌≡◌, Bool, true, false, not, ◌&&◌, ◌||◌, List, ℕ, zero, suc, ◌+◌, ◌*◌, ◌-◌, ◌≤◌, ◌<◌, leb}
use Rattle.rules.specs.Lists.{from}
use Rattle.rules.specs.Words.{Input}
use Rattle.rules.specs.Table.{size, kind, formula_node}
use Rattle.rules.specs.Formula.{Operator, least, greatest, is_fixpoint, equation_count, equation_of, equation_number}
use Rattle.rules.specs.Depth.{Ranking, least_bit}
use Rattle.rules.specs.Refusal.{encloses}
use Rattle.meaning.specs.Quantifiers.{all}

-- ---- the conditions

unfoldable pub is_even : ℕ → Bool
is_even zero = true
is_even (suc n) = not (is_even n)

unfoldable pub is_greatest : Operator → Bool
is_greatest least = false
is_greatest greatest = true

-- "even for greatest and odd for least"
abbrev pub Parity : Ranking → Input → Type 0
Parity rank x =
    (i : ℕ) → i < equation_count x.formula → is_even (rank x i) ≡ is_greatest (equation_of x.formula i).operator

-- Equation j is nested in equation i: the fixpoint node of j stands in the tree of the fixpoint node of i, below it
-- (theorem `nested_exactly`: these are the fixpoints in the body of i). The placeholder has no node. Nothing refers to
-- it, so only its parity matters
pub record Nested (f : List ℕ) (i j : ℕ) : Type 0 where
  pub outer : ℕ
  pub inner : ℕ
  pub outer_fixpoint : is_fixpoint (formula_node f outer) ≡ true
  pub inner_fixpoint : is_fixpoint (formula_node f inner) ≡ true
  pub outer_number : equation_number f outer ≡ i
  pub inner_number : equation_number f inner ≡ j
  pub inside : encloses f outer inner ≡ true

-- right parity, and "not below any equation nested in it". Theorem `verdict_exactly`: then a verdict on the game exists
-- exactly if the formula holds
pub record Sound (rank : Ranking) (x : Input) : Type 0 where
  pub parity : Parity rank x
  pub above : (i j : ℕ) → Nested x.formula i j → rank x j ≤ rank x i

-- What is enough where a verdict is accepted (theorem `verdict_means`): right parity, and a least equation is above
-- each greatest one nested in it. Nothing is asked of what stands in a greatest equation, nor of a least one in a least
-- one. A sound ranking does this (theorem `sound_pass_sound`), and the Rust's, `by_depth`, does it for every input that
-- is not refused (theorem `by_depth_pass_sound`). Without the second condition it fails (theorem `wrong_order`)
pub record PassSound (rank : Ranking) (x : Input) : Type 0 where
  pub parity : Parity rank x
  pub below : (i j : ℕ) → Nested x.formula i j → (equation_of x.formula i).operator ≡ least → (equation_of x.formula j).operator ≡ greatest → rank x j < rank x i

-- All fixpoints of the formula are least, or all are greatest; there may be none. Then the Rust's ranking is sound
-- (theorem `one-kind_sound`)
abbrev pub OneKind : List ℕ → Type 0
OneKind f = (u v : ℕ) → is_fixpoint (formula_node f u) ≡ true → is_fixpoint (formula_node f v) ≡ true → kind f u ≡ kind f v

-- ---- the same as tests (theorems `parity_tested`, `sound_tested`)

unfoldable pub right_parity : Bool → Operator → Bool
right_parity even least = not even
right_parity even greatest = even

unfoldable pub is_right : Ranking → Input → Bool
is_right rank x =
    all (λ i. right_parity (is_even (rank x i)) (equation_of x.formula i).operator) (from 0 (equation_count x.formula))

unfoldable pub right_nodes : Ranking → Input → (outer inner : ℕ) → Bool
right_nodes rank x u v =
    not (is_fixpoint (formula_node x.formula u) && (is_fixpoint (formula_node x.formula v) && encloses x.formula u v))
    || leb (rank x (equation_number x.formula v)) (rank x (equation_number x.formula u))

unfoldable pub is_sound : Ranking → Input → Bool
is_sound rank x = is_right rank x && all (λ u. all (right_nodes rank x u) (from 0 (size x.formula))) (from 0 (size x.formula))

-- A ranking that is sound for every input (theorem `by_number_sound`): an inner equation has a larger number than an
-- outer one. (Request #107 asks for the least such ranking)
unfoldable pub by_number : Ranking
by_number x i = 2 * (equation_count x.formula - i) + least_bit (equation_of x.formula i).operator
