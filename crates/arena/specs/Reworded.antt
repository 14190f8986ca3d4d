-- Other words for the same labels and action formulas: when two tables say the same. Assumes nothing: these are
-- statements.
use Rattle.std.specs.Prelude.{◌≡◌, List, ◌↔◌, ℕ, ◌<◌}
use Rattle.rules.specs.Words.{Input, input_of}
use Rattle.rules.specs.Labels.{label_count, times, multiset}
use Rattle.rules.specs.Table.{size, kind, operand}
use Rattle.rules.specs.Depth.{Ranking}

-- the same system and formula, with other labels and action formulas
abbrev pub reworded : Input → (labels actions : List ℕ) → Input
reworded x ls acts = input_of ls x.system acts x.formula

-- a ranking gives the equations of two inputs the same ranks
abbrev pub SameRanks : Ranking → (x y : Input) → Type 0
SameRanks rank x y = (i : ℕ) → rank y i ≡ rank x i

-- every label has every action as often as in the other table: so where a label's actions are permuted
pub record SameCounts (ls ls' : List ℕ) : Type 0 where
  pub labels : label_count ls' ≡ label_count ls
  pub counts : (l a : ℕ) → l < label_count ls → times ls' l a ≡ times ls l a

-- two labels are the same multiset in the one table exactly if they are in the other: so where actions are renamed
pub record SameMultisets (ls ls' : List ℕ) : Type 0 where
  pub labels : label_count ls' ≡ label_count ls
  pub agree : (l m : ℕ) → l < label_count ls → m < label_count ls → ((a : ℕ) → times ls' l a ≡ times ls' m a) ↔ ((a : ℕ) → times ls l a ≡ times ls m a)

-- the action formulas differ at most in the labels that their multi-actions name, and those have the same multiset
pub record SameActions (ls ls' acts acts' : List ℕ) : Type 0 where
  pub sizes : size acts' ≡ size acts
  pub kinds : (v : ℕ) → v < size acts → kind acts' v ≡ kind acts v
  pub operands : (v : ℕ) → v < size acts → (¬ (kind acts v ≡ 2)) → operand acts' v ≡ operand acts v
  pub named : (v : ℕ) → v < size acts → kind acts v ≡ 2 → multiset ls' (operand acts' v) ≡ multiset ls (operand acts v)
