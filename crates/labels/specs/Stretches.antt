-- Label numbers never fall, so the actions of a label stand side by side: in a stretch of places. Assumes nothing:
-- these are definitions.
use Rattle.std.specs.Prelude.{◌≡◌, List, ℕ, ◌+◌, ◌≤◌, ◌<◌, eqb, length}
use Rattle.rules.specs.Lists.{occurrences}
use Rattle.rules.specs.Words.{most_actions}
use Rattle.rules.specs.Labels.{action_count, label_at, times}

-- the label numbers below l stand before place s, and the others from s on
pub record Starts (ls : List ℕ) (l s : ℕ) : Type 0 where
  pub within : s ≤ action_count ls
  pub before : (p : ℕ) → p < s → label_at ls p < l
  pub after : (p : ℕ) → s ≤ p → p < action_count ls → l ≤ label_at ls p

-- label l is the stretch from s up to e
pub record Stretch (ls : List ℕ) (l s e : ℕ) : Type 0 where
  pub forward : s ≤ e
  pub starts : Starts ls l s
  pub ends : Starts ls (l + 1) e

-- ---- the actions of a label, as a list

-- each number occurs equally often in both
abbrev pub SameOccurrences : (own other : List ℕ) → Type 0
SameOccurrences own other = (a : ℕ) → occurrences eqb a own ≡ occurrences eqb a other

-- each number occurs as often as label l has it as an action
pub record ActionsOf (ls : List ℕ) (l : ℕ) (actions : List ℕ) : Type 0 where
  pub few : length actions ≤ most_actions
  pub times : (a : ℕ) → occurrences eqb a actions ≡ times ls l a
