-- What holds of the transitions of a state, however they are read. Assumes nothing: these are definitions.
use Rattle.std.specs.Prelude.{◌≡◌, List, ℕ, ◌≤◌, ◌<◌, length}
use Rattle.rules.specs.Lists.{word}
use Rattle.rules.specs.Words.{most_states, most_transitions}

-- each word is below n
abbrev pub Below : ℕ → List ℕ → Type 0
Below n ws = (i : ℕ) → i < length ws → word ws i < n

-- each label has a target beside it, which is one of so many states
pub record Within (labels targets : List ℕ) (states : ℕ) : Type 0 where
  pub few_states : states ≤ most_states
  pub few_moves : length targets ≤ most_transitions
  pub paired : length labels ≡ length targets
  pub reach : Below states targets
