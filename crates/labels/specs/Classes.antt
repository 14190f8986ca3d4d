-- The table of the labels' multisets, which a run makes once. Assumes nothing: these are statements.
use Rattle.std.specs.Prelude.{◌≡◌, List, ℕ, ◌≤◌, ◌<◌, length}
use Rattle.rules.specs.Lists.{word}
use Rattle.rules.specs.Labels.{label_count, multiset}

-- entry l of the table is the multiset of label l
pub record Classes (ls classes : List ℕ) : Type 0 where
  pub room : label_count ls ≤ length classes
  pub entry : (l : ℕ) → l < label_count ls → word classes l ≡ multiset ls l
