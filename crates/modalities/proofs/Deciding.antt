-- The answers for the labels of a state's transitions: a row of the table of matching labels has them, and the loop
-- that decides them writes them. Assumes nothing.
use mathlib.Core.Path.{◌≡◌}
use mathlib.Core.Bool.{Bool}
use mathlib.Core.List.{List}
use Prim.Native.Nat.{ℕ}
use lib.ListN.{length}
use Rattle.rules.specs.Lists.{word}
use Rattle.rules.specs.Labels.{label_count}
use Rattle.rules.specs.Actions.{Action, action_tree}
use Rattle.match_table.specs.Rows.{Row}
use Rattle.modalities.specs.Within.{Below}
use Rattle.modalities.specs.Matched.{answer_count, Answered}

-- a row answers for each label
module _ (ls acts : List ℕ) (answers : List Bool) (node : ℕ) (labels : List ℕ) (below : Below (label_count ls) labels)
    (r : Row ls acts node answers) where
  pub row_answers : Answered ls (action_tree ls acts node) answers labels (length labels)
  row_answers i h = r.answer (word labels i) (below i h)

-- the first labels are decided
pub record Deciding (ls : List ℕ) (a : Action) (answers : List Bool) (labels : List ℕ) (n : ℕ) : Type 0 where
  pub sized : length answers ≡ answer_count
  pub answered : Answered ls a answers labels n
