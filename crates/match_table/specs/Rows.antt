-- The table of matching labels, which a run makes once: it says for each node of the action formulas which row it has,
-- if it has one, and has the rows, an answer for each label. Which nodes have a row is a matter of speed, so nothing is
-- said of it. Assumes nothing: these are definitions.
use Rattle.std.specs.Prelude.{◌≡◌, Bool, false, None, Some, List, ℕ, ◌+◌, ◌*◌, ◌≤◌, ◌<◌, length, get_or}
use Rattle.rules.specs.Labels.{label_count, multiset}
use Rattle.rules.specs.Table.{size}
use Rattle.rules.specs.Actions.{action_tree, matches}
use Rattle.match_table.specs.declared.MatchRows.{MatchRows}

-- how many answers the rows have in all
abbrev pub row_answers : ℕ
row_answers = 16_384

-- where row r begins; the first row is row 0
abbrev pub row_start : List ℕ → ℕ → ℕ
row_start ls r = r * label_count ls

-- from `start` on there is for each label in order whether the action formula at node a matches it
pub record RowAt (ls acts : List ℕ) (rows : List Bool) (a start : ℕ) : Type 0 where
  pub within : start + label_count ls ≤ row_answers
  pub answer : (l : ℕ) → l < label_count ls
      → get_or rows (start + l) false ≡ matches (multiset ls l) (action_tree ls acts a)

-- for each label in order whether the action formula at node a matches it
pub record Row (ls acts : List ℕ) (a : ℕ) (row : List Bool) : Type 0 where
  pub sized : length row ≡ label_count ls
  pub answer : (l : ℕ) → l < label_count ls → get_or row l false ≡ matches (multiset ls l) (action_tree ls acts a)

-- node a has row r
abbrev pub HasRow : MatchRows → (a r : ℕ) → Type 0
HasRow m a r = get_or m.numbers a None ≡ Some r

-- the row of a node that has one holds the node's answers
pub record MatchTable (ls acts : List ℕ) (m : MatchRows) : Type 0 where
  pub row : (a r : ℕ) → a < size acts → HasRow m a r → RowAt ls acts m.rows a (row_start ls r)

-- ---- on the way to the table

-- no node has a row
abbrev pub NoRows : MatchRows → Type 0
NoRows m = (a : ℕ) → a < 1_024 → get_or m.numbers a None ≡ None

-- the table is right, and only the first rows are given
pub record FirstRows (ls acts : List ℕ) (m : MatchRows) : Type 0 where
  pub table : MatchTable ls acts m
  pub given : (a r : ℕ) → a < size acts → HasRow m a r → r < m.given
