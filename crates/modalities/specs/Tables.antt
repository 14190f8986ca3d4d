-- What the step of a modality asks of the words and tables lent to it, all of which are made before the walk. Assumes
-- nothing: this is a statement.
use Rattle.std.specs.Prelude.{List, ℕ}
use Rattle.match_table.specs.declared.MatchRows.{MatchRows}
use Rattle.rules.specs.Labels.{label_count}
use Rattle.tables.specs.Good.{GoodLabels, GoodSystem, GoodActions}
use Rattle.compiled.specs.declared.Compiled.{Compiled}
use Rattle.compiled.specs.Tables.{classes_in, samples_in}
use Rattle.labels.specs.Classes.{Classes}
use Rattle.match_table.specs.Rows.{MatchTable}
use Rattle.transitions.specs.Samples.{Samples}

pub record Tables (ls ss acts : List ℕ) (compiled : Compiled) (matched : MatchRows) : Type 0 where
  pub labels : GoodLabels ls
  pub system : GoodSystem (label_count ls) ss
  pub actions : GoodActions (label_count ls) acts
  pub multisets : Classes ls (classes_in compiled)
  pub firsts : Samples ss (samples_in compiled)
  pub answers : MatchTable ls acts matched
