-- What the functions of a walk ask of the tables lent to them, all of which are made before the walk. Assumes nothing:
-- this is a statement.
use Rattle.match_table.specs.declared.MatchRows.{MatchRows}
use Rattle.rules.specs.Words.{Input}
use Rattle.tables.specs.Good.{GoodInput}
use Rattle.compiled.specs.declared.Compiled.{Compiled}
use Rattle.compiled.specs.Tables.{kinds_in, lefts_in, rights_in, classes_in, samples_in}
use Rattle.labels.specs.Classes.{Classes}
use Rattle.match_table.specs.Rows.{MatchTable}
use Rattle.transitions.specs.Samples.{Samples}
use Rattle.item_table.specs.Entries.{ItemTable}

pub record Tables (x : Input) (compiled : Compiled) (matched : MatchRows) : Type 0 where
  pub input : GoodInput x
  pub multisets : Classes x.labels (classes_in compiled)
  pub firsts : Samples x.system (samples_in compiled)
  pub answers : MatchTable x.labels x.actions matched
  pub items : ItemTable x (kinds_in compiled) (lefts_in compiled) (rights_in compiled)
