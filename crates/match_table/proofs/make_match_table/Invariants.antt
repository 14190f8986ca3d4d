-- Between its turns the first rows are given.
use Rattle.match_table.specs.Rows.{FirstRows}
use Rattle.match_table.proofs.make_match_table.Given as goal

abbrev pub invariant-loop-item : goal.invariant-loop-item
invariant-loop-item l = FirstRows l.words.labels.now l.words.actions.now l.matched
