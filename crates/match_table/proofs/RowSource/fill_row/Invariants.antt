-- The answers for the labels before this one stand.
use Rattle.std.proofs.Common.{◌≡◌, ◌<◌, ℕ, length, get_or, false}
use Rattle.rules.specs.Labels.{multiset}
use Rattle.rules.specs.Actions.{action_tree, matches}
use Rattle.match_table.proofs.RowSource.fill_row.Given as goal

abbrev pub invariant-loop-label : goal.invariant-loop-label
invariant-loop-label l =
    (length l.row ≡ length l.fn.row)
    × ((i : ℕ) → i < l.label → get_or l.row i false ≡ matches (multiset l.self.words.labels.now i) (action_tree l.self.words.labels.now l.self.words.actions.now l.node))
