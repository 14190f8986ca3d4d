-- `decide_labels` meets its contract: between its turns the labels before this one are decided. Assumes nothing.
use Rattle.rules.specs.Actions.{action_tree}
use Rattle.modalities.proofs.Deciding.{Deciding}
use Rattle.modalities.proofs.decide_labels.Given as goal

abbrev pub invariant-loop-label : goal.invariant-loop-label
invariant-loop-label l =
    Deciding l.tables.labels.now (action_tree l.tables.labels.now l.tables.actions.now l.node) l.answers
    l.moves.labels.now l.label-index
