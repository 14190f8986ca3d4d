-- `settle_decided` meets its contract: the answers decided before the loop choose the transitions that match. Assumes
-- nothing.
use Rattle.rules.specs.Actions.{action_tree}
use Rattle.modalities.proofs.Matches.{answered_matched}
use Rattle.modalities.proofs.settle_decided.Goals as goal

pub returns : goal.returns
returns c =
    let a = c.args in
    let tables = a.tables.now in
    let same = answered_matched tables.labels.now (action_tree tables.labels.now tables.actions.now a.modality.action) _
    a.modality.operand a.moves.labels.now a.moves.targets.now _ (rw a.moves.within.paired at c.decide_labels.ensures.answered) in
    rw (← same) c.settle_matched.ensures
