use Rattle.labels.proofs.Stretched.{actions_lent}
use Rattle.labels.proofs.Labels.actions_from.Goals as goal

pub returns : goal.returns
returns c =
    let x = c.args in
    actions_lent x.self.words.now x.label x.from _ _ c.action_count-first.ensures x.self.good c.stretch_end-end.ensures
