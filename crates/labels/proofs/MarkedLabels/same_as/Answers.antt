-- Labels with different marks are not the same; of others the actions tell.
use mathlib.Core.Path.{sym, ◌∙◌}
use borrow.Author.Tests.{ne_eqb}
use Rattle.labels.proofs.Listed.{listed_same}
use Rattle.labels.proofs.MarkedLabels.same_as.Goals as goal

pub returns-then-self-lower : goal.returns-then-self-lower
returns-then-self-lower c =
    let x = c.args in
    listed_same x.self.labels.words.now x.lower x.self.label _ _ c.actions_of.ensures c.requires.own _ c.same_multiset.ensures

pub returns-else-self-lower : goal.returns-else-self-lower
returns-else-self-lower c =
    ne_eqb _ _ c.if-self-lower.false ∙ sym (c.args.self.marks_tell c.args.lower c.requires.lower_label c.if-self-lower.false)
