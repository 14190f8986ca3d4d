-- A label whose mark is new is the lowest of its multiset.
use mathlib.Core.Path.{sym, ◌∙◌}
use native.Mathlib.Omega.{arith}
use Rattle.labels.proofs.Tables.{mark_alone}
use Rattle.labels.proofs.MarkedLabels.class.Goals as goal

pub returns-then-not-marked_before : goal.returns-then-not-marked_before
returns-then-not-marked_before c =
    let x = c.args in
    mark_alone x.self.labels.words.now x.self.marks.now x.self.label (omega (arith, x.self.in_bounds.1)) x.self.marks_tell
    (sym c.contains-marked_before.ensures.value ∙ c.if-not-marked_before.true)
