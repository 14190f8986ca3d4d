use mathlib.Core.Path.{sym, ◌∙◌}
use Rattle.tables.proofs.Accepted.{accepted_words}
use Rattle.inputs.proofs.accept.Goals as goal

pub invariant_of-result : goal.invariant_of-result
invariant_of-result c = record { good = accepted_words _ c.args.lent.room c.args.lent.game c.args.lent.work (sym c.check.ensures ∙ c.in_ok-check.was) }
