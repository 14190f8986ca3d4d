-- `wipe_list` meets its contract: none is left. Assumes nothing.
use mathlib.Core.Path.{subst}
use Rattle.bitmap.specs.Marks.{Only}
use Rattle.bitmap.proofs.Sets.{only_none}
use Rattle.pgsolver_scan.specs.Successors.{left_from}
use Rattle.pgsolver_check.proofs.wipe_list.Goals as goal

pub returns : goal.returns
returns c =
    only_none (subst (λ at. Only c.loop-successor.bits (left_from c.loop-successor.successor-iterator.text.now at))
    c.in-None.ensures.steps.0 c.loop-successor.invariant)
