-- `follow_all` meets its contract: between its turns the transitions before this one have given their targets, and its
-- own target is read. Assumes nothing.
use mathlib.Core.Path.{◌≡◌}
use Prim.Native.Nat.{◌<◌}
use lib.ListN.{length}
use Rattle.rules.specs.Lists.{word}
use Rattle.modalities.proofs.Gathering.{Following}
use Rattle.modalities.proofs.follow_all.Given as goal

abbrev pub invariant-loop-index : goal.invariant-loop-index
invariant-loop-index g l =
    Following l.answers l.moves.labels.now l.moves.targets.now l.room g.marks l.operand l.initial.work l.initial.so_far
    l.work l.so_far l.index
    × (l.index < length l.moves.targets.now → l.ahead ≡ word l.moves.targets.now l.index)

abbrev pub ghost-follow : goal.ghost-follow
ghost-follow g a = g.marks
