-- There are as many marks as `mark_count` says. Assumes nothing.
use lib.ListN.{length}
use Rattle.modalities.specs.Matched.{mark_count}
use Rattle.modalities.proofs.settle_matched.Given as goal

abbrev pub ghost-follow_all : goal.ghost-follow_all
ghost-follow_all a =
    mark_count a.room.vertices a.room.edges a.counters.edges a.moves.states (length a.moves.targets.now)
