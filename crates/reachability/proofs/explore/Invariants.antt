-- The targets of the first i vertices that are met are met too.
use Prim.Native.Nat.{◌-◌}
use mathlib.Core.Path.{◌≡◌}
use Rattle.rules.specs.Game.{vertex_count}
use Rattle.rules.specs.Restrict.{search_from, reached_vertices}
use Rattle.reachability.specs.Meets.{met_in, Met}
use Rattle.reachability.proofs.explore.Given as goal

abbrev pub invariant-loop-i : goal.invariant-loop-i
invariant-loop-i l =
    Met (met_in l.search) l.initial.search l.search
    × (reached_vertices l.game.words.now
    ≡ search_from l.game.words.now (vertex_count l.game.words.now - l.i) l.i (met_in l.search))

abbrev pub decreases-loop-i : goal.decreases-loop-i
decreases-loop-i l = vertex_count l.game.words.now - l.i
