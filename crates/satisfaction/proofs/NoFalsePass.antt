-- No pass is false under the Rust's ranking. (The other way round fails: theorem `false_alarm`.) Assumes nothing.
use mathlib.Core.List.{List}
use Prim.Native.Nat.{ℕ}
use lib.ListN.{length}
use Rattle.rules.specs.declared.Room.{Room}
use Rattle.rules.specs.Words.{Input}
use Rattle.rules.specs.Depth.{by_depth}
use Rattle.rules.specs.Run.{run}
use Rattle.tables.proofs.Accepted.{accepted_input}
use Rattle.satisfaction.specs.Claims.{NoFalsePass}
use Rattle.satisfaction.proofs.VerdictMeans.{done_passed, verdict_means}
use Rattle.satisfaction.proofs.Depths.{by_depth_pass_sound}

-- For every input, room, limit and content of the slices: if the run by depth is Done and a verdict on its game is
-- accepted with its reasons, the initial state satisfies the formula
pub no_false_pass : (x : Input) (r : Room) (k : ℕ) (game work : List ℕ)
    → NoFalsePass x (run by_depth x r k game work).answer (run by_depth x r k game work).game
no_false_pass x r k game work d =
    let passed = done_passed by_depth x r k game work d in
    verdict_means by_depth x r k game work (by_depth_pass_sound x (accepted_input x r (length game) (length work) passed)) d
