-- `sample_transitions` meets its contract: the sum is the first transition of state s, and the samples of the states
-- before it stand. Assumes nothing.
use mathlib.Core.Path.{◌≡◌}
use Prim.Native.Nat.{ℕ, ◌*◌, ◌<◌}
use Rattle.rules.specs.Lists.{word}
use Rattle.rules.specs.System.{first_transition}
use Rattle.transitions.specs.Samples.{stride}
use Rattle.transitions.proofs.sample_transitions.Given as goal

abbrev pub invariant-loop-s : goal.invariant-loop-s
invariant-loop-s l =
    (l.sum ≡ first_transition l.system l.s)
    × ((i : ℕ) → i * stride < l.s → word l.samples i ≡ first_transition l.system (i * stride))
