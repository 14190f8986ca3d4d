-- Priorities: an equation's by the ranking, 0 elsewhere. That owners and targets are the same for two rankings needs no
-- proof: `owner x`, `targets x` and `item_at x` take no ranking. Assumes nothing.
use mathlib.Core.Path.{◌≡◌}
use Prim.Native.Nat.{◌≤◌, ◌<◌}
use borrow.Author.Tests.{lt-ltb, le-ltb}
use Rattle.rules.specs.Words.{Input}
use Rattle.rules.specs.Formula.{equation_count}
use Rattle.rules.specs.Depth.{Ranking}
use Rattle.rules.specs.Pairs.{Pair, priority}

module _ (x : Input) where
  pub equation_priority : (rank : Ranking) (p : Pair) → p.1 < equation_count x.formula → priority rank x p ≡ rank x p.1
  unfolding priority
  equation_priority rank p h = rw (lt-ltb p.1 (equation_count x.formula) h)

  pub other_priority : (rank : Ranking) (p : Pair) → equation_count x.formula ≤ p.1 → priority rank x p ≡ 0
  unfolding priority
  other_priority rank p h = rw (le-ltb p.1 (equation_count x.formula) h)
