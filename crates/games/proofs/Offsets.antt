-- Offsets that do not fall and end at the edge count are never above it. Assumes nothing.
use mathlib.Core.Path.{◌≡◌, ap}
use mathlib.Core.List.{List}
use Prim.Native.Nat.{ℕ, zero, suc, ◌+◌, ◌-◌, ◌≤◌, ◌<◌}
use native.Mathlib.Omega.{arith}
use Rattle.rules.specs.Game.{vertex_count, edges_in, offset_in}

module _ (g : List ℕ) (rises : (v : ℕ) → v < vertex_count g → offset_in g v ≤ offset_in g (suc v)) (ends : offset_in g (vertex_count g) ≡ edges_in g) where
  -- d offsets from v on are the last ones
  later : (d v : ℕ) → v + d ≡ vertex_count g → offset_in g v ≤ edges_in g
  later zero v e = let z : v ≡ vertex_count g = omega arith in omega (arith, ends, ap (λ (u : ℕ). offset_in g u) z)
  later (suc d) v e = omega (arith, rises v (omega arith), later d (suc v) (omega arith))

  pub offset_within : (v : ℕ) → v ≤ vertex_count g → offset_in g v ≤ edges_in g
  offset_within v h = later (vertex_count g - v) v (omega arith)
