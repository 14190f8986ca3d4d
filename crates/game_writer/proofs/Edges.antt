-- How many edges the shown vertices have, whatever the item table says. Assumes nothing.
use mathlib.Core.Path.{◌≡◌, refl, sym, ap, ◌∙◌}
use mathlib.Core.List.{List, [], ◌∷◌, map}
use Prim.Native.Nat.{ℕ, zero, suc, ◌+◌, ◌-◌, ◌≤◌, ◌<◌}
use native.Mathlib.Numerals.{add-one}
use native.Mathlib.Omega.{arith}
use Rattle.rules.specs.Lists.{from, sum}
use Rattle.rules.specs.Game.{Vertex, edge_count}
use Rattle.settling.specs.Stand.{degree_in, degrees_in}
use Rattle.game_writer.specs.Shown.{shown_vertex, shown_vertices}
use Rattle.game_writer.proofs.Vertices.{edges_length}
use Rattle.game_writer.proofs.Rows.{from_all, from_more, from_none}

below_none : (w : List ℕ) (v : ℕ) → 0 ≡ degrees_in w v 0
unfolding degrees_in
below_none w v = refl

below_more : (w : List ℕ) (v u b degree : ℕ) → b ≡ degrees_in w v u → degree ≡ degree_in w v u
    → b + degree ≡ degrees_in w v (u + 1)
unfolding degrees_in
below_more w v u b degree p q = rw (add-one u, p, q) refl

module _ (kinds priorities w : List ℕ) (v e n : ℕ) where
  -- the vertices from u up to n
  later : ℕ → List Vertex
  later u = map (shown_vertex kinds priorities w v e) (from u (n - u))

  all_later : shown_vertices kinds priorities w v e n ≡ later 0
  unfolding shown_vertices later
  all_later = ap (map (shown_vertex kinds priorities w v e)) (sym (from_all n))

  later_more : (u : ℕ) → u < n → later u ≡ shown_vertex kinds priorities w v e u ∷ later (u + 1)
  unfolding later
  later_more u h = ap (map (shown_vertex kinds priorities w v e)) (from_more n u h)

  later_none : (u : ℕ) → n ≤ u → later u ≡ []
  unfolding later
  later_none u h = ap (map (shown_vertex kinds priorities w v e)) (from_none n u h)

  count-more : (u : ℕ) → u < n → edge_count (later u) ≡ degree_in w v u + edge_count (later (u + 1))
  unfolding edge_count sum shown_vertex
  count-more u h =
      ap edge_count (later_more u h) ∙ ap (λ (k : ℕ). k + edge_count (later (u + 1))) (edges_length w v e u)

  count_none : (u : ℕ) → n ≤ u → edge_count (later u) ≡ 0
  unfolding edge_count sum
  count_none u h = ap edge_count (later_none u h)

  -- ---- the degrees

  -- those below u and those of the later vertices are all
  counted : (k u : ℕ) → u + k ≡ n → degrees_in w v u + edge_count (later u) ≡ degrees_in w v n
  counted zero u q = let z : u ≡ n = omega arith in omega (arith, count_none u (omega arith), ap (degrees_in w v) z)
  counted (suc k) u q =
      let one = below_more w v u (degrees_in w v u) (degree_in w v u) refl refl in
      omega (arith, counted k (u + 1) (omega arith), count-more u (omega arith), one)

  pub total : edge_count (shown_vertices kinds priorities w v e n) ≡ degrees_in w v n
  total = ap edge_count all_later ∙ omega (arith, counted n 0 (omega arith), below_none w v)
