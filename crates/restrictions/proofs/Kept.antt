-- The new numbers, the map, and the vertices that are written: how many, which, and that they have no more edges than
-- the game. Assumes nothing.
use mathlib.Core.Path.{◌≡◌, refl, sym, ap, ap₂, ◌∙◌, subst}
use mathlib.Core.List.{List, [], ◌∷◌, map, map-map}
use mathlib.Core.Logic.{inl, inr}
use Prim.Native.Nat.{ℕ, zero, suc, ◌+◌, ◌≤◌, ◌<◌}
use native.Mathlib.Omega.{arith}
use lib.ListN.{length, get_or, length-map}
use lib.Dec.{eqb}
use Rattle.rules.specs.Lists.{word, In, Distinct, from, sum, position}
use Rattle.rules.specs.Game.{Edge, Vertex, edge_count, game_of, vertex_count, edges_in, offset_in, targets_in, edges_at}
use Rattle.rules.specs.Restrict.{new_number, kept_edge, kept_vertex, kept_vertices, vertex_map}
use Rattle.lists.proofs.Members.{in_has, not_in, map_at, position_below}
use Rattle.lists.proofs.Equalities.{number_equality}
use Rattle.lists.proofs.Ranges.{from-length, from_in, in_from, from_at}
use Rattle.games.proofs.Reading.{length_read}
use Rattle.restrictions.specs.GoodGame.{GoodGame}
use Rattle.restrictions.proofs.Accepted.{degree, edges_column, edges_many}
use Rattle.restrictions.proofs.Weights.{sum_within}

pub from_distinct : (i n : ℕ) → Distinct (from i n)
unfolding from
from_distinct i zero = tt
from_distinct i (suc n) = (λ m. let l = (in_from i (suc i) n m).0 in omega arith, from_distinct (suc i) n)

-- ---- new numbers

module _ (met : List ℕ) where
  pub number_in : (v : ℕ) → In v met → new_number met v ≡ position eqb v met
  unfolding new_number
  number_in v m = rw (in_has number_equality v met m)

  pub number-out : (v : ℕ) → (¬ In v met) → new_number met v ≡ 4_294_967_295
  unfolding new_number
  number-out v n = rw (not_in number_equality v met n)

  pub number_below : (v : ℕ) → In v met → new_number met v < length met
  number_below v m = subst (λ (n : ℕ). n < length met) (sym (number_in v m)) (position_below number_equality v met m)

-- ---- the map

pub map-length : (g met : List ℕ) → length (vertex_map g met) ≡ vertex_count g
unfolding vertex_map
map-length g met = length-map (from 0 (vertex_count g)) (new_number met) ∙ from-length 0 (vertex_count g)

pub map-word : (g met : List ℕ) (v : ℕ) → v < vertex_count g → word (vertex_map g met) v ≡ new_number met v
unfolding vertex_map
map-word g met v h =
    let e : 0 + v ≡ v = omega arith in
    map_at (new_number met) (from 0 (vertex_count g)) v 0 0 (omega (arith, from-length 0 (vertex_count g)))
    ∙ ap (new_number met) (from_at 0 (vertex_count g) v 0 h ∙ e)

-- ---- the vertices that are written

pub kept_length : (g met : List ℕ) → length (kept_vertices g met) ≡ length met
unfolding kept_vertices
kept_length g met = length-map met (kept_vertex g met)

pub kept_at : (g met : List ℕ) (u : ℕ) (d : Vertex) → u < length met → get_or (kept_vertices g met) u d ≡ kept_vertex g met (get_or met u 0)
unfolding kept_vertices
kept_at g met u d h = map_at (kept_vertex g met) met u 0 d h

-- ---- their edges

module _ (g : List ℕ) (good : GoodGame g) where
  -- the targets of the kept edges of vertex v
  pub kept_targets : (met : List ℕ) (v : ℕ) → v < vertex_count g
      → map (λ (e : Edge). e.target) (map (kept_edge met) (edges_at g v)) ≡ map (new_number met) (targets_in g v)
  unfolding kept_edge
  kept_targets met v h =
      map-map (λ (e : Edge). e.target) (kept_edge met) (edges_at g v)
      ∙ sym (map-map (new_number met) (λ (e : Edge). e.target) (edges_at g v))
      ∙ ap (map (new_number met)) (edges_column g good 0 v (omega arith) h)

  degrees : (met xs : List ℕ) → ((v : ℕ) → In v xs → v < vertex_count g)
      → sum (map (λ v. length v.edges) (map (kept_vertex g met) xs)) ≡ sum (map (λ v. length (targets_in g v)) xs)
  unfolding kept_vertex sum
  degrees met [] b = refl
  degrees met (x ∷ xs) b =
      ap₂ (λ (m n : ℕ). m + n) (length-map (edges_at g x) (kept_edge met) ∙ edges_many g good 0 x (omega arith) (b x (inl refl)))
      (degrees met xs (λ v m. b v (inr m)))

  -- the edges of the n vertices from v on
  degrees_from : (n v : ℕ) → v + n ≤ vertex_count g → offset_in g v + sum (map (λ u. length (targets_in g u)) (from v n)) ≡ offset_in g (v + n)
  unfolding from sum
  degrees_from zero v h = let e : v + 0 ≡ v = omega arith in rw e (omega arith)
  degrees_from (suc n) v h =
      let e : v + suc n ≡ suc v + n = omega arith in
      rw e (omega (arith, degree g good v (omega arith), degrees_from n (suc v) (omega arith)))

  -- distinct vertices have no more edges than the game
  pub edges_fit : (met : List ℕ) → Distinct met → ((v : ℕ) → In v met → v < vertex_count g) → edge_count (kept_vertices g met) ≤ edges_in g
  unfolding edge_count kept_vertices
  edges_fit met d b =
      let e : 0 + vertex_count g ≡ vertex_count g = omega arith in
      omega (
        arith,
        degrees met met b,
        sum_within (λ v. length (targets_in g v)) met (from 0 (vertex_count g)) d (λ v m. let l = b v m in from_in v 0 (vertex_count g) (omega arith) (omega arith)),
        degrees_from (vertex_count g) 0 (omega arith),
        ap (λ (n : ℕ). offset_in g n) e,
        good.ends,
      )

  -- all of them have all edges
  pub edges_kept : (met : List ℕ) → Distinct met → ((v : ℕ) → In v met → v < vertex_count g) → ((v : ℕ) → v < vertex_count g → In v met) → edge_count (kept_vertices g met) ≡ edges_in g
  unfolding edge_count kept_vertices
  edges_kept met d b all =
      let e : 0 + vertex_count g ≡ vertex_count g = omega arith in
      omega (
        arith,
        edges_fit met d b,
        degrees met met b,
        sum_within (λ v. length (targets_in g v)) (from 0 (vertex_count g)) met (from_distinct 0 (vertex_count g))
            (λ v m. let l = (in_from v 0 (vertex_count g) m).1 in all v (omega arith)),
        degrees_from (vertex_count g) 0 (omega arith),
        ap (λ (n : ℕ). offset_in g n) e,
        good.begins,
        good.ends,
      )

  -- and so they fit where the game stood
  pub words_fit : (met : List ℕ) → Distinct met → ((v : ℕ) → In v met → v < vertex_count g) → length met ≤ vertex_count g
      → length (game_of 0 (kept_vertices g met)) ≤ length g
  words_fit met d b few =
      omega (arith, length_read 0 (kept_vertices g met), kept_length g met, edges_fit met d b, good.sized)
