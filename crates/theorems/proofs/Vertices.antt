-- The vertices where a walk stands: how many they are, what each is, and how many edges they have. Assumes nothing.
use mathlib.Core.Path.{◌≡◌, refl, ap, ◌∙◌}
use mathlib.Core.Bool.{Bool, true, false, cond}
use mathlib.Core.List.{List, [], ◌∷◌, ◌++◌, map}
use Prim.Native.Nat.{ℕ, zero, suc, ◌+◌, ◌<◌, max}
use native.Mathlib.Omega.{arith}
use lib.ListN.{length, get_or, length-map}
use lib.Dec.{eqb}
use Rattle.rules.specs.Lists.{In, from, sum, has}
use Rattle.rules.specs.Words.{Input}
use Rattle.rules.specs.Depth.{Ranking}
use Rattle.rules.specs.Pairs.{Pair, initial_pair, targets}
use Rattle.rules.specs.Walk.{Stand}
use Rattle.rules.specs.Game.{Edge, Vertex, edge_count}
use Rattle.rules.specs.Vertices.{Ruled, waiting_vertex, totalised_by, totalised, settled_vertex, ruled_edge, ruled_vertex}
use Rattle.rules.specs.Vertices.{vertex_at, vertices_of}
use Rattle.lists.proofs.Members.{in_has, not_in}
use Rattle.lists.proofs.Equalities.{number_equality}
use Rattle.walks.specs.Sums.{sum_below, sum_settled}
use Rattle.lists.proofs.Ranges.{from-length, told_at, from_snoc}

sum-snoc : (xs : List ℕ) (x : ℕ) → sum (xs ++ (x ∷ [])) ≡ sum xs + x
unfolding sum
sum-snoc [] x = omega arith
sum-snoc (y ∷ xs) x = omega (arith, sum-snoc xs x)

map_snoc : {A B : Type 0} (f : A → B) (xs : List A) (x : A) → map f (xs ++ (x ∷ [])) ≡ map f xs ++ (f x ∷ [])
map_snoc f [] x = refl
map_snoc f (y ∷ xs) x = ap (λ l. f y ∷ l) (map_snoc f xs x)

-- a settled vertex has as many edges as its pair has targets, or the one added
pub settled-degree : (v : ℕ) (p : Pair) (r : Ruled) → length (settled_vertex p (totalised v r)).edges ≡ max 1 (length r.edges)
unfolding settled_vertex totalised totalised_by
settled-degree v p r = go r.edges refl
  where
    go : (es : List Edge) → r.edges ≡ es → length (totalised_by es v r).edges ≡ max 1 (length es)
    go [] e = refl
    go (d ∷ es) e = ap length e ∙ omega arith

-- how many edges settling a pair gives
abbrev pub edges_of : Input → Pair → ℕ
edges_of x p = max 1 (length (targets x p))

module _ (rank : Ranking) (x : Input) (st : Stand Pair) where
  abbrev at : ℕ → Vertex
  at = vertex_at rank x st

  pub length_vertices : length (vertices_of rank x st) ≡ length st.known
  unfolding vertices_of
  length_vertices = length-map (from 0 (length st.known)) at ∙ from-length 0 (length st.known)

  pub vertex-at : (v : ℕ) (d : Vertex) → v < length st.known → get_or (vertices_of rank x st) v d ≡ at v
  unfolding vertices_of
  vertex-at v d h = told_at at (length st.known) v d h

  -- the pair of a vertex, and what the rules give it
  abbrev pub pair_at : ℕ → Pair
  pair_at v = get_or st.known v (initial_pair x)

  abbrev pub ruled_at : ℕ → Ruled
  ruled_at v = ruled_vertex rank x st (pair_at v)

  pub vertex_waits : (v : ℕ) → In v st.waiting → at v ≡ waiting_vertex (pair_at v)
  unfolding vertex_at
  vertex_waits v m = rw (in_has number_equality v st.waiting m) refl

  pub vertex_settled : (v : ℕ) → (¬ In v st.waiting) → at v ≡ settled_vertex (pair_at v) (totalised v (ruled_at v))
  unfolding vertex_at
  vertex_settled v n = rw (not_in number_equality v st.waiting n) refl

  -- it shows its pair, waiting or settled
  pub vertex_pair : (v : ℕ) → ((at v).state ≡ (pair_at v).0) × ((at v).item ≡ (pair_at v).1)
  unfolding vertex_at waiting_vertex settled_vertex
  vertex_pair v = go (has eqb v st.waiting) refl
    where
      go : (b : Bool) → has eqb v st.waiting ≡ b → ((at v).state ≡ (pair_at v).0) × ((at v).item ≡ (pair_at v).1)
      go true e = rw e (refl, refl)
      go false e = rw e (refl, refl)

  degree_at : (v : ℕ) → length (at v).edges ≡ cond (has eqb v st.waiting) 0 (edges_of x (pair_at v))
  unfolding vertex_at waiting_vertex ruled_vertex
  degree_at v = go (has eqb v st.waiting) refl
    where
      go : (b : Bool) → has eqb v st.waiting ≡ b → length (at v).edges ≡ cond b 0 (edges_of x (pair_at v))
      go true e = rw e refl
      go false e =
          rw e
          (settled-degree v (pair_at v) (ruled_at v)
          ∙ ap (max 1) (length-map (targets x (pair_at v)) (ruled_edge x st (pair_at v))))

  count-below : (n : ℕ) → edge_count (map at (from 0 n)) ≡ sum_below (edges_of x) (initial_pair x) st n
  unfolding edge_count sum_below from sum
  count-below zero = refl
  count-below (suc n) =
      let e : 0 + n ≡ n = omega arith in
      let f : Vertex → ℕ = λ v. length v.edges in
      ap (λ l. sum (map f (map at l))) (from_snoc 0 n)
      ∙ ap (λ l. sum (map f l)) (map_snoc at (from 0 n) (0 + n))
      ∙ ap sum (map_snoc f (map at (from 0 n)) (at (0 + n)))
      ∙ sum-snoc (map f (map at (from 0 n))) (f (at (0 + n)))
      ∙ omega (arith, count-below n, degree_at n, ap (λ k. f (at k)) e)

  -- the edges of all vertices
  pub count-edges : edge_count (vertices_of rank x st) ≡ sum_settled (edges_of x) (initial_pair x) st
  unfolding vertices_of sum_settled
  count-edges = count-below (length st.known)
