-- A finished game, handed over, passes the check of games; a cut one is refused 53 at the owner of its first waiting
-- vertex. Assumes nothing.
use mathlib.Core.Path.{◌≡◌, sym, ap, ◌∙◌, subst}
use mathlib.Core.Bool.{false}
use mathlib.Core.List.{List, [], ◌∷◌}
use mathlib.Core.Logic.{◌⊎◌, inl, inr, ⊎_elim}
use Prim.Native.Nat.{ℕ, ◌+◌, ◌≤◌, ◌<◌}
use native.Mathlib.Omega.{arith}
use lib.ListN.{length, get_or}
use Rattle.player.specs.Player.{player_index}
use Rattle.std.specs.declared.result.Result.TheVariants.{Ok}
use Rattle.rules.specs.Answers.{fault}
use Rattle.rules.specs.Lists.{In, position}
use Rattle.rules.specs.declared.Room.{Room}
use Rattle.rules.specs.Words.{Input}
use Rattle.rules.specs.Depth.{Ranking}
use Rattle.rules.specs.Pairs.{Pair, same_pair, initial_pair, owner, targets}
use Rattle.rules.specs.Walk.{Stand}
use Rattle.rules.specs.Game.{Edge, Vertex, edge_to, blank_vertex, edge_count, game_of}
use Rattle.rules.specs.GameRefusal.{game_refusal}
use Rattle.rules.specs.Refusal.{refusal}
use Rattle.rules.specs.Run.{walk_of, exceeds}
use Rattle.rules.specs.Vertices.{Ruled, waiting_vertex, totalised_by, totalised, settled_vertex, ruled_edge, ruled_vertex, vertices_of}
use Rattle.tables.specs.Good.{GoodInput}
use Rattle.lists.proofs.Members.{in_map, in_or}
use Rattle.lists.proofs.Equalities.{number_equality}
use Rattle.tables.proofs.Accepted.{accepted_words, accepted_room}
use Rattle.games.proofs.Handed.{owned_passes, first_unowned}
use Rattle.theorems.proofs.Vertices.{length_vertices, vertex-at, vertex_waits, vertex_settled, pair_at, ruled_at}
use Rattle.theorems.proofs.Read.{player_below, settled-owner}
use Rattle.theorems.proofs.Runs.{fits}
use Rattle.theorems.proofs.Demand3.{facts}

settled_edges : (v n : ℕ) (p : Pair) (r : Ruled) → v < n → ((e : Edge) → In e r.edges → e.target < n)
    → (e : Edge) → In e (settled_vertex p (totalised v r)).edges → e.target < n
unfolding settled_vertex totalised totalised_by
settled_edges v n p r h f e m = go r.edges m
  where
    go : (es : List Edge) → In e (totalised_by es v r).edges → e.target < n
    go [] i =
        ⊎_elim (λ (q : e ≡ edge_to v). let t : e.target ≡ v = ap (λ (y : Edge). y.target) q in omega arith)
        (λ z. absurd z) i
    go (x ∷ es) i = f e i

module _ (rank : Ranking) (x : Input) (r : Room) (k : ℕ) (game work : List ℕ) (passed : refusal x r (length game) (length work) ≡ Ok tt) where
  abbrev st : Stand Pair
  st = walk_of x k

  abbrev vs : List Vertex
  vs = vertices_of rank x st

  good : GoodInput x
  good = accepted_words x r (length game) (length work) passed

  many : length vs ≡ length st.known
  many = length_vertices rank x st

  waits_at : (v : ℕ) → v < length st.known → In v st.waiting → get_or vs v blank_vertex ≡ waiting_vertex (pair_at rank x st v)
  waits_at v h m = vertex-at rank x st v blank_vertex h ∙ vertex_waits rank x st v m

  abbrev ruled : ℕ → Ruled
  ruled = ruled_at rank x st

  settled_at : (v : ℕ) → v < length st.known → (¬ In v st.waiting)
      → get_or vs v blank_vertex ≡ settled_vertex (pair_at rank x st v) (totalised v (ruled v))
  settled_at v h n = vertex-at rank x st v blank_vertex h ∙ vertex_settled rank x st v n

  edges_inside : (v : ℕ) → v < length vs → (e : Edge) → In e (get_or vs v blank_vertex).edges → e.target < length vs
  unfolding waiting_vertex walk_of ruled_vertex ruled_edge
  edges_inside v l e m = go (in_or number_equality v st.waiting)
    where
      h : v < length st.known
      h = omega (arith, many)

      p : Pair
      p = get_or st.known v (initial_pair x)

      go : In v st.waiting ⊎ (¬ In v st.waiting) → e.target < length vs
      go (inl w) = absurd (subst (λ (y : Vertex). In e y.edges) (waits_at v h w) m)
      go (inr n) =
          settled_edges v (length vs) p (ruled v) l
          (λ f i. let (q, j, z) = in_map (ruled_edge x st p) f (targets x p) i in
          let b = ((facts x good k).edges v (h, n) q j).0 in
          let t : f.target ≡ position same_pair q st.known = ap (λ (y : Edge). y.target) z in omega (arith, many))
          e (subst (λ (y : Vertex). In e y.edges) (settled_at v h n) m)

  owner_at : (v : ℕ) → v < length vs → (¬ In v st.waiting) → (get_or vs v blank_vertex).owner < 2
  unfolding ruled_vertex
  owner_at v l n =
      let p : Pair = get_or st.known v (initial_pair x) in
      let e : (get_or vs v blank_vertex).owner ≡ player_index (owner x p)
      = ap (λ (y : Vertex). y.owner) (settled_at v (omega (arith, many)) n) ∙ settled-owner v p (ruled v) in
      subst (λ (o : ℕ). o < 2) (sym e) (player_below (owner x p))

  module _ (fit : exceeds r vs ≡ false) where
    some : 1 ≤ length vs
    unfolding walk_of
    some = let h = (facts x good k).first.0 in omega (arith, many)

    few : length vs ≤ 1_048_576
    few = let (a, b) = fits rank x r k game work fit in let (p, q, s, t) = accepted_room x r (length game) (length work) passed in omega arith

    light : edge_count vs ≤ 4_194_304
    light = let (a, b) = fits rank x r k game work fit in let (p, q, s, t) = accepted_room x r (length game) (length work) passed in omega arith

    -- no vertex waits: the run is done
    pub done_passes : st.waiting ≡ [] → game_refusal (game_of 0 vs) ≡ Ok tt
    done_passes e = owned_passes vs blank_vertex some few light edges_inside (λ v l. owner_at v l (λ m. subst (In v) e m))

    -- vertex u is the first that waits: the run is cut
    pub cut_refused : (u : ℕ) → u < length st.known → In u st.waiting → ((v : ℕ) → v < u → ¬ In v st.waiting)
        → game_refusal (game_of 0 vs) ≡ fault 53 (3 + u)
    unfolding waiting_vertex
    cut_refused u h w before =
        first_unowned vs blank_vertex some few light edges_inside u (omega (arith, many)) (ap (λ (y : Vertex). y.owner) (waits_at u h w))
        (λ v l. owner_at v (omega (arith, many)) (before v l))
