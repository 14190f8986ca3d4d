-- Restricting twice: the result of a restriction, without the words past its end, is accepted, and its restriction
-- gives the same words and sends each vertex to itself. Assumes nothing.
use mathlib.Core.Path.{◌≡◌, sym, ap, ◌∙◌, subst}
use mathlib.Core.List.{List, ◌++◌, append-nil}
use Prim.Native.Nat.{ℕ, ◌-◌, ◌<◌}
use native.Mathlib.Omega.{arith}
use lib.ListN.{length, get_or, take, replicate}
use lib.Seq.{take-append_seam}
use Rattle.rules.specs.declared.Answer.TheVariants.{Done}
use Rattle.std.specs.declared.result.Result.TheVariants.{Ok}
use Rattle.rules.specs.Lists.{In, from, zeros}
use Rattle.rules.specs.Answers.{Accepted}
use Rattle.rules.specs.Game.{Edge, Vertex, blank_vertex, edge_count, game_of, padded}
use Rattle.rules.specs.Game.{vertex_count, targets_in, edges_at, game_end}
use Rattle.rules.specs.GameRefusal.{game_refusal}
use Rattle.rules.specs.Restrict.{reached_vertices, new_number, kept_edge, kept_vertex, kept_vertices, vertex_map}
use Rattle.rules.specs.Restrict.{restriction_refusal, Restricted, restricted_to, restriction}
use Rattle.rules.specs.Restricts.{Restricts}
use Rattle.lists.proofs.Members.{in_at, in_map, map_in}
use Rattle.games.proofs.Reading.{length_read}
use Rattle.games.proofs.Handed.{owned_passes}
use Rattle.restrictions.specs.GoodGame.{GoodGame}
use Rattle.restrictions.specs.Trimmed.{trimmed}
use Rattle.restrictions.proofs.Accepted.{good_game, accepted_slices, slices_accepted, edges_column}
use Rattle.restrictions.proofs.Searching.{met_first, met_closed, met_distinct, reached_searched, reached_below, reached_few}
use Rattle.restrictions.proofs.Kept.{number_below, kept_length, kept_at, edges_fit}
use Rattle.restrictions.proofs.Restriction.{restriction_passed, passed_accepted, accepted_passed, kept_restricts}
use Rattle.restrictions.proofs.Restriction.{passed_restricts, restriction_slices}
use Rattle.restrictions.proofs.Once.{restricts_once}
use Rattle.restrictions.proofs.Again.{restricts_itself}

-- ---- the words without those past the end

pub trimmed_game : (vs : List Vertex) (n : ℕ) → trimmed (padded n (game_of 0 vs)) ≡ game_of 0 vs
unfolding trimmed padded
trimmed_game vs n =
    let e : game_end (game_of 0 vs ++ replicate (n - length (game_of 0 vs)) 0) ≡ length (game_of 0 vs)
    = end_is (replicate (n - length (game_of 0 vs)) 0) in
    ap (λ (k : ℕ). take k (game_of 0 vs ++ replicate (n - length (game_of 0 vs)) 0)) e
    ∙ take-append_seam (game_of 0 vs) (replicate (n - length (game_of 0 vs)) 0)
  where
    end_is : (rest : List ℕ) → game_end (game_of 0 vs ++ rest) ≡ length (game_of 0 vs)
    end_is rest = unfold game_of in omega (arith, length_read 0 vs)

pub no-pad : (ws : List ℕ) → padded (length ws) ws ≡ ws
unfolding padded
no-pad ws = let e : length ws - length ws ≡ 0 = omega arith in ap (λ (k : ℕ). ws ++ replicate k 0) e ∙ append-nil ws

-- ---- the result is accepted

module _ (g : List ℕ) (passed : game_refusal g ≡ Ok tt) where
  abbrev met : List ℕ
  met = reached_vertices g

  abbrev vs : List Vertex
  vs = kept_vertices g met

  good : GoodGame g
  good = good_game g passed

  inside : (u : ℕ) → u < length vs → (f : Edge) → In f (get_or vs u blank_vertex).edges → f.target < length vs
  unfolding kept_vertex kept_edge
  inside u l f m =
      let k : u < length met = omega (arith, kept_length g met) in
      let w : ℕ = get_or met u 0 in
      let j = in_at met u 0 k in
      let (q, i, e) = in_map (kept_edge met) f (edges_at g w)
      (subst (λ (v : Vertex). In f v.edges) (kept_at g met u blank_vertex k) m) in
      let z : f.target ≡ new_number met q.target = ap (λ (y : Edge). y.target) e in
      let t : In q.target (targets_in g w)
      = subst (In q.target) (edges_column g good 0 w (omega arith) (reached_below g good w j))
      (map_in (λ (y : Edge). y.target) q (edges_at g w) i) in
      let b = number_below met q.target (met_closed g met (reached_searched g good) w j q.target t) in
      omega (arith, kept_length g met)

  owned : (u : ℕ) → u < length vs → (get_or vs u blank_vertex).owner < 2
  unfolding kept_vertex
  owned u l =
      let k : u < length met = omega (arith, kept_length g met) in
      subst (λ (v : Vertex). v.owner < 2) (sym (kept_at g met u blank_vertex k)) (good.owned (get_or met u 0) (reached_below g good (get_or met u 0) (in_at met u 0 k)))

  pub result_accepted : game_refusal (game_of 0 (kept_vertices g (reached_vertices g))) ≡ Ok tt
  result_accepted =
      owned_passes vs blank_vertex
      (omega (arith, (met_first g met (reached_searched g good)).0, kept_length g met))
      (omega (arith, reached_few g good, good.few, kept_length g met))
      (omega (arith, edges_fit g good met (met_distinct g met (reached_searched g good)) (reached_below g good), good.light))
      inside owned

  -- and is what `Restricts` says, in a slice of just its length
  result_restricts : Restricts g (Done (length vs) (length vs) (edge_count vs)) (game_of 0 vs) (vertex_map g met) met
  result_restricts =
      subst (λ (h : List ℕ). Restricts g (Done (length vs) (length vs) (edge_count vs)) h (vertex_map g met) met)
      (no-pad (game_of 0 vs))
      (kept_restricts g good (length (game_of 0 vs)) (omega arith))

  count-is : vertex_count (game_of 0 vs) ≡ length met
  count-is = result_restricts.first.0

  module _ (out numbers work : List ℕ) (a : length out ≡ length (game_of 0 (kept_vertices g (reached_vertices g)))) (b : length numbers ≡ vertex_count (game_of 0 (kept_vertices g (reached_vertices g))))
      (c : length work ≡ vertex_count (game_of 0 (kept_vertices g (reached_vertices g)))) where
    abbrev r : Restricted
    r = restriction (game_of 0 vs) out numbers work

    again_passed : restriction_refusal (game_of 0 vs) (length out) (length numbers) (length work) ≡ Ok tt
    again_passed = slices_accepted (game_of 0 vs) (length out) (length numbers) (length work) result_accepted a b c

    pub result_again : restriction (game_of 0 (kept_vertices g (reached_vertices g))) out numbers work
        ≡ record {
          answer = Done (length (kept_vertices g (reached_vertices g))) (length (kept_vertices g (reached_vertices g)))
              (edge_count (kept_vertices g (reached_vertices g)));
          out = game_of 0 (kept_vertices g (reached_vertices g));
          mapping = from 0 (length (reached_vertices g));
          work = zeros work;
        }
    result_again =
        let s = restriction_slices (game_of 0 vs) out numbers work
        (passed_accepted (game_of 0 vs) out numbers work again_passed) in
        let (p, q, n, m) = restricts_once (game_of 0 vs) r.answer r.out r.mapping (reached_vertices (game_of 0 vs))
        (Done (length vs) (length vs) (edge_count vs)) (game_of 0 vs) (from 0 (length met)) (from 0 (length met))
        (passed_restricts (game_of 0 vs) out numbers work again_passed)
        (restricts_itself g (Done (length vs) (length vs) (edge_count vs)) (game_of 0 vs) (vertex_map g met) met
        result_restricts)
        (s.0 ∙ a) in
        λ i. record { answer = p i; out = q i; mapping = n i; work = s.2 i }

-- ---- the theorem

module _ (g out numbers work : List ℕ) (accepted : Accepted (restriction g out numbers work).answer) where
  passed : restriction_refusal g (length out) (length numbers) (length work) ≡ Ok tt
  passed = accepted_passed g out numbers work accepted

  game_passed : game_refusal g ≡ Ok tt
  game_passed = (accepted_slices g (length out) (length numbers) (length work) passed).0

  once : restriction g out numbers work ≡ restricted_to g (reached_vertices g) out work
  once = restriction_passed g out numbers work passed

  pub restricted_trimmed : trimmed (restriction g out numbers work).out ≡ game_of 0 (kept_vertices g (reached_vertices g))
  unfolding restricted_to
  restricted_trimmed = ap (λ (r : Restricted). trimmed r.out) once ∙ trimmed_game (kept_vertices g (reached_vertices g)) (length out)

  answer_is : (restriction g out numbers work).answer
      ≡ Done (length (kept_vertices g (reached_vertices g))) (length (kept_vertices g (reached_vertices g)))
      (edge_count (kept_vertices g (reached_vertices g)))
  unfolding restricted_to
  answer_is = ap (λ (r : Restricted). r.answer) once

  -- the game that was written is accepted: its lent slices need only have the right lengths
  pub restricted_accepted : game_refusal (trimmed (restriction g out numbers work).out) ≡ Ok tt
  restricted_accepted = ap game_refusal restricted_trimmed ∙ result_accepted g game_passed

  pub restricted_twice : (h : List ℕ) → h ≡ trimmed (restriction g out numbers work).out
      → (out' numbers' work' : List ℕ) → length out' ≡ length h → length numbers' ≡ vertex_count h → length work' ≡ vertex_count h
      → restriction h out' numbers' work' ≡ record { answer = (restriction g out numbers work).answer; out = h; mapping = from 0 (vertex_count h); work = zeros work' }
  restricted_twice h e out' numbers' work' a b c =
      let f : h ≡ game_of 0 (kept_vertices g (reached_vertices g)) = e ∙ restricted_trimmed in
      let a' = a ∙ ap length f in
      let b' = b ∙ ap vertex_count f in
      let c' = c ∙ ap vertex_count f in
      let n : length (reached_vertices g) ≡ vertex_count h = sym (ap vertex_count f ∙ count-is g game_passed) in
      ap (λ (w : List ℕ). restriction w out' numbers' work') f ∙ result_again g game_passed out' numbers' work' a' b' c'
      ∙ (λ i. record { answer = sym answer_is i; out = sym f i; mapping = from 0 (n i); work = zeros work' })
