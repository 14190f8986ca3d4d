-- What a restriction leaves satisfies `Restricts`, for all words and lent slices that are not refused; a refusal alters
-- nothing. Assumes nothing.
use mathlib.Core.Path.{◌≡◌, refl, sym, ap, ap₂, ◌∙◌, subst}
use mathlib.Core.List.{List, map, map-map}
use mathlib.Core.Logic.{◌↔◌}
use Prim.Native.Nat.{ℕ, ◌-◌, ◌≤◌, ◌<◌}
use native.Mathlib.Omega.{arith}
use lib.ListN.{length, get_or, replicate, length-append, length-replicate}
use Rattle.rules.specs.declared.Answer.TheVariants.{Done, Refused}
use Rattle.rules.specs.Answers.{Check}
use Rattle.std.specs.declared.result.Result.TheVariants.{Ok, Err}
use Rattle.rules.specs.Answers.{fault}
use Rattle.rules.specs.Lists.{word, In, Distinct, zeros}
use Rattle.rules.specs.Answers.{Accepted}
use Rattle.rules.specs.Reach.{Reachable}
use Rattle.rules.specs.Game.{Edge, Vertex, blank_vertex, edge_count, game_of, padded, vertex_count, edges_in, initial_in}
use Rattle.rules.specs.Game.{state_in, item_in, targets_in, counts_in, edges_at}
use Rattle.rules.specs.Restrict.{reached_vertices, new_number, kept_edge, kept_vertex, kept_vertices, vertex_map}
use Rattle.rules.specs.Restrict.{restriction_refusal, Restricted, restricted_to, restricted_or, restriction}
use Rattle.rules.specs.Restricts.{Restricts}
use Rattle.rules.specs.Demands.{Apart}
use Rattle.lists.proofs.Members.{in_at, position_at, distinct_positions}
use Rattle.lists.proofs.Equalities.{number_equality}
use Rattle.games.specs.Rows.{Row}
use Rattle.games.proofs.Columns.{map_same}
use Rattle.games.proofs.Reading.{count_read, row_read}
use Rattle.games.proofs.Rewriting.{Whole}
use Rattle.theorems.proofs.Read.{whole_game}
use Rattle.restrictions.specs.GoodGame.{GoodGame}
use Rattle.restrictions.proofs.Accepted.{good_game, accepted_slices, edges_column, target_below}
use Rattle.restrictions.proofs.Searching.{met_first, met_exactly, met_distinct, reached_searched, reached_below, reached_few}
use Rattle.restrictions.proofs.Kept.{number_in, number-out, number_below, map-length, map-word, kept_length, kept_at}
use Rattle.restrictions.proofs.Kept.{kept_targets, words_fit}

-- ---- by what the check says

module _ (g out numbers work : List ℕ) where
  abbrev checked : Check
  checked = restriction_refusal g (length out) (length numbers) (length work)

  pub restriction_passed : restriction_refusal g (length out) (length numbers) (length work) ≡ Ok tt → restriction g out numbers work ≡ restricted_to g (reached_vertices g) out work
  unfolding restriction restricted_or
  restriction_passed e = rw e

  -- a refusal says why, and alters nothing
  pub restriction_refused : (n p : ℕ) → restriction_refusal g (length out) (length numbers) (length work) ≡ fault n p
      → restriction g out numbers work ≡ record { answer = Refused n p; out = out; mapping = numbers; work = work }
  unfolding restriction restricted_or
  restriction_refused n p e = rw e

  -- the answer is Refused exactly if the check says so
  pub passed_accepted : restriction_refusal g (length out) (length numbers) (length work) ≡ Ok tt
      → Accepted (restriction g out numbers work).answer
  unfolding restricted_to
  passed_accepted e = subst (λ (r : Restricted). Accepted r.answer) (sym (restriction_passed e)) tt

  pub accepted_passed : Accepted (restriction g out numbers work).answer
      → restriction_refusal g (length out) (length numbers) (length work) ≡ Ok tt
  accepted_passed a = go checked refl
    where
      go : (c : Check) → checked ≡ c → checked ≡ Ok tt
      go (Ok u) e = e
      go (Err f) e = absurd (subst (λ (r : Restricted). Accepted r.answer) (restriction_refused f.number f.place e) a)

-- ---- what is written

pub padded-length : (n : ℕ) (ws : List ℕ) → length ws ≤ n → length (padded n ws) ≡ n
unfolding padded
padded-length n ws h = omega (arith, length-append ws (replicate (n - length ws) 0), length-replicate {A = ℕ} (n - length ws) 0)

-- the words fit where the game stood
pub kept_fit : (g : List ℕ) → GoodGame g → length (game_of 0 (kept_vertices g (reached_vertices g))) ≤ length g
kept_fit g good =
    words_fit g good (reached_vertices g) (met_distinct g (reached_vertices g) (reached_searched g good)) (reached_below g good) (reached_few g good)

module _ (g : List ℕ) (good : GoodGame g) (n : ℕ) where
  abbrev met : List ℕ
  met = reached_vertices g

  abbrev vs : List Vertex
  vs = kept_vertices g met

  abbrev h : List ℕ
  h = padded n (game_of 0 vs)

  abbrev ns : List ℕ
  ns = vertex_map g met

  distinct : Distinct met
  distinct = met_distinct g met (reached_searched g good)

  exactly : (v : ℕ) → In v met ↔ Reachable (targets_in g) (initial_in g) v
  exactly = met_exactly g met (reached_searched g good)

  count-is : vertex_count h ≡ length met
  unfolding padded
  count-is = count_read 0 vs (replicate (n - length (game_of 0 vs)) 0) ∙ kept_length g met

  edges_are : edges_in h ≡ edge_count vs
  unfolding padded game_of
  edges_are = refl

  initial_is : initial_in h ≡ 0
  unfolding padded game_of
  initial_is = refl

  -- the counts of the kept edges of vertex v
  kept_counts : (v : ℕ) → v < vertex_count g
      → map (λ (z : Edge). z.count) (map (kept_edge met) (edges_at g v)) ≡ counts_in g v
  unfolding kept_edge
  kept_counts v l =
      map-map (λ (z : Edge). z.count) (kept_edge met) (edges_at g v) ∙ edges_column g good 1 v (omega arith) l

  -- what is read of vertex u is what is kept of its old one
  row : (u : ℕ) → u < length met → Row h u (kept_vertex g met (get_or met u 0))
  unfolding padded
  row u l =
      row_read 0 vs (replicate (n - length (game_of 0 vs)) 0) u blank_vertex (kept_vertex g met (get_or met u 0))
      (omega (arith, kept_length g met)) (kept_at g met u blank_vertex l)

  states : (u : ℕ) → u < length met → state_in h u ≡ state_in g (get_or met u 0)
  unfolding kept_vertex
  states u l = (row u l).state

  items : (u : ℕ) → u < length met → item_in h u ≡ item_in g (get_or met u 0)
  unfolding kept_vertex
  items u l = (row u l).item

  old_below : (u : ℕ) → u < length met → get_or met u 0 < vertex_count g
  old_below u l = reached_below g good (get_or met u 0) (in_at met u 0 l)

  sent : (v : ℕ) → In v met → (word ns v < length met) × (get_or met (word ns v) 0 ≡ v)
  sent v m =
      let e : word ns v ≡ new_number met v = map-word g met v (reached_below g good v m) in
      (subst (λ (k : ℕ). k < length met) (sym e) (number_below met v m), ap (λ (k : ℕ). get_or met k 0) (e ∙ number_in met v m) ∙ position_at number_equality v met 0 m)

  renumbered : (v : ℕ) → In v met → map (new_number met) (targets_in g v) ≡ map (λ t. word ns t) (targets_in g v)
  renumbered v m =
      map_same (new_number met) (λ t. word ns t) (targets_in g v) (λ t i. sym (map-word g met t (target_below g good v (reached_below g good v m) t i)))

  -- no two vertices have the same old one
  kept_apart : Apart g → Apart h
  kept_apart d u v l k s i =
      let l' : u < length met = omega (arith, count-is) in
      let k' : v < length met = omega (arith, count-is) in
      distinct_positions met 0 distinct u v l' k'
      (d (get_or met u 0) (get_or met v 0) (old_below u l') (old_below v k')
      (sym (states u l') ∙ s ∙ states v k') (sym (items u l') ∙ i ∙ items v k'))

  pub kept_restricts : (room : length (game_of 0 (kept_vertices g (reached_vertices g))) ≤ n)
      → Restricts g (Done (length vs) (length vs) (edge_count vs))
      (padded n (game_of 0 (kept_vertices g (reached_vertices g)))) (vertex_map g (reached_vertices g)) (reached_vertices g)
  unfolding kept_vertex
  kept_restricts room =
      let s = reached_searched g good in
      let whole : Whole h = whole_game vs n room in
      let many = kept_length g met in
      record {
        searched = s;
        exactly = exactly;
        once = distinct;
        answer = ap₂ (λ (k m : ℕ). Done k k m) many (sym edges_are);
        first = (count-is, initial_is, (met_first g met s).1);
        mapped = map-length g met;
        sends = λ v r. sent v ((exactly v).1 r);
        leaves = λ v l n. map-word g met v l ∙ number-out met v (λ m. n ((exactly v).0 m));
        owners = λ u l. (row u l).owner;
        priorities = λ u l. (row u l).priority;
        states = states;
        items = items;
        edges = λ u l.
            (row u l).targets ∙ kept_targets g good met (get_or met u 0) (old_below u l)
            ∙ renumbered (get_or met u 0) (in_at met u 0 l);
        counts = λ u l. (row u l).counts ∙ kept_counts (get_or met u 0) (old_below u l);
        apart = kept_apart;
        begins = whole.begins;
        follows = whole.follows;
        ends = whole.ends;
        past = whole.past;
      }

-- ---- the theorem

module _ (g out numbers work : List ℕ) where
  abbrev Claim : Restricted → Type 0
  Claim r = Restricts g r.answer r.out r.mapping (reached_vertices g)

  pub passed_restricts : restriction_refusal g (length out) (length numbers) (length work) ≡ Ok tt
      → Restricts g (restriction g out numbers work).answer (restriction g out numbers work).out (restriction g out numbers work).mapping (reached_vertices g)
  unfolding restricted_to
  passed_restricts e =
      let (a, b, c, d) = accepted_slices g (length out) (length numbers) (length work) e in
      let good = good_game g a in
      subst Claim (sym (restriction_passed g out numbers work e)) (kept_restricts g good (length out) (omega (arith, kept_fit g good)))

  pub restriction_restricts : Accepted (restriction g out numbers work).answer
      → Restricts g (restriction g out numbers work).answer (restriction g out numbers work).out (restriction g out numbers work).mapping (reached_vertices g)
  restriction_restricts a = passed_restricts (accepted_passed g out numbers work a)

  -- the slices keep their lengths, and the work slice is then all zero
  pub restriction_slices : Accepted (restriction g out numbers work).answer
      → (length (restriction g out numbers work).out ≡ length out) × (length (restriction g out numbers work).mapping ≡ length numbers) × ((restriction g out numbers work).work ≡ zeros work)
  unfolding restricted_to
  restriction_slices n =
      let e = accepted_passed g out numbers work n in
      let (a, b, c, d) = accepted_slices g (length out) (length numbers) (length work) e in
      let good = good_game g a in
      let r = restriction_passed g out numbers work e in (
        ap (λ (x : Restricted). length x.out) r
            ∙ padded-length (length out) (game_of 0 (kept_vertices g (reached_vertices g))) (omega (arith, kept_fit g good)),
        ap (λ (x : Restricted). length x.mapping) r ∙ map-length g (reached_vertices g) ∙ sym c,
        ap (λ (x : Restricted). x.work) r,
      )
