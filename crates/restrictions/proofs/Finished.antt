-- The restriction of a finished run's game loses nothing: the game is accepted, every vertex of it is reachable, and
-- the map is a renumbering of all vertices. No two vertices that it leaves have the same state and item. Assumes
-- nothing.
use mathlib.Core.Path.{◌≡◌, refl, sym, ap, ap₂, ◌∙◌, subst}
use mathlib.Core.Bool.{Bool, true, false}
use mathlib.Core.List.{List, [], ◌∷◌, append-nil}
use Prim.Native.Nat.{ℕ, ◌-◌, ◌≤◌, ◌<◌}
use native.Mathlib.Omega.{arith}
use lib.ListN.{length, get_or, replicate}
use Rattle.rules.specs.declared.Answer.{Answer}
use Rattle.rules.specs.declared.Answer.TheVariants.{Done}
use Rattle.rules.specs.Answers.{Check}
use Rattle.std.specs.declared.result.Result.TheVariants.{Ok, Err}
use Rattle.rules.specs.Lists.{In, from}
use Rattle.rules.specs.declared.Room.{Room}
use Rattle.rules.specs.Words.{Input}
use Rattle.rules.specs.Answers.{Accepted}
use Rattle.rules.specs.Depth.{Ranking}
use Rattle.rules.specs.Pairs.{Pair, initial_pair, targets}
use Rattle.rules.specs.Reach.{Reachable, at_root, onward, N}
use Rattle.rules.specs.Game.{Vertex, blank_vertex, game_of, padded, vertex_count, edges_in, initial_in}
use Rattle.rules.specs.Game.{pair_in, targets_in}
use Rattle.rules.specs.GameRefusal.{game_refusal}
use Rattle.rules.specs.Refusal.{refusal}
use Rattle.rules.specs.Run.{Outcome, walk_of, exceeds, built_answer, built_outcome, out_of_room, run}
use Rattle.rules.specs.Vertices.{vertices_of}
use Rattle.rules.specs.Demands.{Stands, Apart, CutTheorem}
use Rattle.rules.specs.Restrict.{reached_vertices, restriction_refusal, Restricted, restricted_to, restriction}
use Rattle.rules.specs.Restricts.{Restricts}
use Rattle.lists.proofs.Members.{in_at, in_left, no_more}
use Rattle.lists.proofs.Ranges.{from-length, in_from}
use Rattle.walks.proofs.Reached.{reachable_inside}
use Rattle.games.specs.Rows.{Row}
use Rattle.games.proofs.Reading.{count_read, row_read}
use Rattle.theorems.proofs.Pairs.{in_lead, stands_once}
use Rattle.theorems.proofs.Runs.{run_refused, run-exceeds, run_fits}
use Rattle.theorems.proofs.Cut.{done_enough}
use Rattle.theorems.proofs.Demand3.{demand3}
use Rattle.theorems.proofs.Handing.{done_passes}
use Rattle.restrictions.specs.GoodGame.{GoodGame}
use Rattle.restrictions.specs.Trimmed.{trimmed}
use Rattle.restrictions.specs.KeepsAll.{KeepsAll}
use Rattle.restrictions.proofs.Accepted.{good_game, slices_accepted, target_below}
use Rattle.restrictions.proofs.Searching.{met_exactly, met_distinct, reached_searched, reached_below, reached_few}
use Rattle.restrictions.proofs.Kept.{from_distinct, kept_length, edges_kept}
use Rattle.restrictions.proofs.Restriction.{restriction_passed, passed_restricts}
use Rattle.restrictions.proofs.Again.{number-back}
use Rattle.restrictions.proofs.Twice.{trimmed_game}

-- ---- every vertex of a finished run's game is reachable

module _ (rank : Ranking) (x : Input) (k : ℕ) (a : Answer) (g : List ℕ) (c : CutTheorem rank x k a g) (done : N x ≤ k) where
  abbrev root : Pair
  root = initial_pair x

  -- the edges of the vertex that stands for o lead to the vertices that stand for the targets of o
  edge_to_lem : (o : Pair) → Reachable (targets x) root o → (q : Pair) → In q (targets x o) → (v : ℕ) → Stands g v q
      → (u : ℕ) × Stands g u o × In v (targets_in g u)
  edge_to_lem o r q m v s =
      let (u, t, l) = c.complete done o r in
      let row = c.settled u t.0 l in
      let (w, i, z) = in_lead g q row.ruled (targets x (pair_in g u)) row.leads (subst (λ (p : Pair). In q (targets x p)) (sym t.1) m) in
      (u, t, subst (In v) (sym row.edges) (in_left v row.ruled row.added (subst (λ (n : ℕ). In n row.ruled) (stands_once g c.distinct w v q z s) i)))

  pair_reached : (p : Pair) → Reachable (targets x) root p → (v : ℕ) → Stands g v p → Reachable (targets_in g) (initial_in g) v
  pair_reached p at_root v s =
      subst (Reachable (targets_in g) (initial_in g)) (c.first.0 ∙ stands_once g c.distinct 0 v root c.first.1 s) at_root
  pair_reached p (onward {p = o} r m) v s =
      let (u, t, i) = edge_to_lem o r p m v s in
      onward (pair_reached o r u t) i

  pub all_reached : (v : ℕ) → v < vertex_count g → Reachable (targets_in g) (initial_in g) v
  all_reached v h = pair_reached (pair_in g v) (c.reached v h) v (h, refl)

-- ---- a game of which every vertex is reachable

module _ (g : List ℕ) (passed : game_refusal g ≡ Ok tt) (all : (v : ℕ) → v < vertex_count g → Reachable (targets_in g) (initial_in g) v)
    (out numbers work : List ℕ) (a : length out ≡ length g) (b : length numbers ≡ vertex_count g) (c : length work ≡ vertex_count g) where
  good : GoodGame g
  good = good_game g passed

  abbrev met : List ℕ
  met = reached_vertices g

  in_met : (v : ℕ) → v < vertex_count g → In v met
  in_met v l = (met_exactly g met (reached_searched g good) v).1 (all v l)

  many : length met ≡ vertex_count g
  many =
      let i = no_more (from 0 (vertex_count g)) met (from_distinct 0 (vertex_count g)) (λ v m. let l = (in_from v 0 (vertex_count g) m).1 in in_met v (omega arith)) in
      omega (arith, from-length 0 (vertex_count g), reached_few g good)

  accepted : restriction_refusal g (length out) (length numbers) (length work) ≡ Ok tt
  accepted = slices_accepted g (length out) (length numbers) (length work) passed a b c

  abbrev r : Restricted
  r = restriction g out numbers work

  restricts : Restricts g r.answer r.out r.mapping met
  restricts = passed_restricts g out numbers work accepted

  answer_is : r.answer ≡ Done (vertex_count g) (vertex_count g) (edges_in g)
  unfolding restricted_to
  answer_is =
      ap (λ (q : Restricted). q.answer) (restriction_passed g out numbers work accepted)
      ∙ ap₂ (λ (n m : ℕ). Done n n m) (kept_length g met ∙ many)
      (edges_kept g good met (met_distinct g met (reached_searched g good)) (reached_below g good) in_met)

  pub keeps_all : KeepsAll g (restriction g out numbers work).answer (restriction g out numbers work).mapping
  keeps_all =
      record {
        answer = answer_is;
        sent = λ v l. let s = (restricts.sends v (all v l)).0 in omega (arith, many);
        apart = λ v w h l e. sym (restricts.sends v (all v h)).1 ∙ ap (λ (u : ℕ). get_or met u 0) e ∙ (restricts.sends w (all w l)).1;
        onto = λ u l. let h : u < length met = omega (arith, many) in
            (get_or met u 0, reached_below g good (get_or met u 0) (in_at met u 0 h), number-back g r.answer r.out r.mapping met restricts u h);
      }

-- ---- a finished run's game, without the words past its end

none_waits : (ws : List ℕ) (a b c s n m : ℕ) → built_answer ws a b c ≡ Done s n m → ws ≡ []
unfolding built_answer
none_waits [] a b c s n m e = refl
none_waits (w ∷ ws) a b c s n m e = let q : ◌≡◌ {A = ℕ} 0 1 = cc in absurd (omega arith)

module _ (rank : Ranking) (x : Input) (r : Room) (k : ℕ) (game work : List ℕ) (s n m : ℕ)
    (done : (run rank x r k game work).answer ≡ Done s n m) where
  abbrev vs : List Vertex
  vs = vertices_of rank x (walk_of x k)

  abbrev o : Outcome
  o = run rank x r k game work

  accepted-run : Accepted o.answer
  accepted-run = subst Accepted (sym done) tt

  -- the run was neither refused nor out of room, and nothing waits
  finished_run : (refusal x r (length game) (length work) ≡ Ok tt) × (exceeds r vs ≡ false) × (o.game ≡ padded (length game) (game_of 0 vs)) × ((walk_of x k).waiting ≡ [])
  unfolding out_of_room built_outcome
  finished_run = go (refusal x r (length game) (length work)) refl (exceeds r vs) refl
    where
      kept : (q : Outcome) → o ≡ q → Accepted q.answer
      kept q e = subst (λ (p : Outcome). Accepted p.answer) e accepted-run

      go : (c : Check) → refusal x r (length game) (length work) ≡ c → (t : Bool) → exceeds r vs ≡ t
          → (refusal x r (length game) (length work) ≡ Ok tt) × (exceeds r vs ≡ false) × (o.game ≡ padded (length game) (game_of 0 vs)) × ((walk_of x k).waiting ≡ [])
      go (Err g) e t f = absurd (kept _ (run_refused rank x r k game work g.number g.place e))
      go (Ok u) e true f = absurd (kept _ (run-exceeds rank x r k game work e f))
      go (Ok u) e false f =
          let q = run_fits rank x r k game work e f in
          let w = none_waits (walk_of x k).waiting _ _ _ s n m (sym (ap (λ (p : Outcome). p.answer) q) ∙ done) in
          (e, f, ap (λ (p : Outcome). p.game) q, w)

  trimmed_is : trimmed o.game ≡ game_of 0 vs
  trimmed_is = ap trimmed finished_run.2 ∙ trimmed_game vs (length game)

  pub finished_accepted : game_refusal (trimmed (run rank x r k game work).game) ≡ Ok tt
  finished_accepted = let (e, f, p, w) = finished_run in ap game_refusal trimmed_is ∙ done_passes rank x r k game work e f w

  cut : CutTheorem rank x k o.answer o.game
  cut = demand3 rank x r k game work accepted-run

  game_reached : (v : ℕ) → v < vertex_count o.game → Reachable (targets_in o.game) (initial_in o.game) v
  game_reached =
      all_reached rank x k o.answer o.game cut (done_enough rank x k o.answer o.game cut s n m done)

  abbrev h : List ℕ
  h = trimmed (run rank x r k game work).game

  -- the same is read from both
  same_count : vertex_count h ≡ vertex_count o.game
  unfolding padded
  same_count =
      ap vertex_count (trimmed_is ∙ sym (append-nil (game_of 0 vs))) ∙ count_read 0 vs []
      ∙ sym (ap vertex_count finished_run.2 ∙ count_read 0 vs (replicate (length game - length (game_of 0 vs)) 0))

  many-vertices : vertex_count h ≡ length vs
  many-vertices = ap vertex_count (trimmed_is ∙ sym (append-nil (game_of 0 vs))) ∙ count_read 0 vs []

  same_initial : initial_in h ≡ initial_in o.game
  same_initial = ap initial_in trimmed_is ∙ written_initial ∙ sym cut.first.0
    where
      written_initial : initial_in (game_of 0 vs) ≡ 0
      written_initial = unfold game_of in refl

  -- each vertex is shown alike by both
  abbrev shown : ℕ → Vertex
  shown v = get_or vs v blank_vertex

  row_run : (v : ℕ) → v < length vs → Row o.game v (shown v)
  unfolding padded
  row_run v l =
      subst (λ (w : List ℕ). Row w v (shown v)) (sym finished_run.2)
      (row_read 0 vs (replicate (length game - length (game_of 0 vs)) 0) v blank_vertex (shown v) l refl)

  row_trimmed : (v : ℕ) → v < length vs → Row h v (shown v)
  row_trimmed v l =
      subst (λ (w : List ℕ). Row w v (shown v)) (sym (trimmed_is ∙ sym (append-nil (game_of 0 vs))))
      (row_read 0 vs [] v blank_vertex (shown v) l refl)

  same_targets : (v : ℕ) → v < vertex_count h → targets_in o.game v ≡ targets_in h v
  same_targets v l =
      let i : v < length vs = omega (arith, many-vertices) in
      (row_run v i).targets ∙ sym (row_trimmed v i).targets

  pub finished_reached : (v : ℕ) → v < vertex_count (trimmed (run rank x r k game work).game)
      → Reachable (targets_in (trimmed (run rank x r k game work).game)) (initial_in (trimmed (run rank x r k game work).game)) v
  finished_reached v l =
      let good = good_game h finished_accepted in
      (reachable_inside (targets_in o.game) (initial_in o.game) (λ u. (u < vertex_count h) × Reachable (targets_in h) (initial_in h) u)
      (subst (λ (n : ℕ). (n < vertex_count h) × Reachable (targets_in h) (initial_in h) n) same_initial (good.initial, at_root))
      (λ u (b, q) t m. let i = subst (In t) (same_targets u b) m in (target_below h good u b t i, onward q i))
      v (game_reached v (omega (arith, same_count)))).1

  -- the theorem: nothing of a finished run's game is lost
  pub finished_kept : (out numbers lent : List ℕ)
      → length out ≡ length (trimmed (run rank x r k game work).game)
      → length numbers ≡ vertex_count (trimmed (run rank x r k game work).game)
      → length lent ≡ vertex_count (trimmed (run rank x r k game work).game)
      → KeepsAll (trimmed (run rank x r k game work).game) (restriction (trimmed (run rank x r k game work).game) out numbers lent).answer
      (restriction (trimmed (run rank x r k game work).game) out numbers lent).mapping
  finished_kept out numbers lent a b c = keeps_all h finished_accepted finished_reached out numbers lent a b c

  -- "in a run's game no two vertices have the same two values" (#105), and none of those that its restriction leaves
  pub trimmed_apart : Apart (trimmed (run rank x r k game work).game)
  trimmed_apart u v l i s t =
      let j : u < length vs = omega (arith, many-vertices) in
      let k : v < length vs = omega (arith, many-vertices) in
      cut.distinct u v (omega (arith, same_count)) (omega (arith, same_count))
      ((row_run u j).state ∙ sym (row_trimmed u j).state ∙ s ∙ (row_trimmed v k).state ∙ sym (row_run v k).state)
      ((row_run u j).item ∙ sym (row_trimmed u j).item ∙ t ∙ (row_trimmed v k).item ∙ sym (row_run v k).item)

  pub finished_apart : (a : Answer) (g ns ms : List ℕ) → Restricts (trimmed (run rank x r k game work).game) a g ns ms
      → Apart g
  finished_apart a g ns ms kept = kept.apart trimmed_apart
