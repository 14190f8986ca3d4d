-- The cut theorem of the rules: what a run that is not refused leaves satisfies `CutTheorem`, for every ranking, limit
-- and room. Assumes nothing.
use mathlib.Core.Path.{◌≡◌, refl, sym, ap, ◌∙◌, subst}
use mathlib.Core.Bool.{Bool, true, false, cond}
use mathlib.Core.List.{List, [], ◌∷◌, ◌++◌, map, append-nil, map-map}
use mathlib.Core.Logic.{◌⊎◌, inl, inr, ⊎_elim, ◌↔◌}
use Prim.Native.Nat.{ℕ, suc, ◌-◌, ◌≤◌, ◌<◌, min}
use native.Mathlib.Omega.{arith}
use native.Mathlib.Decide.{dec_lt}
use lib.ListN.{length, get_or}
use lib.Dec.{ltb}
use borrow.Author.Tests.{lt-ltb, le-ltb, ltb-false}
use Rattle.rules.specs.declared.Answer.{Answer}
use Rattle.rules.specs.declared.Answer.TheVariants.{Done, Cut}
use Rattle.rules.specs.Lists.{In, zeros, position}
use Rattle.rules.specs.Words.{Input}
use Rattle.rules.specs.Depth.{Ranking}
use Rattle.rules.specs.Pairs.{Pair, same_pair, initial_pair, owner, priority, targets}
use Rattle.rules.specs.Walk.{Stand}
use Rattle.rules.specs.Reach.{Reachable, pair_count, reachable_pairs, N}
use Rattle.rules.specs.Game.{Edge, Vertex}
use Rattle.rules.specs.Game.{edge_count, game_of, padded, vertex_count, edges_in, initial_in, owner_in}
use Rattle.rules.specs.Game.{priority_in, pair_in, targets_in}
use Rattle.rules.specs.Run.{walk_of, built_answer, built_outcome}
use Rattle.rules.specs.Vertices.{Ruled, waiting_vertex, totalised_by, totalised, settled_vertex, ruled_edge, ruled_vertex, vertices_of}
use Rattle.rules.specs.Demands.{After, Stands, Apart, Lead, Totalised, SettledRow, CutTheorem, settled_below}
use Rattle.lists.specs.Shapes.{Falling}
use Rattle.lists.proofs.Members.{in_at, distinct_positions, position_below, position_at}
use Rattle.lists.proofs.Equalities.{pair_equality}
use Rattle.arena.specs.Arena.{Inside}
use Rattle.walks.specs.Sums.{settled, Settled, sum_settled}
use Rattle.walks.specs.Facts.{WalkFacts}
use Rattle.games.proofs.Rewriting.{Whole}
use Rattle.theorems.proofs.Vertices.{length_vertices, ruled_at}
use Rattle.theorems.proofs.Read.{whole_game, count_word, row_waits, row_settled, pair_read, pairs_read, owner-settled}
use Rattle.theorems.proofs.Read.{settled-below, below_settled, settled_count}

-- the vertices that do not wait, in the order in which 01's steps settle them
pub record Ordered (x : Input) (k : ℕ) (st : Stand Pair) : Type 0 where
  pub order : List ℕ
  pub after : After (targets x) (initial_pair x) k st.known order
  pub apart : (v : ℕ) → In v st.waiting → ¬ In v order
  pub either : (v : ℕ) → v < length st.known → In v st.waiting ⊎ In v order

-- ---- edges lead to the vertices that stand for the targets

lead_all : (g : List ℕ) (edge : Pair → Edge) (ts : List Pair)
    → ((q : Pair) → In q ts → Stands g (edge q).target q) → Lead g (map (λ e. e.target) (map edge ts)) ts
lead_all g edge [] f = tt
lead_all g edge (t ∷ ts) f = (f t (inl refl), lead_all g edge ts (λ q m. f q (inr m)))

-- the rules' edges of a settled vertex, and those added
added_edges : ℕ → List ℕ → List ℕ
added_edges v [] = v ∷ []
added_edges v (e ∷ es) = []

abbrev led_to : List Edge → List ℕ
led_to es = map (λ e. e.target) es

edges_split : (v : ℕ) (p : Pair) (r : Ruled)
    → led_to (settled_vertex p (totalised v r)).edges ≡ led_to r.edges ++ added_edges v (led_to r.edges)
unfolding settled_vertex totalised totalised_by added_edges
edges_split v p r = go r.edges refl
  where
    go : (es : List Edge) → r.edges ≡ es → led_to (totalised_by es v r).edges ≡ led_to es ++ added_edges v (led_to es)
    go [] e = refl
    go (x ∷ es) e = ap led_to e ∙ sym (append-nil (led_to (x ∷ es)))

-- their counts: an added edge has 0
abbrev counted : List Edge → List ℕ
counted es = map (λ e. e.count) es

counts_split : (v : ℕ) (p : Pair) (r : Ruled)
    → counted (settled_vertex p (totalised v r)).edges ≡ counted r.edges ++ zeros (added_edges v (led_to r.edges))
unfolding settled_vertex totalised totalised_by added_edges zeros
counts_split v p r = go r.edges refl
  where
    go : (es : List Edge) → r.edges ≡ es
        → counted (totalised_by es v r).edges ≡ counted es ++ zeros (added_edges v (led_to es))
    go [] e = refl
    go (x ∷ es) e = ap counted e ∙ sym (append-nil (counted (x ∷ es)))

total_row : (v : ℕ) (p : Pair) (r : Ruled)
    → Totalised v r.owner r.priority (led_to r.edges) (settled_vertex p (totalised v r)).priority
    (added_edges v (led_to r.edges))
unfolding settled_vertex totalised totalised_by added_edges
total_row v p r = go r.edges
  where
    go : (es : List Edge)
        → Totalised v r.owner r.priority (led_to es) (totalised_by es v r).priority (added_edges v (led_to es))
    go [] = (refl, refl)
    go (x ∷ es) = (refl, refl)

done_or_cut : (ws : List ℕ) (k n s v m : ℕ) → ((0 < length ws) ↔ (k < n))
    → built_answer ws s v m ≡ cond (ltb k n) (Cut s v m) (Done s v m)
unfolding built_answer
done_or_cut [] k n s v m e = go (dec_lt k n)
  where
    go : Dec (k < n) → Done s v m ≡ cond (ltb k n) (Cut s v m) (Done s v m)
    go (yes l) = absurd (let h = e.1 l in omega arith)
    go (no l) = rw (le-ltb k n (omega arith)) refl
done_or_cut (w ∷ ws) k n s v m e = rw (lt-ltb k n (e.0 (omega arith))) refl

-- a run that is done has made enough steps
pub done_enough : (rank : Ranking) (x : Input) (k : ℕ) (a : Answer) (g : List ℕ)
    → CutTheorem rank x k a g → (s n m : ℕ) → a ≡ Done s n m → N x ≤ k
done_enough rank x k a g c s n m e = go (ltb k (N x)) refl (sym c.answered ∙ e)
  where
    go : (t : Bool) → ltb k (N x) ≡ t
        → cond t (Cut (settled_below g (vertex_count g)) (vertex_count g) (edges_in g))
        (Done (settled_below g (vertex_count g)) (vertex_count g) (edges_in g)) ≡ Done s n m → N x ≤ k
    go true f z = let q : ◌≡◌ {A = ℕ} 0 1 = cc in absurd (omega arith)
    go false f z = ltb-false k (N x) f

first_waits : (n : ℕ) (ws : List ℕ) → Falling n ws → 0 < length ws → (v : ℕ) × (v < n) × In v ws
first_waits n [] f h = absurd (omega arith)
first_waits n (w ∷ ws) f h = (w, f.0, inl refl)

no_member : (ws : List ℕ) → ws ≡ [] → (v : ℕ) → ¬ In v ws
no_member [] e v m = m
no_member (w ∷ ws) e v m = absurd (let z : suc (length ws) ≡ 0 = ap length e in omega arith)

module _ (rank : Ranking) (x : Input) (k : ℕ) (facts : WalkFacts same_pair (targets x) (initial_pair x) (pair_count x) k) (ordered : Ordered x k (walk_of x k)) (game work : List ℕ)
    (inner : (p : Pair) → Reachable (targets x) (initial_pair x) p → Inside x p)
    (room : length (game_of 0 (vertices_of rank x (walk_of x k))) ≤ length game) where
  abbrev st : Stand Pair
  st = walk_of x k

  abbrev vs : List Vertex
  vs = vertices_of rank x st

  abbrev g : List ℕ
  g = padded (length game) (game_of 0 vs)

  abbrev a : Answer
  a = (built_outcome st vs game work).answer

  long : length vs ≡ length st.known
  long = length_vertices rank x st

  counts : vertex_count g ≡ length st.known
  counts = count_word rank x st (length game)

  -- the pair of vertex v, as the walk has it and as the game shows it
  abbrev pair : ℕ → Pair
  pair v = get_or st.known v (initial_pair x)

  read : (v : ℕ) → v < length st.known → pair_in g v ≡ pair v
  read = pair_read rank x st (length game)

  stands : (v : ℕ) (q : Pair) → v < length st.known → pair v ≡ q → Stands g v q
  stands v q h e = (omega (arith, counts), read v h ∙ e)

  -- of the walk's pairs each is that of a vertex, and each vertex shows one of them
  known_pair : (v : ℕ) → v < vertex_count g → In (pair_in g v) st.known
  known_pair v h =
      subst (λ (p : Pair). In p st.known) (sym (read v (omega (arith, counts))))
      (in_at st.known v (initial_pair x) (omega (arith, counts)))

  apart : Apart g
  unfolding walk_of
  apart u v h k e f =
      let same : pair_in g u ≡ pair_in g v = λ j. (e j, f j) in
      distinct_positions st.known (initial_pair x) facts.distinct u v (omega (arith, counts)) (omega (arith, counts))
      (sym (read u (omega (arith, counts))) ∙ same ∙ read v (omega (arith, counts)))

  settled_row : (v : ℕ) → v < length st.known → (¬ In v st.waiting) → SettledRow rank x g v (pair v)
  unfolding walk_of ruled_vertex ruled_edge
  settled_row v h n =
      let p : Pair = pair v in
      let edge : Pair → Edge = ruled_edge x st p in
      let r : Ruled = ruled_at rank x st v in
      let row = row_settled rank x st (length game) v h n in
      record {
        ruled = led_to r.edges;
        added = added_edges v (led_to r.edges);
        owned = owner-settled rank x st (length game) v h n;
        edges = row.targets ∙ edges_split v p r;
        leads =
            lead_all g edge (targets x p)
            (λ q m. let f = facts.edges v (h, n) q m in stands (position same_pair q st.known) q f.0 f.1);
        counts =
            row.counts ∙ counts_split v p r
            ∙ ap (λ (cs : List ℕ). cs ++ zeros (added_edges v (led_to r.edges)))
            (map-map (λ (e : Edge). e.count) edge (targets x p));
        total =
            subst (λ (q : ℕ). Totalised v (owner x p) (priority rank x p) (led_to r.edges) q
            (added_edges v (led_to r.edges))) (sym row.priority) (total_row v p r);
      }

  waiting_row : (v : ℕ) → v < length st.known → In v st.waiting → (owner_in g v ≡ 2) × (priority_in g v ≡ 0) × (targets_in g v ≡ [])
  unfolding waiting_vertex
  waiting_row v h m = let row = row_waits rank x st (length game) v h m in (row.owner, row.priority, row.targets)

  shows : (v : ℕ) → v < length st.known → (¬ In v st.waiting) → owner_in g v < 2
  shows = settled-below rank x st (length game)

  shown : (v : ℕ) → v < length st.known → owner_in g v < 2 → ¬ In v st.waiting
  shown = below_settled rank x st (length game)

  counted-all : settled_below g (vertex_count g) ≡ settled st
  unfolding sum_settled walk_of
  counted-all =
      ap (settled_below g) counts
      ∙ settled_count rank x st (length game) (length st.known) (omega arith)
      ∙ facts.counted

  steps_many : length vs - length st.waiting ≡ settled_below g (vertex_count g)
  unfolding settled
  steps_many = ap (λ (n : ℕ). n - length st.waiting) long ∙ sym counted-all

  either : (v : ℕ) → v < length st.known → Settled st v ⊎ In v st.waiting
  unfolding walk_of
  either = facts.either

  waiting_shows : (v : ℕ) → v < length st.known → (¬ (owner_in g v < 2)) → In v st.waiting
  waiting_shows v h n = ⊎_elim (λ s. absurd (n (shows v h s.1))) (λ m. m) (either v h)

  some_waits : k < N x → (v : ℕ) × (v < vertex_count g) × (owner_in g v ≡ 2)
  unfolding walk_of N reachable_pairs
  some_waits l =
      let (v, h, m) = first_waits (length st.known) st.waiting facts.falling (facts.cut.1 l) in
      (v, omega (arith, counts), (waiting_row v h m).0)

  all_settled : N x ≤ k → (p : Pair) → Reachable (targets x) (initial_pair x) p → (v : ℕ) × Stands g v p × (owner_in g v < 2)
  unfolding walk_of N reachable_pairs
  all_settled l p r =
      let m = facts.complete l p r in
      let b = position_below pair_equality p st.known m in (
        position same_pair p st.known,
        stands (position same_pair p st.known) p b (position_at pair_equality p st.known (initial_pair x) m),
        shows (position same_pair p st.known) b (no_member st.waiting (facts.ended.1 l) (position same_pair p st.known)),
      )

  whole : Whole g
  whole = whole_game vs (length game) room

  initial_word : initial_in g ≡ 0
  unfolding padded game_of
  initial_word = refl

  vertices_many : length vs ≡ vertex_count g
  vertices_many = long ∙ sym counts

  edges_many : edge_count vs ≡ edges_in g
  unfolding padded game_of
  edges_many = refl

  answer_is : a ≡ cond (ltb k (N x)) (Cut (settled_below g (vertex_count g)) (vertex_count g) (edges_in g))
      (Done (settled_below g (vertex_count g)) (vertex_count g) (edges_in g))
  unfolding walk_of N reachable_pairs built_outcome
  answer_is =
      done_or_cut st.waiting k (N x) (length vs - length st.waiting) (length vs) (edge_count vs) facts.cut
      ∙ (λ i. cond (ltb k (N x)) (Cut (steps_many i) (vertices_many i) (edges_many i))
      (Done (steps_many i) (vertices_many i) (edges_many i)))

  steps_are : settled_below g (vertex_count g) ≡ min k (N x)
  unfolding walk_of N reachable_pairs
  steps_are = counted-all ∙ facts.steps

  done_is : N x ≤ k → a ≡ Done (N x) (vertex_count g) (edges_in g)
  done_is l =
      let s : settled_below g (vertex_count g) ≡ N x = omega (arith, steps_are) in
      answer_is ∙ rw (le-ltb k (N x) l) (ap (λ (n : ℕ). Done n (vertex_count g) (edges_in g)) s)

  pub cut_theorem : CutTheorem rank x k a g
  unfolding walk_of N reachable_pairs
  cut_theorem =
      record {
        counted = steps_are;
        answered = answer_is;
        inside = λ v h. inner (pair_in g v) (facts.reached (pair_in g v) (known_pair v h));
        first = (initial_word, stands 0 (initial_pair x) facts.first.0 facts.first.1);
        distinct = apart;
        reached = λ v h. facts.reached (pair_in g v) (known_pair v h);
        settled = λ v h l.
            subst (λ (p : Pair). SettledRow rank x g v p) (sym (read v (omega (arith, counts))))
            (settled_row v (omega (arith, counts)) (shown v (omega (arith, counts)) l));
        waiting = λ v h n. waiting_row v (omega (arith, counts)) (waiting_shows v (omega (arith, counts)) n);
        order = ordered.order;
        walked =
            subst (λ (ps : List Pair). After (targets x) (initial_pair x) k ps ordered.order)
            (sym (pairs_read rank x st (length game))) ordered.after;
        taken = λ v h. (
          λ l. ⊎_elim (λ m. absurd (shown v (omega (arith, counts)) l m)) (λ o. o) (ordered.either v (omega (arith, counts))),
          λ o. shows v (omega (arith, counts)) (λ m. ordered.apart v m o),
        );
        begins = whole.begins;
        follows = whole.follows;
        ends = whole.ends;
        past = whole.past;
        exactly = facts.exactly;
        once = facts.once;
        within = facts.within;
        waits = some_waits;
        ended = done_is;
        complete = all_settled;
      }
