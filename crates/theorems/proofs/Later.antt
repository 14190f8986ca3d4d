-- A cut game is part of every later one: each vertex shows the same pair, and one that is settled after k steps the
-- same owner, priority and edges, with their counts, after any more. Assumes nothing.
use mathlib.Core.Path.{◌≡◌, refl, sym, ap, ◌∙◌, subst}
use mathlib.Core.Bool.{Bool}
use mathlib.Core.List.{List, [], ◌∷◌, map}
use mathlib.Core.Logic.{inl, inr, ⊎_elim}
use Prim.Native.Nat.{ℕ, zero, suc, ◌+◌, ◌-◌, ◌≤◌, ◌<◌}
use native.Mathlib.Omega.{arith}
use lib.ListN.{length, get_or}
use Rattle.rules.specs.Lists.{In, position, insert_all}
use Rattle.rules.specs.Words.{Input}
use Rattle.rules.specs.Depth.{Ranking}
use Rattle.rules.specs.Pairs.{Pair, initial_pair, owner, priority, targets, transitions_behind}
use Rattle.rules.specs.Walk.{Stand, walk, settle, step_from, step}
use Rattle.rules.specs.Game.{Edge, Vertex, game_of, padded}
use Rattle.rules.specs.Game.{vertex_count, owner_in, priority_in, pair_in, targets_in, counts_in}
use Rattle.rules.specs.Run.{walk_of}
use Rattle.rules.specs.Vertices.{totalised, settled_vertex, ruled_edge, ruled_vertex, vertex_at, vertices_of}
use Rattle.lists.specs.Shapes.{Begins, Equality}
use Rattle.lists.proofs.Members.{position_begins}
use Rattle.lists.proofs.Shapes.{begins-at, begins_length}
use Rattle.lists.proofs.Equalities.{pair_equality}
use Rattle.walks.specs.Sums.{Settled}
use Rattle.walks.proofs.Steps.{sound, walk_step, begins_step, walk_later}
use Rattle.walks.proofs.Facts.{walk_keeps}
use Rattle.walks.proofs.Push.{push_only}
use Rattle.theorems.proofs.Vertices.{pair_at, vertex_settled}
use Rattle.theorems.proofs.Read.{count_word, row_settled, pair_read, below_settled}

module _ {A : Type 0} {same : A → A → Bool} (eq : Equality same) (next : A → List A) (root : A) where
  -- a step lets no settled vertex wait again
  step_settled : (known : List A) (waiting : List ℕ) (v : ℕ) → v < length known → (¬ In v waiting) → ¬ In v (step_from same next root known waiting).waiting
  unfolding step_from settle
  step_settled known [] v h n m = n m
  step_settled known (u ∷ rest) v h n m =
      ⊎_elim (λ l. absurd (omega arith)) (λ i. n (inr i))
      (push_only (length known) (length (insert_all same known (next (get_or known u root))) - length known) rest v m)

  settled_step : (st : Stand A) (v : ℕ) → Settled st v → Settled (step same next root st) v
  unfolding step
  settled_step st v (h, n) = (omega (arith, begins_length st.known (step same next root st).known (begins_step eq next root st)), step_settled st.known st.waiting v h n)

  settled_on : (k i v : ℕ) → Settled (walk same next root k) v → Settled (walk same next root (k + i)) v
  settled_on k zero v s = let e : k ≡ k + 0 = omega arith in subst (λ (n : ℕ). Settled (walk same next root n) v) e s
  settled_on k (suc i) v s =
      let e : suc (k + i) ≡ k + suc i = omega arith in
      subst (λ (n : ℕ). Settled (walk same next root n) v) e
      (subst (λ (st : Stand A). Settled st v) (sym (walk_step same next root (k + i))) (settled_step (walk same next root (k + i)) v (settled_on k i v s)))

  pub settled_stays : (k j v : ℕ) → k ≤ j → Settled (walk same next root k) v → Settled (walk same next root j) v
  settled_stays k j v h s = walk_later same next root k j h (λ st. Settled st v) (λ i. settled_on k i v s)

  -- the edge to q where these are known, with a count that does not depend on them
  abbrev edge : (A → ℕ) → List A → A → Edge
  edge count known q = record { target = position same q known; count = count q }

  edges_stay : (known more : List A) → Begins known more → (count : A → ℕ) (ts : List A)
      → ((q : A) → In q ts → In q known) → map (edge count more) ts ≡ map (edge count known) ts
  edges_stay known more b count [] f = refl
  edges_stay known more b count (t ∷ ts) f =
      ap (λ (n : ℕ). record { target = n; count = count t } ∷ map (edge count more) ts)
      (position_begins eq t known more (f t (inl refl)) b)
      ∙ ap (λ (es : List Edge). edge count known t ∷ es) (edges_stay known more b count ts (λ q m. f q (inr m)))

-- one vertex of two runs, of which the second makes more steps
module _ (rank : Ranking) (x : Input) (k j v : ℕ) (h : k ≤ j) where
  abbrev st : Stand Pair
  st = walk_of x k

  abbrev later : Stand Pair
  later = walk_of x j

  -- it keeps its pair, waiting or settled
  keeps_pair : v < length st.known → pair_at rank x later v ≡ pair_at rank x st v
  unfolding walk_of
  keeps_pair l =
      begins-at st.known later.known (initial_pair x) (walk_keeps pair_equality (targets x) (initial_pair x) k j h) v l

  still_settled : Settled st v → Settled later v
  unfolding walk_of
  still_settled s = settled_stays pair_equality (targets x) (initial_pair x) k j v h s

  -- the edges of a pair whose targets are known by then
  same_edges : Settled st v
      → map (ruled_edge x later (pair_at rank x st v)) (targets x (pair_at rank x st v))
      ≡ map (ruled_edge x st (pair_at rank x st v)) (targets x (pair_at rank x st v))
  unfolding walk_of ruled_edge
  same_edges s =
      let p : Pair = pair_at rank x st v in
      edges_stay pair_equality (targets x) (initial_pair x) st.known later.known
      (walk_keeps pair_equality (targets x) (initial_pair x) k j h) (transitions_behind x p) (targets x p)
      ((sound pair_equality (targets x) (initial_pair x) k).edges v s.0 s.1)

  -- settled after k steps, it is shown alike after j
  pub vertex_stays : Settled st v → vertex_at rank x later v ≡ vertex_at rank x st v
  unfolding ruled_vertex
  vertex_stays s =
      let p : Pair = pair_at rank x st v in
      vertex_settled rank x later v (still_settled s).1
      ∙ ap (λ (q : Pair). settled_vertex q (totalised v (ruled_vertex rank x later q))) (keeps_pair s.0)
      ∙ ap (λ (es : List Edge). settled_vertex p
      (totalised v (record { owner = owner x p; priority = priority rank x p; edges = es }))) (same_edges s)
      ∙ sym (vertex_settled rank x st v s.1)

  -- the same of the words of the two runs' games
  module _ (n m : ℕ) where
    abbrev before : List ℕ
    before = padded n (game_of 0 (vertices_of rank x st))

    abbrev after : List ℕ
    after = padded m (game_of 0 (vertices_of rank x later))

    known : v < vertex_count before → v < length st.known
    known l = omega (arith, count_word rank x st n)

    known_later : v < vertex_count before → v < length later.known
    unfolding walk_of
    known_later l =
        omega (
          arith,
          known l,
          begins_length st.known later.known (walk_keeps pair_equality (targets x) (initial_pair x) k j h),
        )

    pub pair_stays : v < vertex_count before → pair_in after v ≡ pair_in before v
    pair_stays l =
        pair_read rank x later m v (known_later l) ∙ keeps_pair (known l) ∙ sym (pair_read rank x st n v (known l))

    pub cut_game_stays : v < vertex_count before → owner_in before v < 2
        → (owner_in after v ≡ owner_in before v) × (priority_in after v ≡ priority_in before v)
        × (targets_in after v ≡ targets_in before v) × (counts_in after v ≡ counts_in before v)
    cut_game_stays l o =
        let s : Settled st v = (known l, below_settled rank x st n v (known l) o) in
        let t : Settled later v = still_settled s in
        let p = row_settled rank x st n v s.0 s.1 in
        let q = row_settled rank x later m v t.0 t.1 in
        let e =
        sym (vertex_settled rank x later v t.1) ∙ vertex_stays s ∙ vertex_settled rank x st v s.1 in (
          q.owner ∙ ap (λ (y : Vertex). y.owner) e ∙ sym p.owner,
          q.priority ∙ ap (λ (y : Vertex). y.priority) e ∙ sym p.priority,
          q.targets ∙ ap (λ (y : Vertex). map (λ (z : Edge). z.target) y.edges) e ∙ sym p.targets,
          q.counts ∙ ap (λ (y : Vertex). map (λ (z : Edge). z.count) y.edges) e ∙ sym p.counts,
        )
