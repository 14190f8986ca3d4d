-- From keys to pairs: a walk over keys that stands in the work words is the rules' walk over pairs. Assumes nothing.
use mathlib.Core.Path.{◌≡◌, refl, sym, ◌∙◌, ap, ap₂, subst}
use mathlib.Core.Bool.{true, false, cond}
use mathlib.Core.List.{List, map}
use mathlib.Core.Logic.{◌⊎◌, inl, inr, ⊎_elim}
use Prim.Native.Nat.{ℕ, zero, suc, ◌+◌, ◌-◌, ◌≤◌, ◌<◌, max}
use native.Mathlib.Omega.{arith}
use lib.Dec.{eqb, ltb}
use lib.ListN.{length, get_or, length-map}
use borrow.Author.Tests.{lt-ltb, le-ltb}
use Rattle.rules.specs.Lists.{In, has}
use Rattle.rules.specs.Words.{Input, room_of}
use Rattle.rules.specs.Depth.{Ranking}
use Rattle.rules.specs.Pairs.{Pair, initial_pair, targets}
use Rattle.rules.specs.Reach.{Reachable}
use Rattle.rules.specs.Walk.{Stand, walk}
use Rattle.rules.specs.Game.{edge_count}
use Rattle.rules.specs.Run.{walk_of, exceeds}
use Rattle.rules.specs.Vertices.{vertices_of}
use Rattle.tables.specs.Good.{GoodInput}
use Rattle.lists.proofs.Members.{in_at}
use Rattle.lists.proofs.Equalities.{number_equality, pair_equality}
use Rattle.walks.specs.Sums.{Settled, sum_below, sum_settled}
use Rattle.walks.proofs.Steps.{sound}
use Rattle.walks.proofs.Rename.{renamed, walk_map, sum_renamed}
use Rattle.theorems.proofs.Vertices.{length_vertices, count-edges}
use Rattle.work_slice.specs.Regions.{region}
use Rattle.pairs.specs.Table.{keys_of}
use Rattle.pairs.proofs.Uses.{length-keys}
use Rattle.settling.specs.declared.Counters.{Counters}
use Rattle.settling.specs.Keys.{pair_key, key_targets, key_behind, root_key}
use Rattle.settling.specs.Stand.{stand_of, waiting_of, settled_in, start_in, degree_in}
use Rattle.settling.specs.Good.{edges_due, Exceeding, Stretch, WalkMade}
use Rattle.settling.proofs.Buffer.{length-waiting_in}
use Rattle.stepping.proofs.Keys.{alike, moved}
use Rattle.stepping.proofs.Offsets.{waits_unsettled}
use Rattle.lists.proofs.Tests.{or_left, or_right}

-- ---- lists

-- weights that agree where they are asked for
same_weights : {A : Type 0} (a b : A → ℕ) (root : A) (st : Stand A) (n : ℕ) → ((u : ℕ) → u < n → a (get_or st.known u root) ≡ b (get_or st.known u root))
    → sum_below a root st n ≡ sum_below b root st n
unfolding sum_below
same_weights a b root st zero h = refl
same_weights a b root st (suc u) h =
    ap₂ (λ (m n : ℕ). cond (has eqb u st.waiting) 0 m + n) (h u (omega arith)) (same_weights a b root st u (λ i l. h i (omega arith)))

module _ (x : Input) (good : GoodInput x) where
  -- the walk over keys is the walk over pairs
  pub walk_keys : (k : ℕ) → walk eqb (key_targets x) (root_key x) k ≡ renamed pair_key (walk_of x k)
  unfolding walk_of
  walk_keys k = walk_map pair_equality number_equality pair_key (targets x) (key_targets x) (initial_pair x) (alike x good) (moved x good) k

  pub pair_reached : (k : ℕ) (p : Pair) → In p (walk_of x k).known → Reachable (targets x) (initial_pair x) p
  unfolding walk_of
  pair_reached k p m = (sound pair_equality (targets x) (initial_pair x) k).reached p m

  pub at_reached : (k u : ℕ) → u < length (walk_of x k).known → Reachable (targets x) (initial_pair x) (get_or (walk_of x k).known u (initial_pair x))
  at_reached k u h = pair_reached k (get_or (walk_of x k).known u (initial_pair x)) (in_at (walk_of x k).known u (initial_pair x) h)

  -- a pair that is known has as many targets as its key
  weights : (k u : ℕ) → u < length (walk_of x k).known
      → edges_due (key_targets x) (pair_key (get_or (walk_of x k).known u (initial_pair x))) ≡ edges_due (targets x) (get_or (walk_of x k).known u (initial_pair x))
  weights k u h =
      let p = get_or (walk_of x k).known u (initial_pair x) in
      ap (λ (l : List ℕ). max 1 (length l)) (moved x good p (at_reached k u h)) ∙ ap (max 1) (length-map (targets x p) pair_key)

  pub sum-pairs : (k : ℕ) → sum_settled (edges_due (key_targets x)) (root_key x) (walk eqb (key_targets x) (root_key x) k) ≡ sum_settled (edges_due (targets x)) (initial_pair x) (walk_of x k)
  unfolding sum_settled
  sum-pairs k =
      ap (sum_settled (edges_due (key_targets x)) (root_key x)) (walk_keys k)
      ∙ sum_renamed pair_key (edges_due (key_targets x)) (initial_pair x) (walk_of x k)
      ∙ same_weights (λ p. edges_due (key_targets x) (pair_key p)) (edges_due (targets x)) (initial_pair x) (walk_of x k) (length (walk_of x k).known) (λ u h. weights k u h)

  -- ---- too many vertices or edges

  -- the vertices or the edges of the walk over pairs are too many
  pub exceeding_pairs : (k v e : ℕ) → Exceeding (key_targets x) (root_key x) v e (walk eqb (key_targets x) (root_key x) k)
      → (v < length (walk_of x k).known) ⊎ (e < sum_settled (edges_due (targets x)) (initial_pair x) (walk_of x k))
  exceeding_pairs k v e f =
      ⊎_elim
      (λ l. inl (omega (arith, ap (λ (st : Stand ℕ). length st.known) (walk_keys k), length-map (walk_of x k).known pair_key)))
      (λ l. inr (omega (arith, sum-pairs k)))
      f

  module _ (rank : Ranking) (k v e : ℕ) where
    edges_counted : edge_count (vertices_of rank x (walk_of x k)) ≡ sum_settled (edges_due (targets x)) (initial_pair x) (walk_of x k)
    edges_counted = count-edges rank x (walk_of x k)

    vertices_counted : length (vertices_of rank x (walk_of x k)) ≡ length (walk_of x k).known
    vertices_counted = length_vertices rank x (walk_of x k)

    -- a walk that is full is refused for want of room
    pub full_exceeds : Exceeding (key_targets x) (root_key x) v e (walk eqb (key_targets x) (root_key x) k) → exceeds (room_of v e) (vertices_of rank x (walk_of x k)) ≡ true
    unfolding exceeds
    full_exceeds f =
        ⊎_elim
        (λ l. or_left (ltb e (edge_count (vertices_of rank x (walk_of x k)))) (lt-ltb v (length (vertices_of rank x (walk_of x k))) (omega (arith, vertices_counted))))
        (λ l. or_right (ltb v (length (vertices_of rank x (walk_of x k)))) (lt-ltb e (edge_count (vertices_of rank x (walk_of x k))) (omega (arith, edges_counted))))
        (exceeding_pairs k v e f)

  -- ---- what stands in the words

  module _ (k v e : ℕ) (w : List ℕ) (c : Counters)
      (m : WalkMade (key_targets x) (key_behind x) (root_key x) v e k w c) where
    pub known_pairs : keys_of w v c.known ≡ map pair_key (walk_of x k).known
    known_pairs = ap (λ (st : Stand ℕ). st.known) (m.stands ∙ walk_keys k)

    pub waiting_pairs : waiting_of w v c.waiting ≡ (walk_of x k).waiting
    waiting_pairs = ap (λ (st : Stand ℕ). st.waiting) (m.stands ∙ walk_keys k)

    pub known_count : c.known ≡ length (walk_of x k).known
    known_count = sym (length-keys w v c.known) ∙ ap length known_pairs ∙ length-map (walk_of x k).known pair_key

    pub waiting_count : c.waiting ≡ length (walk_of x k).waiting
    waiting_count = sym (length-waiting_in (region 4 v w) c.waiting) ∙ ap length waiting_pairs

    pub edges_count : c.edges ≡ sum_settled (edges_due (targets x)) (initial_pair x) (walk_of x k)
    edges_count = m.good.total ∙ ap (sum_settled (edges_due (key_targets x)) (root_key x)) m.stands ∙ sum-pairs k

    -- each step settles one vertex
    pub settled_count : c.settled ≡ length (walk_of x k).known - length (walk_of x k).waiting
    settled_count = omega (arith, m.good.balance, known_count, waiting_count)

    -- a walk that stands in the words has room
    pub made_fits : (rank : Ranking) → exceeds (room_of v e) (vertices_of rank x (walk_of x k)) ≡ false
    unfolding exceeds
    made_fits rank =
        rw (
          le-ltb v (length (vertices_of rank x (walk_of x k))) (omega (arith, vertices_counted rank k v e, known_count, m.good.ready.table.slots.room)),
          le-ltb e (edge_count (vertices_of rank x (walk_of x k))) (omega (arith, edges_counted rank k v e, edges_count, m.good.ready.buffer)),
        ) refl

    module _ (u : ℕ) (h : u < length (walk_of x k).known) where
      -- where it waits it is not settled
      pub waits_at : In u (walk_of x k).waiting → settled_in w v u ≡ false
      waits_at i =
          waits_unsettled (key_targets x) (key_behind x) (root_key x) v e w c m.good u (omega (arith, known_count))
          (subst (In u) (sym waiting_pairs) i)

      -- where it does not wait, its edges stand in the buffer
      module _ (out : ¬ In u (walk_of x k).waiting) where
        settled_key : Settled (stand_of w v c) u
        settled_key = (omega (arith, length-keys w v c.known, known_count), λ i. out (subst (In u) waiting_pairs i))

        stretch : Stretch (key_targets x) (key_behind x) (root_key x) w v e c u
        stretch = m.good.stretches u settled_key

        pub stretch_inside : start_in w v u + degree_in w v u ≤ c.edges
        stretch_inside = stretch.inside
