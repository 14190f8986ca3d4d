-- The vertices that the work words and the item table show are those of the walk: once the keys in the work words are
-- those of the walk's pairs. Assumes nothing.
use mathlib.Core.Path.{◌≡◌, refl, sym, ap, ◌∙◌, subst}
use mathlib.Core.Bool.{true, false, cond}
use mathlib.Core.List.{List, [], ◌∷◌, map, map-map}
use mathlib.Core.Logic.{◌⊎◌, inl, inr}
use Prim.Native.Nat.{ℕ, zero, suc, ◌+◌, ◌≤◌, ◌<◌, max}
use native.Mathlib.Omega.{arith}
use lib.ListN.{length, get_or, take, drop, length-map}
use lib.Dec.{eqb}
use borrow.Author.Tests.{lt-ltb, eq-eqb, ne_eqb}
use Rattle.player.specs.Player.{player_index}
use Rattle.player.specs.declared.Player.{Player}
use Rattle.rules.specs.Lists.{word, In, from, position}
use Rattle.rules.specs.Words.{Input}
use Rattle.rules.specs.Depth.{Ranking}
use Rattle.rules.specs.Pairs.{Pair, same_pair, initial_pair, owner, priority, targets, transitions_behind}
use Rattle.rules.specs.Reach.{Reachable, onward}
use Rattle.rules.specs.Walk.{Stand}
use Rattle.rules.specs.Game.{Edge, Vertex}
use Rattle.rules.specs.Run.{walk_of}
use Rattle.rules.specs.Vertices.{Ruled, waiting_vertex, stuck_priority, totalised_by, totalised, settled_vertex, ruled_edge, ruled_vertex, vertex_at, vertices_of}
use Rattle.tables.specs.Good.{GoodInput}
use Rattle.lists.specs.Shapes.{positions}
use Rattle.lists.proofs.Members.{map_at, in_at, in_or, position_at}
use Rattle.lists.proofs.Equalities.{number_equality, pair_equality}
use Rattle.arena.proofs.SelfTargets.{no_self_target}
use Rattle.walks.proofs.Steps.{sound}
use Rattle.walks.proofs.Rename.{positions-map}
use Rattle.theorems.proofs.Vertices.{vertex_waits, vertex_settled, settled-degree}
use Rattle.pairs.specs.Table.{key_at, state_at, item_at, keys_of}
use Rattle.pairs.proofs.Uses.{key_same, key-pair, key_item_below, key_word, length-keys}
use Rattle.settling.specs.declared.Counters.{Counters}
use Rattle.settling.specs.Keys.{pair_key, key_targets, key_behind, root_key}
use Rattle.settling.specs.Stand.{waiting_of, edges_of, counts_of, edges_for, counts_for, settled_in, start_in, degree_in}
use Rattle.settling.specs.Good.{Good, Stretch}
use Rattle.item_table.specs.Entries.{ShownAt, ItemTable, Ranks, kind_owner}
use Rattle.item_table.proofs.Steps.{entry_owner, ranks_priority}
use Rattle.game_writer.specs.Shown.{first_target, loops_in, shown_player, shown_owner, shown_priority, shown_edges, shown_vertex, shown_vertices}
use Rattle.game_writer.proofs.Vertices.{owner-settled, edges_settled, first_edge, shown_waiting}
use Rattle.theorems.proofs.Read.{settled-owner}
use Rattle.stepping.proofs.Keys.{reached_inside, item_fits, alike, moved, behind_moved}

-- ---- lists

-- a part is no longer than what is asked of it
part_length : (n : ℕ) (l : List ℕ) → length (take n l) ≤ n
part_length zero l = omega arith
part_length (suc n) [] = omega arith
part_length (suc n) (y ∷ l) = omega (arith, part_length n l)

map-from : (f g : ℕ → Vertex) (i n : ℕ) → ((u : ℕ) → i ≤ u → u < i + n → f u ≡ g u) → map f (from i n) ≡ map g (from i n)
unfolding from
map-from f g i zero h = refl
map-from f g i (suc n) h =
    ap (λ (y : Vertex). y ∷ map f (from (suc i) n)) (h i (omega arith) (omega arith))
    ∙ ap (λ (ys : List Vertex). g i ∷ ys) (map-from f g (suc i) n (λ u a b. h u (omega arith) (omega arith)))

-- ---- one vertex

-- a vertex that does not wait is settled, and its owner, priority and edges are those of the rules
module _ (rank : Ranking) (x : Input) (good : GoodInput x) (k : ℕ) (kinds lefts rights priorities : List ℕ)
    (table : ItemTable x kinds lefts rights) (ranks : Ranks rank x priorities)
    (w : List ℕ) (v e : ℕ) (c : Counters) (g : Good (key_targets x) (key_behind x) (root_key x) w v e c)
    (same_known : keys_of w v c.known ≡ map pair_key (walk_of x k).known) (same_waiting : waiting_of w v c.waiting ≡ (walk_of x k).waiting) where
  abbrev st : Stand Pair
  st = walk_of x k

  abbrev pair : ℕ → Pair
  pair u = get_or st.known u (initial_pair x)

  pub known_many : length st.known ≡ c.known
  known_many = sym (length-map st.known pair_key) ∙ ap length (sym same_known) ∙ length-keys w v c.known

  reached : (p : Pair) → In p st.known → Reachable (targets x) (initial_pair x) p
  unfolding walk_of
  reached = (sound pair_equality (targets x) (initial_pair x) k).reached

  pair_reached : (u : ℕ) → u < c.known → Reachable (targets x) (initial_pair x) (pair u)
  pair_reached u h = reached (pair u) (in_at st.known u (initial_pair x) (omega (arith, known_many)))

  key-at : (u : ℕ) → u < c.known → get_or (keys_of w v c.known) u (root_key x) ≡ pair_key (pair u)
  key-at u h = ap (λ (l : List ℕ). get_or l u (root_key x)) same_known ∙ map_at pair_key st.known u (initial_pair x) (root_key x) (omega (arith, known_many))

  word_at : (u : ℕ) → u < c.known → word (keys_of w v c.known) u ≡ pair_key (pair u)
  word_at u h = ap (λ (l : List ℕ). get_or l u 0) same_known ∙ map_at pair_key st.known u (initial_pair x) 0 (omega (arith, known_many))

  -- the state and the item of a vertex are those of its pair
  pair-at : (u : ℕ) → u < c.known → (state_at w v u ≡ (pair u).0) × (item_at w v u ≡ (pair u).1)
  pair-at u h =
      key_same (state_at w v u) (item_at w v u) (pair u).0 (pair u).1 (key_item_below (key_at w v u))
      (item_fits x good (pair u) (reached_inside x good (pair u) (pair_reached u h)))
      (sym (key-pair (key_at w v u)) ∙ sym (key_word w v c.known u h) ∙ word_at u h)

  targets_at : (u : ℕ) → u < c.known → key_targets x (get_or (keys_of w v c.known) u (root_key x)) ≡ map pair_key (targets x (pair u))
  targets_at u h = ap (λ (n : ℕ). key_targets x n) (key-at u h) ∙ moved x good (pair u) (pair_reached u h)

  numbers_at : (u : ℕ) → u < c.known → (t : Pair) → In t (targets x (pair u)) → Reachable (targets x) (initial_pair x) t
  numbers_at u h t m = onward (pair_reached u h) m

  -- the edges of a settled vertex, as the rules number its targets
  abbrev numbers : ℕ → List ℕ
  numbers u = map (λ q. position same_pair q st.known) (targets x (pair u))

  positions_at : (u : ℕ) → u < c.known → positions eqb (keys_of w v c.known) (map pair_key (targets x (pair u))) ≡ numbers u
  unfolding positions
  positions_at u h =
      ap (λ (l : List ℕ). positions eqb l (map pair_key (targets x (pair u)))) same_known
      ∙ positions-map pair_equality number_equality pair_key (targets x) (key_targets x) (initial_pair x) (alike x good) (moved x good) st.known (targets x (pair u)) reached (numbers_at u h)

  -- the edge that the rules give the pair of vertex u to this target
  abbrev edge : ℕ → Pair → Edge
  edge u = ruled_edge x st (pair u)

  -- the vertex of a pair with these targets
  abbrev ruled_of : ℕ → Player → ℕ → List Pair → Ruled
  ruled_of u o p ts = record { owner = o; priority = p; edges = map (edge u) ts }

  abbrev settled : ℕ → Player → ℕ → List Pair → Vertex
  settled u o p ts = settled_vertex (pair u) (totalised u (ruled_of u o p ts))

  abbrev target_words : Vertex → List ℕ
  target_words y = map (λ (d : Edge). d.target) y.edges

  abbrev count_words : Vertex → List ℕ
  count_words y = map (λ (d : Edge). d.count) y.edges

  targets_for : (u : ℕ) (o : Player) (p : ℕ) (ts : List Pair)
      → positions eqb (keys_of w v c.known) (map pair_key ts) ≡ map (λ q. position same_pair q st.known) ts
      → edges_for u (keys_of w v c.known) (map pair_key ts) ≡ target_words (settled u o p ts)
  unfolding edges_for settled_vertex totalised totalised_by ruled_edge
  targets_for u o p [] s = refl
  targets_for u o p (t ∷ ts) s = s ∙ sym (map-map (λ (d : Edge). d.target) (edge u) (t ∷ ts))

  counts-for : (u : ℕ) (o : Player) (p : ℕ) (ts : List Pair)
      → map (key_behind x (pair_key (pair u))) (map pair_key ts) ≡ map (transitions_behind x (pair u)) ts
      → counts_for (key_behind x (pair_key (pair u))) (map pair_key ts) ≡ count_words (settled u o p ts)
  unfolding counts_for settled_vertex totalised totalised_by ruled_edge
  counts-for u o p [] s = refl
  counts-for u o p (t ∷ ts) s = s ∙ sym (map-map (λ (d : Edge). d.count) (edge u) (t ∷ ts))

  stretch_at : (u : ℕ) → u < c.known → (¬ In u st.waiting)
      → Stretch (key_targets x) (key_behind x) (root_key x) w v e c u
  stretch_at u h n = g.stretches u (omega (arith, length-keys w v c.known), λ m. n (subst (In u) same_waiting m))

  -- the targets of its edges as they stand in the buffer
  abbrev targets_of : ℕ → List ℕ
  targets_of u = take (degree_in w v u) (drop (start_in w v u) (edges_of w v e c.edges))

  part_targets : (u : ℕ) → u < c.known → (¬ In u st.waiting) → (o : Player) (p : ℕ)
      → targets_of u ≡ target_words (settled u o p (targets x (pair u)))
  part_targets u h n o p =
      let s = stretch_at u h n in
      s.row
      ∙ ap (edges_for u (keys_of w v c.known)) (targets_at u h)
      ∙ targets_for u o p (targets x (pair u)) (positions_at u h)

  part_counts : (u : ℕ) → u < c.known → (¬ In u st.waiting) → (o : Player) (p : ℕ)
      → take (degree_in w v u) (drop (start_in w v u) (counts_of w v e c.edges))
      ≡ count_words (settled u o p (targets x (pair u)))
  part_counts u h n o p =
      let s = stretch_at u h n in
      let key = pair_key (pair u) in
      s.counts
      ∙ ap (λ (l : ℕ). counts_for (key_behind x l) (key_targets x l)) (key-at u h)
      ∙ ap (counts_for (key_behind x key)) (moved x good (pair u) (pair_reached u h))
      ∙ counts-for u o p (targets x (pair u)) (behind_moved x good (pair u) (pair_reached u h))

  -- there is an edge, if only to itself
  some_edge : (u : ℕ) → u < c.known → (¬ In u st.waiting) → 0 < degree_in w v u
  some_edge u h n =
      let o = owner x (pair u) in
      let part : List ℕ = targets_of u in
      let y : Vertex = settled u o 0 (targets x (pair u)) in
      let long : length part ≡ max 1 (length (ruled_of u o 0 (targets x (pair u))).edges)
      = ap length (part_targets u h n o 0) ∙ length-map y.edges (λ (d : Edge). d.target)
      ∙ settled-degree u (pair u) (ruled_of u o 0 (targets x (pair u))) in
      omega (arith, part_length (degree_in w v u) (drop (start_in w v u) (edges_of w v e c.edges)))

  waits_unsettled : (u : ℕ) → u < c.known → In u st.waiting → settled_in w v u ≡ false
  waits_unsettled u h m =
      g.unsettled u (omega (arith, g.ready.table.slots.room)) (λ s. s.1 (subst (In u) (sym same_waiting) m))

  entry_at : (u : ℕ) → u < c.known → ShownAt x kinds lefts rights (pair u).1
  entry_at u h = table.entry (pair u).1 (reached_inside x good (pair u) (pair_reached u h)).1

  player_at : (u : ℕ) → u < c.known → shown_player kinds w v u ≡ owner x (pair u)
  unfolding shown_player
  player_at u h =
      ap (λ (q : ℕ). kind_owner (word kinds q)) (pair-at u h).1
      ∙ sym (entry_owner x (pair u).1 (word kinds (pair u).1) (word lefts (pair u).1) (word rights (pair u).1) (pair u).0 (entry_at u h))

  priority_at : (u : ℕ) → u < c.known → word priorities (item_at w v u) ≡ priority rank x (pair u)
  priority_at u h = ap (word priorities) (pair-at u h).1 ∙ ranks_priority rank x priorities ranks (pair u).0 (pair u).1

  -- the first edge of a vertex with targets leads to another vertex
  first-other : (u : ℕ) → u < c.known → (¬ In u st.waiting) → (t : Pair) → In t (targets x (pair u)) → ¬ (position same_pair t st.known ≡ u)
  unfolding walk_of
  first-other u h n t m e =
      let l : u < length st.known = omega (arith, known_many) in
      let known = (sound pair_equality (targets x) (initial_pair x) k).edges u l n t m in
      let same : t ≡ pair u = sym (position_at pair_equality t st.known (initial_pair x) known) ∙ ap (λ (i : ℕ). get_or st.known i (initial_pair x)) e in
      no_self_target x good (pair u) (reached_inside x good (pair u) (pair_reached u h)) (subst (λ (q : Pair). In q (targets x (pair u))) same m)

  settled-priority : (u : ℕ) (o : Player) (p : ℕ) (ts : List Pair) → 0 < degree_in w v u
      → start_in w v u + degree_in w v u ≤ c.edges → targets_of u ≡ target_words (settled u o p ts)
      → ((t : Pair) → In t ts → ¬ (position same_pair t st.known ≡ u))
      → cond (loops_in w v e u) (stuck_priority o) p ≡ (settled u o p ts).priority
  unfolding settled_vertex totalised totalised_by loops_in ruled_edge
  settled-priority u o p [] some inside f other =
      let first : first_target w v e u ≡ u = first_edge w v e u c.edges some inside u [] f in
      rw (lt-ltb 0 (degree_in w v u) some, eq-eqb (first_target w v e u) u first) refl
  settled-priority u o p (t ∷ ts) some inside f other =
      let more : List ℕ = map (λ (d : Edge). d.target) (ruled_of u o p ts).edges in
      let first : first_target w v e u ≡ position same_pair t st.known
      = first_edge w v e u c.edges some inside (position same_pair t st.known) more f in
      let apart = ne_eqb (first_target w v e u) u (λ q. other t (inl refl) (sym first ∙ q)) in
      rw (lt-ltb 0 (degree_in w v u) some, apart) refl

  abbrev ruled : ℕ → Vertex
  ruled u = settled u (owner x (pair u)) (priority rank x (pair u)) (targets x (pair u))

  shown_settled : (u : ℕ) → u < c.known → (¬ In u st.waiting) → shown_vertex kinds priorities w v e u ≡ ruled u
  unfolding shown_vertex shown_priority settled_vertex
  shown_settled u h n =
      let s = stretch_at u h n in
      let some : settled_in w v u ≡ true = s.settled in
      let o = owner x (pair u) in
      let p = priority rank x (pair u) in
      let led = part_targets u h n o p in
      let a : shown_owner kinds w v u ≡ (ruled u).owner
      = owner-settled kinds w v u some ∙ ap player_index (player_at u h)
      ∙ sym (settled-owner u (pair u) (ruled_of u o p (targets x (pair u)))) in
      let b : shown_priority kinds priorities w v e u ≡ (ruled u).priority
      = rw (some, player_at u h, priority_at u h)
      (settled-priority u o p (targets x (pair u)) (some_edge u h n) s.inside led (first-other u h n)) in
      let d : shown_edges w v e u ≡ (ruled u).edges
      = edges_settled w v e u c.edges s.inside (ruled u).edges led (part_counts u h n o p) in
      let m = pair-at u h in
      λ i. record { owner = a i; priority = b i; state = m.0 i; item = m.1 i; edges = d i }

  shown_waits : (u : ℕ) → u < c.known → In u st.waiting → shown_vertex kinds priorities w v e u ≡ waiting_vertex (pair u)
  shown_waits u h m =
      let s = pair-at u h in
      shown_waiting kinds priorities w v e u (waits_unsettled u h m) ∙ (λ i. waiting_vertex (s.0 i, s.1 i))

  -- what the rules give vertex u
  abbrev at : ℕ → Vertex
  at = vertex_at rank x st

  shown-vertex : (u : ℕ) → u < c.known → shown_vertex kinds priorities w v e u ≡ at u
  unfolding ruled_vertex
  shown-vertex u h = go (in_or number_equality u st.waiting)
    where
      go : In u st.waiting ⊎ (¬ In u st.waiting) → shown_vertex kinds priorities w v e u ≡ at u
      go (inl m) =
          shown_waits u h m ∙ sym (vertex_waits rank x st u m)
      go (inr n) =
          shown_settled u h n ∙ sym (vertex_settled rank x st u n)

  -- the vertices shown are those of the rules
  pub shown_all : shown_vertices kinds priorities w v e c.known ≡ vertices_of rank x (walk_of x k)
  unfolding shown_vertices vertices_of
  shown_all =
      map-from (shown_vertex kinds priorities w v e) at 0 c.known (λ u a b. shown-vertex u (omega arith))
      ∙ ap (λ (n : ℕ). map at (from 0 n)) (sym known_many)
