-- What is read from the words of a run's game: of each vertex, by whether it waits; and that the words are a whole
-- game. Assumes nothing.
use mathlib.Core.Path.{◌≡◌, refl, sym, ap, ◌∙◌, subst}
use mathlib.Core.List.{List, [], ◌∷◌, ◌++◌}
use mathlib.Core.Logic.{◌⊎◌, inl, inr}
use Prim.Native.Nat.{ℕ, zero, suc, ◌+◌, ◌-◌, ◌≤◌, ◌<◌}
use native.Mathlib.Omega.{arith}
use native.Mathlib.Decide.{dec_lt}
use lib.ListN.{length, get_or, take, replicate, length-append, length-map, length-replicate, get_or-replicate}
use lib.Seq.{take_all, get_or-append-add, ext_get_or}
use borrow.Author.Tests.{lt-ltb, le-ltb}
use Rattle.player.specs.Player.{player_index}
use Rattle.player.specs.declared.Player.{Player}
use Rattle.player.specs.declared.Player.TheVariants.{Even, Odd}
use Rattle.rules.specs.Lists.{word, sum, In}
use Rattle.rules.specs.Words.{Input}
use Rattle.rules.specs.Depth.{Ranking}
use Rattle.rules.specs.Pairs.{Pair, initial_pair, owner}
use Rattle.rules.specs.Walk.{Stand}
use Rattle.rules.specs.Game.{Edge, Vertex, blank_vertex, edge_count, game_of, padded, vertex_count, owner_in}
use Rattle.rules.specs.Game.{pair_in, pairs_in, offset_in, targets_in, game_end}
use Rattle.rules.specs.Vertices.{Ruled, waiting_vertex, totalised_by, totalised, settled_vertex, ruled_vertex, vertex_at}
use Rattle.rules.specs.Vertices.{vertices_of}
use Rattle.rules.specs.Demands.{settled_below}
use Rattle.lists.proofs.Members.{in_has, not_in, in_or}
use Rattle.lists.proofs.Equalities.{number_equality}
use Rattle.walks.specs.Sums.{sum_below}
use Rattle.games.proofs.Reading.{count_read, edges_read, offset_read, edge_words_read, row_read, length_read}
use Rattle.games.proofs.Rewriting.{Whole}
use Rattle.games.specs.Rows.{Row}
use Rattle.theorems.proofs.Pairs.{pairs_many, pair_of}
use Rattle.theorems.proofs.Vertices.{length_vertices, vertex-at, vertex_waits, vertex_settled, vertex_pair, pair_at, ruled_at}

-- ---- words past the end

word-past : (ws : List ℕ) (i : ℕ) → length ws ≤ i → word ws i ≡ 0
word-past [] i h = refl
word-past (w ∷ ws) zero h = absurd (omega arith)
word-past (w ∷ ws) (suc i) h = word-past ws i (omega arith)

zeros_past : (ws : List ℕ) (n i : ℕ) → length ws ≤ i → word (ws ++ replicate n 0) i ≡ 0
zeros_past ws n i h =
    let e : i ≡ length ws + (i - length ws) = omega arith in
    ap (word (ws ++ replicate n 0)) e ∙ get_or-append-add ws (replicate n 0) (i - length ws) 0 ∙ zero_at n (i - length ws)
  where
    zero_at : (m j : ℕ) → word (replicate m 0) j ≡ 0
    zero_at m j = go (dec_lt j m)
      where
        go : Dec (j < m) → word (replicate m 0) j ≡ 0
        go (yes l) = get_or-replicate {A = ℕ} m j 0 0 l
        go (no l) = word-past (replicate m 0) j (omega (arith, length-replicate {A = ℕ} m 0))

-- ---- any game's words

count-more : (vs : List Vertex) (v : ℕ) (d : Vertex) → v < length vs → edge_count (take (suc v) vs) ≡ edge_count (take v vs) + length (get_or vs v d).edges
unfolding edge_count sum
count-more [] v d h = absurd (omega arith)
count-more (x ∷ vs) zero d h = omega arith
count-more (x ∷ vs) (suc v) d h = omega (arith, count-more vs v d (omega arith))

module _ (vs : List Vertex) (n : ℕ) (room : length (game_of 0 vs) ≤ n) where
  abbrev rest : List ℕ
  rest = replicate (n - length (game_of 0 vs)) 0

  end_read : game_end (game_of 0 vs ++ rest) ≡ length (game_of 0 vs)
  end_read = omega (arith, length_read 0 vs, count_read 0 vs rest, edges_read 0 vs rest)

  count_none : edge_count (take 0 vs) ≡ 0
  unfolding edge_count sum
  count_none = refl

  degree_read : (v : ℕ) → v < length vs
      → length (targets_in (game_of 0 vs ++ rest) v) ≡ length (get_or vs v blank_vertex).edges
  degree_read v l =
      ap length (edge_words_read 0 vs rest 0 v blank_vertex (omega arith) l)
      ∙ length-map (get_or vs v blank_vertex).edges (λ (e : Edge). e.target)

  pub whole_game : Whole (padded n (game_of 0 vs))
  unfolding padded
  whole_game =
      record {
        begins = offset_read 0 vs rest 0 (omega arith) ∙ count_none;
        follows = λ v h. let l : v < length vs = omega (arith, count_read 0 vs rest) in
            offset_read 0 vs rest (suc v) l ∙ count-more vs v blank_vertex l
            ∙ omega (arith, offset_read 0 vs rest v (omega arith), degree_read v l);
        ends = (
          ap (λ (v : ℕ). offset_in (game_of 0 vs ++ rest) v) (count_read 0 vs rest)
              ∙ offset_read 0 vs rest (length vs) (omega arith)
              ∙ ap edge_count (take_all (length vs) vs (omega arith)) ∙ sym (edges_read 0 vs rest),
          omega (arith, end_read, length-append (game_of 0 vs) rest),
        );
        past = λ i h. zeros_past (game_of 0 vs) (n - length (game_of 0 vs)) i (omega (arith, end_read));
      }

-- ---- the game where a walk stands

pub player_below : (p : Player) → player_index p < 2
player_below Even = omega arith
player_below Odd = omega arith

pub settled-owner : (v : ℕ) (p : Pair) (r : Ruled) → (settled_vertex p (totalised v r)).owner ≡ player_index r.owner
unfolding settled_vertex totalised totalised_by
settled-owner v p r = go r.edges
  where
    go : (es : List Edge) → player_index (totalised_by es v r).owner ≡ player_index r.owner
    go [] = refl
    go (e ∷ es) = refl

module _ (rank : Ranking) (x : Input) (st : Stand Pair) (n : ℕ) where
  abbrev vs : List Vertex
  vs = vertices_of rank x st

  abbrev g : List ℕ
  g = padded n (game_of 0 vs)

  abbrev pair : ℕ → Pair
  pair = pair_at rank x st

  abbrev ruled : ℕ → Ruled
  ruled = ruled_at rank x st

  pub count_word : vertex_count g ≡ length st.known
  unfolding padded
  count_word = count_read 0 vs (replicate (n - length (game_of 0 vs)) 0) ∙ length_vertices rank x st

  row_of : (v : ℕ) (y : Vertex) → v < length st.known → vertex_at rank x st v ≡ y → Row g v y
  unfolding padded
  row_of v y h e =
      row_read 0 vs (replicate (n - length (game_of 0 vs)) 0) v blank_vertex y (omega (arith, length_vertices rank x st))
      (vertex-at rank x st v blank_vertex h ∙ e)

  pub row_waits : (v : ℕ) → v < length st.known → In v st.waiting → Row g v (waiting_vertex (pair v))
  row_waits v h m = row_of v (waiting_vertex (pair v)) h (vertex_waits rank x st v m)

  pub row_settled : (v : ℕ) → v < length st.known → (¬ In v st.waiting)
      → Row g v (settled_vertex (pair v) (totalised v (ruled v)))
  row_settled v h m = row_of v (settled_vertex (pair v) (totalised v (ruled v))) h (vertex_settled rank x st v m)

  -- the pairs are read off the game, waiting vertices' too
  pub pair_read : (v : ℕ) → v < length st.known → pair_in g v ≡ pair v
  pair_read v h =
      let row = row_of v (vertex_at rank x st v) h refl in
      let (s, i) = vertex_pair rank x st v in
      λ j. ((row.state ∙ s) j, (row.item ∙ i) j)

  pub pairs_read : pairs_in g ≡ st.known
  pairs_read =
      ext_get_or (initial_pair x) (pairs_in g) st.known (pairs_many g ∙ count_word)
      (λ v l. let h : v < length st.known = omega (arith, pairs_many g, count_word) in
      pair_of g v (initial_pair x) (omega (arith, pairs_many g)) ∙ pair_read v h)

  -- a vertex shows owner 2 exactly if it waits
  pub owner_waits : (v : ℕ) → v < length st.known → In v st.waiting → owner_in g v ≡ 2
  unfolding waiting_vertex
  owner_waits v h m = (row_waits v h m).owner

  pub owner-settled : (v : ℕ) → v < length st.known → (¬ In v st.waiting)
      → owner_in g v ≡ player_index (owner x (pair v))
  unfolding ruled_vertex
  owner-settled v h m = (row_settled v h m).owner ∙ settled-owner v (pair v) (ruled v)

  pub settled-below : (v : ℕ) → v < length st.known → (¬ In v st.waiting) → owner_in g v < 2
  settled-below v h m = subst (λ (k : ℕ). k < 2) (sym (owner-settled v h m)) (player_below (owner x (pair v)))

  pub below_settled : (v : ℕ) → v < length st.known → owner_in g v < 2 → ¬ In v st.waiting
  below_settled v h l m = let e = owner_waits v h m in omega arith

  -- the settled vertices counted
  pub settled_count : (m : ℕ) → m ≤ length st.known → settled_below g m ≡ sum_below (λ p. 1) (initial_pair x) st m
  unfolding settled_below sum_below
  settled_count zero h = refl
  settled_count (suc m) h = go (settled_count m (omega arith)) (in_or number_equality m st.waiting)
    where
      go : settled_below g m ≡ sum_below (λ p. 1) (initial_pair x) st m → In m st.waiting ⊎ (¬ In m st.waiting)
          → settled_below g (suc m) ≡ sum_below (λ p. 1) (initial_pair x) st (suc m)
      go ih (inl i) =
          let e = owner_waits m h i in
          rw (in_has number_equality m st.waiting i, le-ltb (owner_in g m) 2 (omega arith)) (ap (λ (k : ℕ). 0 + k) ih)
      go ih (inr i) =
          rw (not_in number_equality m st.waiting i, lt-ltb (owner_in g m) 2 (settled-below m h i)) (ap (λ (k : ℕ). 1 + k) ih)
