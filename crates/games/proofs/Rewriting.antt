-- The words of a game are told by what is read from them: two slices of one length from which the same vertices are
-- read, and in which nothing else stands, are equal. Assumes nothing.
use mathlib.Core.Path.{◌≡◌, sym, ap, ◌∙◌, subst}
use mathlib.Core.List.{List, ◌∷◌, ◌++◌}
use Prim.Native.Nat.{ℕ, zero, suc, ◌+◌, ◌-◌, ◌*◌, ◌≤◌, ◌<◌}
use native.Mathlib.Nat.{suc-mul}
use native.Mathlib.Decide.{dec_lt}
use native.Mathlib.Omega.{arith}
use lib.ListN.{length}
use lib.Seq.{slice, slice-cons, slice_empty, take_all}
use Rattle.rules.specs.Lists.{word}
use Rattle.rules.specs.Game.{vertex_columns, edge_columns, vertex_count, edges_in, initial_in, vertex_column_at, offsets_at}
use Rattle.rules.specs.Game.{edge_column_at, game_end, vertex_word, offset_in, edges_from, edge_words_in, targets_in}
use Rattle.games.proofs.Offsets.{offset_within}
use Rattle.games.proofs.Columns.{rise}

-- the words are a game, and zeros past it
pub record Whole (g : List ℕ) : Type 0 where
  pub begins : offset_in g 0 ≡ 0
  pub follows : (v : ℕ) → v < vertex_count g → offset_in g (suc v) ≡ offset_in g v + length (targets_in g v)
  pub ends : (offset_in g (vertex_count g) ≡ edges_in g) × (game_end g ≤ length g)
  pub past : (i : ℕ) → game_end g ≤ i → word g i ≡ 0

-- the same is read from both, in every column
pub record ReadAlike (g h : List ℕ) : Type 0 where
  pub count : vertex_count g ≡ vertex_count h
  pub initial : initial_in g ≡ initial_in h
  pub vertex : (c : ℕ) → c < length vertex_columns → (v : ℕ) → v < vertex_count g → vertex_word g c v ≡ vertex_word h c v
  pub edges : (c : ℕ) → c < length edge_columns → (v : ℕ) → v < vertex_count g → edge_words_in g c v ≡ edge_words_in h c v

-- ---- slices

slice-append : (n a b : ℕ) (l : List ℕ) → a + n ≤ b → b ≤ length l → slice a (a + n) l ++ slice (a + n) b l ≡ slice a b l
slice-append zero a b l h k =
    let z : a + 0 ≡ a = omega arith in
    rw z (ap (λ (r : List ℕ). r ++ slice a b l) (slice_empty a l))
slice-append (suc n) a b l h k =
    let e : a + suc n ≡ suc a + n = omega arith in
    rw e
    (ap (λ (r : List ℕ). r ++ slice (suc a + n) b l) (slice-cons a (suc a + n) l 0 (omega arith) (omega arith))
    ∙ ap (λ (r : List ℕ). word l a ∷ r) (slice-append n (suc a) b l (omega arith) k)
    ∙ sym (slice-cons a b l 0 (omega arith) k))

slice-alike : (n a : ℕ) (g h : List ℕ) → a + n ≤ length g → a + n ≤ length h → ((i : ℕ) → a ≤ i → i < a + n → word g i ≡ word h i)
    → slice a (a + n) g ≡ slice a (a + n) h
slice-alike zero a g h k l f = let z : a + 0 ≡ a = omega arith in rw z (slice_empty a g ∙ sym (slice_empty a h))
slice-alike (suc n) a g h k l f =
    let e : a + suc n ≡ suc a + n = omega arith in
    rw e
    (slice-cons a (suc a + n) g 0 (omega arith) (omega arith)
    ∙ ap (λ (w : ℕ). w ∷ slice (suc a) (suc a + n) g) (f a (omega arith) (omega arith))
    ∙ ap (λ (r : List ℕ). word h a ∷ r) (slice-alike n (suc a) g h (omega arith) (omega arith) (λ i b c. f i (omega arith) (omega arith)))
    ∙ sym (slice-cons a (suc a + n) h 0 (omega arith) (omega arith)))

-- two stretches, one after the other
joined : (a b c : ℕ) (g h : List ℕ) → a ≤ b → b ≤ c → c ≤ length g → c ≤ length h → slice a b g ≡ slice a b h
    → slice b c g ≡ slice b c h → slice a c g ≡ slice a c h
joined a b c g h p q r s e f =
    sym (parts g r) ∙ ap (λ (l : List ℕ). l ++ slice b c g) e ∙ ap (λ (l : List ℕ). slice a b h ++ l) f ∙ parts h s
  where
    parts : (l : List ℕ) → c ≤ length l → slice a b l ++ slice b c l ≡ slice a c l
    parts l k =
        let z : a + (b - a) ≡ b = omega arith in
        subst (λ (u : ℕ). slice a u l ++ slice u c l ≡ slice a c l) z (slice-append (b - a) a c l (omega arith) k)

module _ (g h : List ℕ) (long : length g ≡ length h) (wg : Whole g) (wh : Whole h) (r : ReadAlike g h) where
  offset_alike : (v : ℕ) → v ≤ vertex_count g → offset_in g v ≡ offset_in h v
  offset_alike zero l = wg.begins ∙ sym wh.begins
  offset_alike (suc v) l =
      omega (
        arith,
        wg.follows v l,
        wh.follows v (omega (arith, r.count)),
        offset_alike v (omega arith),
        ap length (r.edges 0 (omega arith) v l),
      )

  edges_alike : edges_in g ≡ edges_in h
  edges_alike =
      sym wg.ends.0 ∙ offset_alike (vertex_count g) (omega arith) ∙ ap (λ (v : ℕ). offset_in h v) r.count ∙ wh.ends.0

  -- the words of the first k columns of the vertices
  columns-alike : (k : ℕ) → k ≤ length vertex_columns → (i : ℕ) → i < k * vertex_count g → word g (3 + i) ≡ word h (3 + i)
  columns-alike zero b i l = absurd (omega arith)
  columns-alike (suc k) b i l = go (columns-alike k (omega arith) i) (dec_lt i (k * vertex_count g))
    where
      go : (i < k * vertex_count g → word g (3 + i) ≡ word h (3 + i)) → Dec (i < k * vertex_count g)
          → word g (3 + i) ≡ word h (3 + i)
      go ih (yes a) = ih a
      go ih (no a) =
          let v : ℕ = i - k * vertex_count g in
          let e : vertex_column_at g k + v ≡ 3 + i = omega arith in
          let n : k * vertex_count g ≡ k * vertex_count h = ap (λ (m : ℕ). k * m) r.count in
          let f : vertex_column_at h k + v ≡ 3 + i = omega arith in
          sym (ap (word g) e) ∙ r.vertex k b v (omega (arith, suc-mul k (vertex_count g))) ∙ ap (word h) f

  -- the words before the edges
  before_alike : (i : ℕ) → i < edge_column_at g 0 → word g i ≡ word h i
  before_alike zero l = r.count
  before_alike (suc zero) l = edges_alike
  before_alike (suc (suc zero)) l = r.initial
  before_alike (suc (suc (suc i))) l =
      let e : suc (suc (suc i)) ≡ 3 + i = omega arith in
      ap (word g) e ∙ go (dec_lt i (length vertex_columns * vertex_count g)) ∙ sym (ap (word h) e)
    where
      go : Dec (i < length vertex_columns * vertex_count g) → word g (3 + i) ≡ word h (3 + i)
      go (yes a) = columns-alike (length vertex_columns) (omega arith) i a
      go (no a) =
          let v : ℕ = i - length vertex_columns * vertex_count g in
          let e : offsets_at g + v ≡ 3 + i = omega arith in
          let f : offsets_at h + v ≡ 3 + i = omega (arith, r.count) in
          sym (ap (word g) e) ∙ offset_alike v (omega arith) ∙ ap (word h) f

  at_alike : (c : ℕ) → edge_column_at g c ≡ edge_column_at h c
  at_alike c = omega (arith, r.count, ap (λ (m : ℕ). c * m) edges_alike)

  column_room : (c : ℕ) → c < length edge_columns → edge_column_at g c + edges_in g ≤ length g
  column_room c b = let room = wg.ends.1 in omega (arith, rise c (length edge_columns) (edges_in g) b)

  -- of a column of the edges, the words of the vertices before v
  edge_words_alike : (c : ℕ) → c < length edge_columns → (v : ℕ) → v ≤ vertex_count g
      → slice (edge_column_at g c) (edges_from g c v) g ≡ slice (edge_column_at g c) (edges_from g c v) h
  edge_words_alike c b zero l =
      let e : edges_from g c 0 ≡ edge_column_at g c = omega (arith, wg.begins) in
      rw e (slice_empty (edge_column_at g c) g ∙ sym (slice_empty (edge_column_at g c) h))
  edge_words_alike c b (suc v) l =
      let most = offset_within g (λ u k. omega (arith, wg.follows u k)) wg.ends.0 (suc v) (omega arith) in
      let room = column_room c b in
      let more = wg.follows v l in
      let last : slice (edges_from g c v) (edges_from g c (suc v)) g ≡ slice (edges_from g c v) (edges_from g c (suc v)) h
      = r.edges c b v l
      ∙ ap (λ (u : ℕ). slice (u + offset_in h v) (u + offset_in h (suc v)) h) (sym (at_alike c))
      ∙ ap (λ (u : ℕ). slice (edge_column_at g c + u) (edge_column_at g c + offset_in h (suc v)) h)
      (sym (offset_alike v (omega arith)))
      ∙ ap (λ (u : ℕ). slice (edges_from g c v) (edge_column_at g c + u) h) (sym (offset_alike (suc v) l)) in
      joined (edge_column_at g c) (edges_from g c v) (edges_from g c (suc v)) g h (omega arith) (omega arith)
      (omega arith) (omega (arith, long))
      (edge_words_alike c b v (omega arith)) last

  -- the first k columns of the edges
  edge_columns-alike : (k : ℕ) → k ≤ length edge_columns
      → slice (edge_column_at g 0) (edge_column_at g k) g ≡ slice (edge_column_at g 0) (edge_column_at g k) h
  edge_columns-alike zero b = slice_empty (edge_column_at g 0) g ∙ sym (slice_empty (edge_column_at g 0) h)
  edge_columns-alike (suc k) b =
      let e : edges_from g k (vertex_count g) ≡ edge_column_at g (suc k)
      = omega (arith, wg.ends.0, suc-mul k (edges_in g)) in
      let room = column_room k b in
      joined (edge_column_at g 0) (edge_column_at g k) (edge_column_at g (suc k)) g h (omega arith)
      (omega (arith, suc-mul k (edges_in g)))
      (omega (arith, suc-mul k (edges_in g))) (omega (arith, long, suc-mul k (edges_in g)))
      (edge_columns-alike k (omega arith))
      (subst (λ (u : ℕ). slice (edge_column_at g k) u g ≡ slice (edge_column_at g k) u h) e
      (edge_words_alike k b (vertex_count g) (omega arith)))

  -- the three parts
  pub words_alike : g ≡ h
  words_alike =
      let room = wg.ends.1 in
      let whole-g : slice 0 (length g) g ≡ g = take_all (length g) g (omega arith) in
      let whole-h : slice 0 (length g) h ≡ h = take_all (length g) h (omega (arith, long)) in
      let e : game_end g + (length g - game_end g) ≡ length g = omega arith in
      let past : slice (game_end g) (length g) g ≡ slice (game_end g) (length g) h
      = subst (λ (u : ℕ). slice (game_end g) u g ≡ slice (game_end g) u h) e
      (slice-alike (length g - game_end g) (game_end g) g h (omega arith) (omega (arith, long))
      (λ i a b. wg.past i a ∙ sym (wh.past i (omega (arith, r.count, edges_alike))))) in
      let zero_more : 0 + edge_column_at g 0 ≡ edge_column_at g 0 = omega arith in
      let front : slice 0 (edge_column_at g 0) g ≡ slice 0 (edge_column_at g 0) h
      = subst (λ (u : ℕ). slice 0 u g ≡ slice 0 u h) zero_more
      (slice-alike (edge_column_at g 0) 0 g h (omega arith) (omega (arith, long))
      (λ i a b. before_alike i (omega arith))) in
      sym whole-g
      ∙ joined 0 (game_end g) (length g) g h (omega arith) room (omega arith) (omega (arith, long))
      (joined 0 (edge_column_at g 0) (game_end g) g h (omega arith) (omega arith) room (omega (arith, long)) front
      (edge_columns-alike (length edge_columns) (omega arith)))
      past
      ∙ whole-h
