-- A written game, read back: at the words of `game_of initial vs` stand the vertices vs, column by column. `rest` is
-- what stands past the game.
-- Assumes nothing.
use mathlib.Core.Path.{◌≡◌, refl, sym, ap, ◌∙◌}
use mathlib.Core.List.{List, [], ◌∷◌, ◌++◌, map, append_assoc}
use Prim.Native.Nat.{ℕ, zero, suc, ◌+◌, ◌*◌, ◌≤◌, ◌<◌}
use native.Mathlib.Nat.{not-suc-le-zero, le_of_suc-le-suc}
use native.Mathlib.Omega.{arith}
use lib.ListN.{length, get_or, take, length-append, length-map}
use lib.Seq.{slice, take-append_seam}
use Rattle.rules.specs.Lists.{word, sum}
use Rattle.rules.specs.Game.{Edge, Vertex, vertex_columns, edge_columns, game_words, edge_count, offsets, all_edges, columns}
use Rattle.rules.specs.Game.{game_of, vertex_count, edges_in, vertex_column_at, edge_column_at, vertex_word, edge_word, offset_in}
use Rattle.rules.specs.Game.{edges_from, edge_words_in}
use Rattle.lists.proofs.Members.{map-append}
use Rattle.games.specs.Columns.{vertex_column, edge_column}
use Rattle.games.specs.Rows.{Row}
use Rattle.games.proofs.Columns.{length-columns, left_at, right_at, slice_right, column-at, column_slice}

pub length-offsets : (e : ℕ) (vs : List Vertex) → length (offsets e vs) ≡ suc (length vs)
unfolding offsets
length-offsets e [] = refl
length-offsets e (v ∷ vs) = ap suc (length-offsets (e + length v.edges) vs)

pub length_edges : (vs : List Vertex) → length (all_edges vs) ≡ edge_count vs
unfolding all_edges edge_count sum
length_edges [] = refl
length_edges (v ∷ vs) = length-append v.edges (all_edges vs) ∙ ap (λ n. length v.edges + n) (length_edges vs)

pub length_edge_column : (f : Edge → ℕ) (vs : List Vertex) → length (map f (all_edges vs)) ≡ edge_count vs
length_edge_column f vs = length-map (all_edges vs) f ∙ length_edges vs

offsets-at : (vs : List Vertex) (e v : ℕ) → v ≤ length vs → word (offsets e vs) v ≡ e + edge_count (take v vs)
unfolding offsets edge_count sum
offsets-at [] e zero h = omega arith
offsets-at [] e (suc v) h = absurd (not-suc-le-zero h)
offsets-at (x ∷ vs) e zero h = omega arith
offsets-at (x ∷ vs) e (suc v) h = offsets-at vs (e + length x.edges) v (le_of_suc-le-suc h) ∙ regroup e (length x.edges) (edge_count (take v vs))
  where
    regroup : (a b c : ℕ) → a + b + c ≡ a + (b + c)
    regroup a b c = omega arith

pub count_rises : (vs : List Vertex) (v : ℕ) → edge_count (take v vs) ≤ edge_count (take (suc v) vs)
unfolding edge_count sum
count_rises [] zero = omega arith
count_rises [] (suc v) = omega arith
count_rises (x ∷ vs) zero = omega arith
count_rises (x ∷ vs) (suc v) = omega (arith, count_rises vs v)

count_most : (vs : List Vertex) (v : ℕ) → edge_count (take v vs) ≤ edge_count vs
unfolding edge_count sum
count_most [] zero = omega arith
count_most [] (suc v) = omega arith
count_most (x ∷ vs) zero = omega arith
count_most (x ∷ vs) (suc v) = omega (arith, count_most vs v)

-- the edges of vertex v among all
edges_at : (f : Edge → ℕ) (vs : List Vertex) (v : ℕ) (d : Vertex) → v < length vs
    → slice (edge_count (take v vs)) (edge_count (take (suc v) vs)) (map f (all_edges vs)) ≡ map f (get_or vs v d).edges
unfolding all_edges edge_count sum
edges_at f [] v d h = absurd (not-suc-le-zero h)
edges_at f (x ∷ vs) zero d h =
    let z : length x.edges + 0 ≡ length (map f x.edges) = omega (arith, length-map x.edges f) in
    rw (z, map-append f x.edges (all_edges vs)) (take-append_seam (map f x.edges) (map f (all_edges vs)))
edges_at f (x ∷ vs) (suc v) d h =
    rw (← length-map x.edges f, map-append f x.edges (all_edges vs))
    (slice_right (map f x.edges) (map f (all_edges vs)) (edge_count (take v vs)) (edge_count (take (suc v) vs))
    ∙ edges_at f vs v d (le_of_suc-le-suc h))

-- ---- the game's words

module _ (initial : ℕ) (vs : List Vertex) (rest : List ℕ) where
  abbrev g : List ℕ
  g = game_of initial vs ++ rest

  header : List ℕ
  header = length vs ∷ edge_count vs ∷ initial ∷ []

  long_header : length header ≡ 3
  unfolding header
  long_header = refl

  -- the stretches one after the other, to the right
  whole : g ≡ header ++ (columns vertex_columns vs ++ (offsets 0 vs ++ (columns edge_columns (all_edges vs) ++ rest)))
  unfolding game_of header
  whole = simp append_assoc

  pub count_read : vertex_count (game_of initial vs ++ rest) ≡ length vs
  unfolding game_of
  count_read = refl

  pub edges_read : edges_in (game_of initial vs ++ rest) ≡ edge_count vs
  unfolding game_of
  edges_read = refl

  -- a word of a column of the vertices
  pub vertex_read : (c v : ℕ) (d : Vertex) → c < length vertex_columns → v < length vs
      → vertex_word (game_of initial vs ++ rest) c v ≡ vertex_column c (get_or vs v d)
  vertex_read c v d h k =
      let later : List ℕ = offsets 0 vs ++ (columns edge_columns (all_edges vs) ++ rest) in
      let e : vertex_column_at g c + v ≡ length header + (c * length vs + v)
      = ap (λ (n : ℕ). 3 + c * n + v) count_read ∙ omega (arith, long_header) in
      ap (λ (l : List ℕ). word l (vertex_column_at g c + v)) whole
      ∙ right_at header (columns vertex_columns vs ++ later) (vertex_column_at g c + v) (c * length vs + v) e
      ∙ column-at vertex_columns vs later c v d h k

  pub offset_read : (v : ℕ) → v ≤ length vs → offset_in (game_of initial vs ++ rest) v ≡ edge_count (take v vs)
  offset_read v h =
      let later : List ℕ = columns edge_columns (all_edges vs) ++ rest in
      let l : v < length (offsets 0 vs) = omega (arith, length-offsets 0 vs) in
      let p : ℕ = 3 + length vertex_columns * vertex_count g + v in
      let a : p ≡ length header + (length vertex_columns * length vs + v) = omega (arith, count_read, long_header) in
      let b : length vertex_columns * length vs + v ≡ length (columns vertex_columns vs) + v
      = omega (arith, length-columns vertex_columns vs) in
      let z : 0 + edge_count (take v vs) ≡ edge_count (take v vs) = omega arith in
      ap (λ (k : List ℕ). word k p) whole
      ∙ right_at header (columns vertex_columns vs ++ (offsets 0 vs ++ later)) p (length vertex_columns * length vs + v) a
      ∙ right_at (columns vertex_columns vs) (offsets 0 vs ++ later) (length vertex_columns * length vs + v) v b
      ∙ left_at (offsets 0 vs) later v l
      ∙ offsets-at vs 0 v h
      ∙ z

  before_edges : List ℕ
  before_edges = header ++ (columns vertex_columns vs ++ offsets 0 vs)

  long_before : length before_edges ≡ 4 + (length vertex_columns + 1) * length vs
  unfolding before_edges
  long_before =
      omega (
        arith,
        length-append header (columns vertex_columns vs ++ offsets 0 vs),
        length-append (columns vertex_columns vs) (offsets 0 vs),
        length-columns vertex_columns vs,
        length-offsets 0 vs,
        long_header,
      )

  before : g ≡ before_edges ++ (columns edge_columns (all_edges vs) ++ rest)
  unfolding before_edges
  before = whole ∙ sym (simp append_assoc)

  -- place p of column c of the edges
  edge_place : (c p : ℕ) → edge_column_at g c + p ≡ length before_edges + (c * length (all_edges vs) + p)
  edge_place c p =
      let m : c * edges_in g ≡ c * length (all_edges vs) = ap (λ (k : ℕ). c * k) (edges_read ∙ sym (length_edges vs)) in
      omega (arith, m, long_before, count_read)

  -- the words of a column that belong to the edges of vertex v
  pub edge_words_read : (c v : ℕ) (d : Vertex) → c < length edge_columns → v < length vs
      → edge_words_in (game_of initial vs ++ rest) c v ≡ map (edge_column c) (get_or vs v d).edges
  edge_words_read c v d h k =
      let first : ℕ = edge_count (take v vs) in
      let last : ℕ = edge_count (take (suc v) vs) in
      let a : edges_from g c v ≡ length before_edges + (c * length (all_edges vs) + first)
      = ap (λ (o : ℕ). edge_column_at g c + o) (offset_read v (omega arith)) ∙ edge_place c first in
      let b : edges_from g c (suc v) ≡ length before_edges + (c * length (all_edges vs) + last)
      = ap (λ (o : ℕ). edge_column_at g c + o) (offset_read (suc v) k) ∙ edge_place c last in
      ap (λ (q : ℕ). slice q (edges_from g c (suc v)) g) a
      ∙ ap (λ (q : ℕ). slice (length before_edges + (c * length (all_edges vs) + first)) q g) b
      ∙ ap (slice (length before_edges + (c * length (all_edges vs) + first))
      (length before_edges + (c * length (all_edges vs) + last))) before
      ∙ slice_right before_edges (columns edge_columns (all_edges vs) ++ rest) (c * length (all_edges vs) + first)
      (c * length (all_edges vs) + last)
      ∙ column_slice edge_columns (all_edges vs) rest c first last h
      (omega (arith, count_most vs (suc v), length_edges vs))
      ∙ edges_at (edge_column c) vs v d k

  -- the word of edge e
  pub edge_read : (c e : ℕ) (d : Edge) → c < length edge_columns → e < edge_count vs
      → edge_word (game_of initial vs ++ rest) c e ≡ edge_column c (get_or (all_edges vs) e d)
  edge_read c e d h k =
      let p : ℕ = edge_column_at g c + e in
      ap (λ (l : List ℕ). word l p) before
      ∙ right_at before_edges (columns edge_columns (all_edges vs) ++ rest) p (c * length (all_edges vs) + e)
      (edge_place c e)
      ∙ column-at edge_columns (all_edges vs) rest c e d h (omega (arith, length_edges vs))

  -- all that is read of a vertex
  pub row_read : (v : ℕ) (d y : Vertex) → v < length vs → get_or vs v d ≡ y → Row (game_of initial vs ++ rest) v y
  row_read v d y k e =
      record {
        owner = vertex_read 0 v d (omega arith) k ∙ ap (λ (z : Vertex). z.owner) e;
        priority = vertex_read 1 v d (omega arith) k ∙ ap (λ (z : Vertex). z.priority) e;
        state = vertex_read 2 v d (omega arith) k ∙ ap (λ (z : Vertex). z.state) e;
        item = vertex_read 3 v d (omega arith) k ∙ ap (λ (z : Vertex). z.item) e;
        targets =
            edge_words_read 0 v d (omega arith) k ∙ ap (λ (z : Vertex). map (λ (c : Edge). c.target) z.edges) e;
        counts = edge_words_read 1 v d (omega arith) k ∙ ap (λ (z : Vertex). map (λ (c : Edge). c.count) z.edges) e;
      }

pub length_read : (initial : ℕ) (vs : List Vertex) → length (game_of initial vs) ≡ game_words (length vs) (edge_count vs)
unfolding game_of
length_read initial vs =
    omega (
      arith,
      length-append (columns vertex_columns vs) (offsets 0 vs ++ columns edge_columns (all_edges vs)),
      length-append (offsets 0 vs) (columns edge_columns (all_edges vs)),
      length-columns vertex_columns vs,
      length-columns edge_columns (all_edges vs),
      length-offsets 0 vs,
      length_edges vs,
    )
