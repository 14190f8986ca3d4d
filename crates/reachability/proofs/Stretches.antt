-- The vertices reached, as they are written. Assumes nothing.
use mathlib.Core.Path.{◌≡◌, refl, sym, ap, ◌∙◌}
use mathlib.Core.List.{List, [], ◌∷◌, map, map-map}
use Prim.Native.Nat.{ℕ, ◌+◌, ◌-◌, ◌*◌, ◌≤◌, ◌<◌}
use native.Mathlib.Omega.{arith}
use lib.ListN.{length, take, drop, length-map}
use lib.Seq.{get_or-take}
use Rattle.std.proofs.lemmas.List.{get_or-map}
use Rattle.rules.specs.Lists.{word}
use Rattle.rules.specs.Game.{Edge, Vertex, blank_vertex, vertex_columns, edge_columns, edge_count, game_words, edges_in}
use Rattle.rules.specs.Game.{vertex_count, vertex_word, edge_words_in, edges_at as edges_in_game}
use Rattle.rules.specs.Restrict.{new_number, kept_edge, kept_vertex, kept_vertices}
use Rattle.words.proofs.Stretches.{words_behind, behind_inside}
use Rattle.games.proofs.Columns.{each_vertex_column, each_edge_column, map_same, rise}
use Rattle.games.specs.Columns.{vertex_column, edge_column}
use Rattle.game_columns.specs.Shown.{edges_of}
use Rattle.restrictions.specs.GoodGame.{GoodGame}
use Rattle.restrictions.proofs.Accepted.{edges_column, edges_many, target_below}
use Rattle.restrictions.proofs.Kept.{kept_length, kept_targets, edges_fit}
use Rattle.reachability.specs.Knowing.{Knows, Chosen, Numbered}
use Rattle.reachability.proofs.Meeting.{knows_at, length_known}

-- ---- the vertices reached, by their new numbers

module _ (g reached : List ℕ) where
  -- a vertex of the game that is written is one of those reached
  pub reached_below : (i : ℕ) → i < length (kept_vertices g reached) → i < length reached
  reached_below i h = omega (arith, h, kept_length g reached)

  pub edges_at : (i v : ℕ) → i < length (kept_vertices g reached) → v ≡ word reached i
      → (kept_vertex g reached v).edges ≡ edges_of (kept_vertices g reached) i
  unfolding kept_vertices
  edges_at i v h e =
      ap (λ (u : ℕ). (kept_vertex g reached u).edges) e
      ∙ sym (ap (λ (x : Vertex). x.edges) (get_or-map (kept_vertex g reached) reached i 0 blank_vertex (reached_below i h)))

  module _ (k : Chosen g reached) where
    pub reached_inside : (i v : ℕ) → i < length (kept_vertices g reached) → v ≡ word reached i → v < vertex_count g
    reached_inside i v h e = omega (arith, k.inside i (reached_below i h), e)

    -- how many edges a vertex has, by the words that were read
    pub degree_at : (c i v : ℕ) (words : List ℕ) → c < length edge_columns → i < length (kept_vertices g reached)
        → v ≡ word reached i → words ≡ edge_words_in g c v
        → length words ≡ length (edges_of (kept_vertices g reached) i)
    unfolding kept_vertex
    degree_at c i v words l h e f =
        ap length f ∙ sym (edges_many g k.good c v l (reached_inside i v h e))
        ∙ sym (length-map (edges_in_game g v) (kept_edge reached)) ∙ ap length (edges_at i v h e)

    -- the number of their edges fits a word
    pub few_edges : edge_count (kept_vertices g reached) < 4294967296
    few_edges = omega (arith, k.fit, k.good.light)

    -- their game is not longer than the whole one
    pub fits : (out : List ℕ) (m : ℕ) → length out ≡ length g → m ≡ edge_count (kept_vertices g reached)
        → game_words (length (kept_vertices g reached)) m ≤ length out
    fits out m l e =
        let many = kept_length g reached in
        rw many (room (omega (arith, e, k.fit)))
      where
        room : m ≤ edges_in g → game_words (length reached) m ≤ length out
        room h = omega (arith, h, k.few, l, k.good.sized)

-- ---- the words of one vertex

module _ (g mapping reached : List ℕ) (good : GoodGame g) (n : Numbered g mapping reached) (v : ℕ) (h : v < vertex_count g) where
  -- the targets by the numbers that the map holds
  pub numbers_written : (c : ℕ) (words : List ℕ) → c ≡ 0 → words ≡ edge_words_in g c v
      → map (λ t. word mapping t) words ≡ map (edge_column c) (kept_vertex g reached v).edges
  unfolding kept_vertex
  numbers_written c words z e =
      ap (map (λ t. word mapping t)) (e ∙ ap (λ (d : ℕ). edge_words_in g d v) z)
      ∙ map_same (λ t. word mapping t) (new_number reached) (edge_words_in g 0 v)
      (λ t m. n.right t (omega (arith, target_below g good v h t m, n.long)))
      ∙ sym (kept_targets g good reached v h) ∙ ap (λ (d : ℕ). map (edge_column d) (kept_vertex g reached v).edges) (sym z)

-- the other columns as they are: only the target of an edge is another
kept_others : (met : List ℕ) (es : List Edge) (c : ℕ) → c < length edge_columns → 0 < c
    → map (edge_column c) (map (kept_edge met) es) ≡ map (edge_column c) es
unfolding kept_edge
kept_others met es =
    each_edge_column (λ c. 0 < c → map (edge_column c) (map (kept_edge met) es) ≡ map (edge_column c) es)
    (λ h. absurd (omega arith)) (λ h. map-map (λ (e : Edge). e.count) (kept_edge met) es)

pub others_written : (g reached : List ℕ) (c v : ℕ) (words : List ℕ) → GoodGame g → v < vertex_count g
    → c < length edge_columns → 0 < c → words ≡ edge_words_in g c v
    → words ≡ map (edge_column c) (kept_vertex g reached v).edges
unfolding kept_vertex
others_written g reached c v words good h l z e =
    e ∙ sym (edges_column g good c v l h) ∙ sym (kept_others reached (edges_in_game g v) c l z)

-- ---- the vertices met can be written

module _ (g mapping work : List ℕ) (count : ℕ) (good : GoodGame g) (k : Knows count mapping work) (n : length mapping ≡ vertex_count g) where
  pub chosen : Chosen g (take count work)
  chosen =
      let long : length (take count work) ≡ count = length_known k in
      record {
        good = good;
        few = omega (arith, long, k.within);
        inside = λ i h. inside i (omega (arith, long));
        fit = edges_fit g good (take count work) k.distinct (λ v m. omega (arith, k.below v m));
      }
    where
      inside : (i : ℕ) → i < count → word (take count work) i < vertex_count g
      inside i h = rw (get_or-take count work i 0 h) (omega (arith, knows_at k i h))

  pub numbered : Numbered g mapping (take count work)
  numbered = record { long = n; right = k.right }

-- ---- the columns of the vertices

module _ (g reached : List ℕ) (k : Chosen g reached) where
  -- a column is carried over: the word of each vertex is there
  pub column-inside : (c base n : ℕ) → n ≡ vertex_count g → base ≡ 3 + c * n → c < length vertex_columns → (i : ℕ)
      → i < length reached → word reached i < length (take (length g - base) (drop base g))
  column-inside c base n e f h i l =
      behind_inside g base (word reached i) (omega (arith, rise c (length vertex_columns) n h, k.inside i l, k.good.sized))

  -- and it is the column of the vertices that are kept
  pub column_kept : (c base n : ℕ) → n ≡ vertex_count g → base ≡ 3 + c * n → c < length vertex_columns
      → map (λ v. word g (base + v)) reached ≡ map (vertex_column c) (kept_vertices g reached)
  unfolding kept_vertices
  column_kept c base n e f h =
      ap (λ (p : ℕ). map (λ v. word g (p + v)) reached) (f ∙ ap (λ (m : ℕ). 3 + c * m) e)
      ∙ go reached
    where
      kept_word : (v : ℕ) → vertex_word g c v ≡ vertex_column c (kept_vertex g reached v)
      kept_word v =
          unfold kept_vertex in
          each_vertex_column (λ d. vertex_word g d v ≡ vertex_column d (kept_vertex g reached v)) refl refl refl refl c h

      go : (xs : List ℕ)
          → map (λ v. vertex_word g c v) xs ≡ map (vertex_column c) (map (kept_vertex g reached) xs)
      go [] = refl
      go (x ∷ xs) =
          ap (λ (w : ℕ). w ∷ map (λ v. vertex_word g c v) xs) (kept_word x)
          ∙ ap (λ (l : List ℕ). vertex_column c (kept_vertex g reached x) ∷ l) (go xs)

  -- as it is carried: the words of all vertices
  pub column_carried : (c base n : ℕ) → n ≡ vertex_count g → base ≡ 3 + c * n → c < length vertex_columns
      → map (word (take (length g - base) (drop base g))) reached ≡ map (vertex_column c) (kept_vertices g reached)
  column_carried c base n e f h = words_behind g base reached ∙ column_kept c base n e f h
