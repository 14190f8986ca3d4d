-- The stretches of the game of vertices, one vertex at a time, and the whole of it. Assumes nothing.
use mathlib.Core.Path.{◌≡◌, sym, ap, ◌∙◌, subst}
use mathlib.Core.List.{List, [], ◌∷◌, ◌++◌, map}
use Prim.Native.Nat.{ℕ, zero, suc, ◌+◌, ◌-◌, ◌*◌, ◌≤◌, ◌<◌}
use native.Mathlib.Omega.{arith}
use lib.ListN.{length, get_or, take, drop, set, replicate, drop_of_length-le}
use Rattle.std.proofs.lemmas.List.{drop_more}
use Rattle.std.specs.List.{sum_by, range_with_len}
use Rattle.std.proofs.lemmas.List.Sums.{sum_by-cons}
use Rattle.rules.specs.Game.{Vertex, blank_vertex, vertex_columns, edge_columns, edge_count, offsets, all_edges, columns}
use Rattle.rules.specs.Game.{game_of, padded, game_words}
use Rattle.games.specs.Columns.{edge_column, edge_column_of}
use Rattle.games.proofs.Reading.{length_edges, length_edge_column}
use Rattle.words.specs.Stretches.{Wrote}
use Rattle.words.proofs.Stretches.{Writing, turn, put, called, done}
use Rattle.parity_game.proofs.Stretches.{columns_room, column_none, column-more}
use Rattle.parity_game.proofs.Stretches.{edges_none as no_edges, edges_more as more_edges}
use Rattle.parity_game.proofs.Stretches.{offsets_none as no_offsets, offsets_more as more_offsets}
use Rattle.parity_game.proofs.Calls.{behind_header, behind_columns, behind_offsets, header_done, offsets_fit}
use Rattle.parity_game.proofs.Calls.{edges_fit, last_done, game_done}
use Rattle.game_columns.specs.Shown.{edges_of}

-- the place of the next word, told otherwise
pub moved : {p q : ℕ} {left out : List ℕ} {at₀ : ℕ} {stretch out₀ : List ℕ} → p ≡ q
    → Writing p left out at₀ stretch out₀ → Writing q left out at₀ stretch out₀
moved {left = left} {out} {at₀} {stretch} {out₀} e w = subst (λ (k : ℕ). Writing k left out at₀ stretch out₀) e w

-- words that are written, told otherwise
pub wrote_as : {at r : ℕ} {xs ys out out' : List ℕ} → xs ≡ ys → Wrote at xs out out' r → Wrote at ys out out' r
wrote_as {at} {r} {out = out} {out' = out'} e w = subst (λ (l : List ℕ). Wrote at l out out' r) e w

module _ (vs : List Vertex) where
  more : (i : ℕ) → i < length vs → drop i vs ≡ get_or vs i blank_vertex ∷ drop (i + 1) vs
  more i h = drop_more vs i blank_vertex h

  none : (i : ℕ) → length vs ≤ i → drop i vs ≡ []
  none i h = drop_of_length-le vs h

  -- ---- the edges are counted: those of the vertices below i are b

  abbrev pub Counted : (b i : ℕ) → Type 0
  Counted b i = b + edge_count (drop i vs) ≡ edge_count vs

  count-more : (i : ℕ) → i < length vs → edge_count (drop i vs) ≡ length (edges_of vs i) + edge_count (drop (i + 1) vs)
  count-more i h = ap edge_count (more i h) ∙ more_edges (get_or vs i blank_vertex) (drop (i + 1) vs)

  pub count_put : (b i degree : ℕ) → degree ≡ length (edges_of vs i) → i < length vs → Counted b i
      → Counted (b + degree) (i + 1)
  count_put b i degree d h k = omega (arith, k, d, count-more i h)

  -- they are never more than all
  pub count_most : (b i degree : ℕ) → degree ≡ length (edges_of vs i) → i < length vs → Counted b i
      → b + degree ≤ edge_count vs
  count_most b i degree d h k = omega (arith, k, d, count-more i h)

  -- the edges of so many vertices from a on, summed, where they are the last ones
  summed_from : (n a : ℕ) → a + n ≡ length vs
      → sum_by (λ i. length (edges_of vs i)) (range_with_len a n) ≡ edge_count (drop a vs)
  summed_from zero a h = sym (ap edge_count (none a (omega arith)) ∙ no_edges)
  summed_from (suc n) a h =
      sum_by-cons (λ i. length (edges_of vs i)) a (range_with_len (a + 1) n)
      ∙ ap (λ (k : ℕ). length (edges_of vs a) + k) (summed_from n (a + 1) (omega arith))
      ∙ sym (count-more a (omega arith))

  pub summed : sum_by (λ i. length (edges_of vs i)) (range_with_len 0 (length vs)) ≡ edge_count vs
  summed = summed_from (length vs) 0 (omega arith)

  -- ---- the offsets: those of the vertices below i are written, from place `at` on, and b edges stand before vertex i

  abbrev pub Offsets : (b i at : ℕ) → (out out₀ : List ℕ) → Type 0
  Offsets b i at out out₀ = Counted b i × Writing (at + i) (offsets b (drop i vs)) out at (offsets 0 vs) out₀

  pub offsets_put : (b i degree at : ℕ) {out out₀ : List ℕ} → degree ≡ length (edges_of vs i) → i < length vs
      → at + length vs < length out₀ → Offsets b i at out out₀
      → Offsets (b + degree) (i + 1) at (set out (at + i) b) out₀
  offsets_put b i degree at {out} {out₀} d h l w =
      let here : at + i < length out = omega (arith, w.1.long) in
      let one = ap (offsets b) (more i h) ∙ more_offsets b (get_or vs i blank_vertex) (drop (i + 1) vs)
      ∙ ap (λ (n : ℕ). b ∷ offsets (b + n) (drop (i + 1) vs)) (sym d) in
      let there : at + i + 1 ≡ at + (i + 1) = omega arith in
      (count_put b i degree d h w.0, moved there (put here (turn one w.1)))

  pub offsets_done : (b i at n : ℕ) {out out₀ : List ℕ} → n ≡ length vs → i ≤ n → n ≤ i
      → at + length vs < length out₀ → Offsets b i at out out₀
      → Wrote at (offsets 0 vs) out₀ (set out (at + n) b) (at + n + 1)
  offsets_done b i at n {out} {out₀} e h m l w =
      let here : at + n < length out = omega (arith, w.1.long) in
      let same : at + i ≡ at + n = omega arith in
      let last = ap (offsets b) (none i (omega arith)) ∙ no_offsets b in
      done (put here (moved same (turn last w.1)))

  -- ---- a column of the edges

  -- there is room for the words of the next vertex
  pub edges_room : (c i : ℕ) {p at₀ : ℕ} {out out₀ : List ℕ} → i < length vs → at₀ + edge_count vs ≤ length out₀
      → Writing p (edge_column_of c (drop i vs)) out at₀ (edge_column_of c vs) out₀
      → p + length (edges_of vs i) ≤ length out
  edges_room c i h r w =
      omega (
        arith,
        w.long,
        w.last,
        length_edge_column (edge_column c) (drop i vs),
        length_edge_column (edge_column c) vs,
        count-more i h,
      )

  pub edges_put : (c i : ℕ) {p r at₀ : ℕ} {stretch out out' out₀ : List ℕ} → i < length vs
      → length out' ≡ length out → Wrote p (map (edge_column c) (edges_of vs i)) out out' r
      → Writing p (edge_column_of c (drop i vs)) out at₀ stretch out₀
      → Writing r (edge_column_of c (drop (i + 1) vs)) out' at₀ stretch out₀
  edges_put c i h l wrote w =
      called l wrote
      (turn (ap (edge_column_of c) (more i h)
      ∙ column-more (edge_column c) (get_or vs i blank_vertex) (drop (i + 1) vs)) w)

  pub edges_done : (c i : ℕ) {p at₀ : ℕ} {stretch out out₀ : List ℕ} → length vs ≤ i
      → Writing p (edge_column_of c (drop i vs)) out at₀ stretch out₀ → Wrote at₀ stretch out₀ out p
  edges_done c i h w = done (turn (ap (edge_column_of c) (none i h) ∙ column_none (edge_column c)) w)

  -- there is room for the next column of the edges
  pub edge_column_room : (c : ℕ) {p at₀ : ℕ} {out out₀ : List ℕ} → c < length edge_columns
      → at₀ + length edge_columns * edge_count vs ≤ length out₀
      → Writing p (columns (drop c edge_columns) (all_edges vs)) out at₀ (columns edge_columns (all_edges vs)) out₀
      → p + edge_count vs ≤ length out
  edge_column_room c h l w =
      omega (arith, columns_room edge_columns (all_edges vs) c h (omega (arith, length_edges vs)) w, length_edges vs)

-- ---- the calls that write the game, one after the other: the header, the columns of the vertices, the offsets, the
-- columns of the edges, zeros

module _ (vs : List Vertex) (n m : ℕ) (many : n ≡ length vs) (most : m ≡ edge_count vs) (out : List ℕ)
    (fits : game_words (length vs) m ≤ length out) where
  room : game_words n m ≤ length out
  room = rw many fits

  module _ {a : ℕ} {out₁ : List ℕ} (l : length out₁ ≡ length out) (header : Wrote 0 (n ∷ m ∷ 0 ∷ []) out out₁ a) where
    headed : Writing a (behind_header vs) out₁ 0 (game_of 0 vs) out
    headed = header_done vs n m many most l header

    module _ {b : ℕ} {out₂ : List ℕ} (l₂ : length out₂ ≡ length out₁)
        (places : Wrote a (columns vertex_columns vs) out₁ out₂ b) where
      placed : Writing b (behind_columns vs) out₂ 0 (game_of 0 vs) out
      placed = called l₂ places headed

      pub offsets_room : b + length vs < length out₂
      offsets_room = omega (arith, offsets_fit vs n m many most room placed)

      module _ {d : ℕ} {out₃ : List ℕ} (l₃ : length out₃ ≡ length out₂)
          (begin : Wrote b (offsets 0 vs) out₂ out₃ d) where
        begun : Writing d (behind_offsets vs) out₃ 0 (game_of 0 vs) out
        begun = called l₃ begin placed

        pub columns_fits : d + length edge_columns * edge_count vs ≤ length out₃
        columns_fits = omega (arith, edges_fit vs n m many most room begun, most)

        module _ {f : ℕ} {out₄ : List ℕ} (l₄ : length out₄ ≡ length out₃)
            (edges : Wrote d (columns edge_columns (all_edges vs)) out₃ out₄ f) where
          ended : Writing f [] out₄ 0 (game_of 0 vs) out
          ended = last_done l₄ edges begun

          pub written : (out₅ : List ℕ) → out₅ ≡ take f out₄ ++ replicate (length out₄ - f) 0
              → out₅ ≡ padded (length out) (game_of 0 vs)
          written out₅ zeros = game_done ended zeros
