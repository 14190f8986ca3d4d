-- The words at places one after another are a stretch of the words; so are those of a vertex's edges in a column.
-- Assumes nothing.
use mathlib.Core.Path.{◌≡◌, sym, ap, ◌∙◌}
use mathlib.Core.List.{List, ◌∷◌, map, map-map}
use Prim.Native.Nat.{ℕ, zero, suc, ◌+◌, ◌-◌, ◌≤◌, ◌<◌}
use native.Mathlib.Omega.{arith}
use lib.ListN.{length}
use lib.Seq.{slice, slice-cons, slice_empty}
use Rattle.rules.specs.Lists.{word, from}
use Rattle.rules.specs.Game.{Edge, edge_columns, game_end, edges_in, edge_column_at, offset_in, edge_words_in, edge_at, edges_at}
use Rattle.games.specs.Columns.{edge_column}
use Rattle.games.proofs.Columns.{each_edge_column, rise}

-- n words from place s on, counted from place b
pub words-from : (n : ℕ) (ws : List ℕ) (b s : ℕ) → b + s + n ≤ length ws
    → map (λ i. word ws (b + i)) (from s n) ≡ slice (b + s) (b + s + n) ws
unfolding from
words-from zero ws b s h =
    let z : b + s + 0 ≡ b + s = omega arith in
    rw z (sym (slice_empty (b + s) ws))
words-from (suc n) ws b s h =
    let e : b + suc s ≡ suc (b + s) = omega arith in
    let f : b + suc s + n ≡ b + s + suc n = omega arith in
    ap (λ (l : List ℕ). word ws (b + s) ∷ l)
    (words-from n ws b (suc s) (omega arith)
    ∙ ap (λ (k : ℕ). slice k (b + suc s + n) ws) e
    ∙ ap (λ (k : ℕ). slice (suc (b + s)) k ws) f)
    ∙ sym (slice-cons (b + s) (b + s + suc n) ws 0 (omega arith) (omega arith))

-- a word of an edge
edge-column-at : (g : List ℕ) (c : ℕ) → c < length edge_columns → (is : List ℕ)
    → map (edge_column c) (map (edge_at g) is) ≡ map (λ i. word g (edge_column_at g c + i)) is
unfolding edge_at
edge-column-at g c h is =
    each_edge_column (λ c. map (edge_column c) (map (edge_at g) is) ≡ map (λ i. word g (edge_column_at g c + i)) is)
    (map-map (λ (e : Edge). e.target) (edge_at g) is) (map-map (λ (e : Edge). e.count) (edge_at g) is) c h

-- the words of the edges of vertex v in a column, one by one and as a stretch
pub edges_words : (g : List ℕ) (c v : ℕ) → c < length edge_columns → offset_in g v ≤ offset_in g (suc v)
    → offset_in g (suc v) ≤ edges_in g → game_end g ≤ length g → map (edge_column c) (edges_at g v) ≡ edge_words_in g c v
unfolding edges_at
edges_words g c v h rises within room =
    let many : ℕ = offset_in g (suc v) - offset_in g v in
    let e : edge_column_at g c + offset_in g v + many ≡ edge_column_at g c + offset_in g (suc v) = omega arith in
    edge-column-at g c h (from (offset_in g v) many)
    ∙ words-from many g (edge_column_at g c) (offset_in g v) (omega (arith, rise c (length edge_columns) (edges_in g) h))
    ∙ ap (λ (k : ℕ). slice (edge_column_at g c + offset_in g v) k g) e
