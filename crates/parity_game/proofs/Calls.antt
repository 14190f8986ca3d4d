-- A game of n vertices and m edges that calls write, one after the other: what is left of it behind each call, and that
-- the next one has room. Assumes nothing.
use Prim.Native.Nat.{ℕ, ◌+◌, ◌-◌, ◌*◌, ◌≤◌}
use native.Mathlib.Omega.{arith}
use mathlib.Core.Path.{◌≡◌, sym}
use mathlib.Core.List.{List, [], ◌∷◌, ◌++◌, append-nil}
use lib.ListN.{length, take, replicate, length-append}
use Rattle.rules.specs.Game.{Vertex, vertex_columns, edge_columns, game_words, edge_count, offsets, all_edges, columns}
use Rattle.rules.specs.Game.{game_of, padded}
use Rattle.words.specs.Stretches.{Wrote}
use Rattle.words.proofs.Stretches.{Writing, start, turn, called, done}
use Rattle.games.proofs.Columns.{length-columns}
use Rattle.games.proofs.Reading.{length-offsets, length_edges, length_read}
use Rattle.parity_game.proofs.Stretches.{game_stretches, game_padded}

-- what is left behind the offsets, behind the columns of the vertices, behind the header
abbrev pub behind_offsets : List Vertex → List ℕ
behind_offsets vs = columns edge_columns (all_edges vs)

abbrev pub behind_columns : List Vertex → List ℕ
behind_columns vs = offsets 0 vs ++ behind_offsets vs

abbrev pub behind_header : List Vertex → List ℕ
behind_header vs = columns vertex_columns vs ++ behind_columns vs

module _ (vs : List Vertex) (n m : ℕ) (many : n ≡ length vs) (most : m ≡ edge_count vs) {at : ℕ} {out out₀ : List ℕ} where
  pub header_done : length out ≡ length out₀ → Wrote 0 (n ∷ m ∷ 0 ∷ []) out₀ out at
      → Writing at (behind_header vs) out 0 (game_of 0 vs) out₀
  header_done k c = called k c (turn (game_stretches vs n m many most) start)

  module _ (room : game_words n m ≤ length out₀) where
    pub offsets_fit : Writing at (behind_columns vs) out 0 (game_of 0 vs) out₀ → at + (n + 1) ≤ length out
    offsets_fit w =
        omega (
          arith,
          w.long,
          w.last,
          length_read 0 vs,
          length-append (offsets 0 vs) (behind_offsets vs),
          length-offsets 0 vs,
        )

    pub edges_fit : Writing at (behind_offsets vs) out 0 (game_of 0 vs) out₀ → at + length edge_columns * m ≤ length out
    edges_fit w =
        omega (
          arith,
          w.long,
          w.last,
          length_read 0 vs,
          length-columns edge_columns (all_edges vs),
          length_edges vs,
        )

-- a call writes all that is left
pub last_done : {at r at₀ : ℕ} {left stretch out out' out₀ : List ℕ} → length out' ≡ length out
    → Wrote at left out out' r → Writing at left out at₀ stretch out₀ → Writing r [] out' at₀ stretch out₀
last_done {left = left} l c w = called l c (turn (sym (append-nil left)) w)

-- all is written, and zeros past it
pub game_done : {at : ℕ} {stretch out out₀ out' : List ℕ} → Writing at [] out 0 stretch out₀
    → out' ≡ take at out ++ replicate (length out - at) 0 → out' ≡ padded (length out₀) stretch
game_done w e = game_padded _ _ _ _ _ (done w) w.long e
