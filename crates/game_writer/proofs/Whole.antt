-- The vertices that are shown, by their numbers, and what the whole game asks for. Assumes nothing.
use mathlib.Core.Path.{◌≡◌, refl, sym, ap, ◌∙◌}
use mathlib.Core.List.{List, [], ◌∷◌, map}
use Prim.Native.Nat.{ℕ, ◌≤◌, ◌<◌}
use native.Mathlib.Omega.{arith}
use lib.ListN.{length, get_or, length-map}
use Rattle.rules.specs.Lists.{from}
use Rattle.rules.specs.Game.{Vertex, blank_vertex, edge_count, game_words}
use Rattle.games.specs.Columns.{vertex_column}
use Rattle.settling.specs.Stand.{degree_in}
use Rattle.game_columns.specs.Shown.{edges_of}
use Rattle.game_writer.specs.Shown.{shown_edges, shown_vertex, shown_word, shown_vertices, Showable}
use Rattle.game_writer.proofs.Edges.{total}
use Rattle.game_writer.proofs.Vertices.{edges_length}
use Rattle.lists.proofs.Ranges.{from-length, told_at}

-- ---- the vertices

module _ (kinds priorities w : List ℕ) (v e : ℕ) where
  -- a column, as it is written
  pub column_shown : (column n : ℕ)
      → map (shown_word kinds priorities w v e column) (from 0 n)
      ≡ map (vertex_column column) (shown_vertices kinds priorities w v e n)
  unfolding shown_vertices shown_word
  column_shown column n = go (from 0 n)
    where
      go : (us : List ℕ)
          → map (shown_word kinds priorities w v e column) us
          ≡ map (vertex_column column) (map (shown_vertex kinds priorities w v e) us)
      go [] = refl
      go (u ∷ us) = ap (λ (l : List ℕ). vertex_column column (shown_vertex kinds priorities w v e u) ∷ l) (go us)

  pub shown_length : (n : ℕ) → length (shown_vertices kinds priorities w v e n) ≡ n
  unfolding shown_vertices
  shown_length n = length-map (from 0 n) (shown_vertex kinds priorities w v e) ∙ from-length 0 n

  -- a vertex of the game is one of those that are known
  pub known_below : (n u : ℕ) → u < length (shown_vertices kinds priorities w v e n) → u < n
  known_below n u h = omega (arith, h, shown_length n)

  -- a word, by the column
  pub word_shown : (c column u r : ℕ) → column ≡ c → r ≡ vertex_column c (shown_vertex kinds priorities w v e u)
      → r ≡ shown_word kinds priorities w v e column u
  unfolding shown_word
  word_shown c column u r z f =
      f ∙ ap (λ (d : ℕ). vertex_column d (shown_vertex kinds priorities w v e u)) (sym z)

  -- a vertex by its number
  vertex_at : (n u : ℕ) → u < n
      → get_or (shown_vertices kinds priorities w v e n) u blank_vertex ≡ shown_vertex kinds priorities w v e u
  unfolding shown_vertices
  vertex_at n u h = told_at (shown_vertex kinds priorities w v e) n u blank_vertex h

  pub edges_at : (n u : ℕ) → u < n → shown_edges w v e u ≡ edges_of (shown_vertices kinds priorities w v e n) u
  unfolding shown_vertex
  edges_at n u h = sym (ap (λ (x : Vertex). x.edges) (vertex_at n u h))

  pub degree_at : (n u : ℕ) → u < n
      → length (edges_of (shown_vertices kinds priorities w v e n) u) ≡ degree_in w v u
  degree_at n u h = ap length (sym (edges_at n u h)) ∙ edges_length w v e u

-- ---- the whole game

module _ (kinds priorities : List ℕ) {w : List ℕ} {v e n m size : ℕ} (s : Showable w v e n m size) where
  pub edges_counted : m ≡ edge_count (shown_vertices kinds priorities w v e n)
  edges_counted = sym s.total ∙ sym (total kinds priorities w v e n)

  pub game_fits : game_words (length (shown_vertices kinds priorities w v e n)) m ≤ size
  game_fits = rw (shown_length kinds priorities w v e n) s.room
