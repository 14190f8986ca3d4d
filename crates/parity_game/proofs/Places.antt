-- Where the words of a column stand, by the counts that were read. Assumes nothing.
use Prim.Native.Nat.{ℕ, ◌+◌, ◌*◌, ◌≤◌, ◌<◌}
use native.Mathlib.Omega.{arith}
use mathlib.Core.Path.{◌≡◌, ap, ◌∙◌}
use mathlib.Core.List.{List}
use lib.ListN.{length}
use Rattle.rules.specs.Lists.{word}
use Rattle.rules.specs.Game.{vertex_columns, vertex_count, edges_in, game_end, vertex_word, offset_in, edges_from}
use Rattle.games.proofs.Columns.{rise}

module _ (g : List ℕ) (column v n : ℕ) (en : n ≡ vertex_count g) where
  -- the word of vertex v stands within the game
  pub vertex_within : (p : ℕ) → p ≡ 3 + column * n → game_end g ≤ length g → column < length vertex_columns
      → v < vertex_count g → p + v < length g
  vertex_within p e h k l = omega (arith, rise column (length vertex_columns) n k)

  pub vertex_read : (p r : ℕ) → p ≡ 3 + column * n → r ≡ word g (p + v) → r ≡ vertex_word g column v
  vertex_read p r e f =
      f ∙ ap (λ (q : ℕ). word g (q + v)) e ∙ ap (λ (k : ℕ). word g (3 + column * k + v)) en

  pub edges_read : (m p q o : ℕ) → m ≡ edges_in g → p ≡ 4 + (length vertex_columns + 1) * n + column * m
      → q ≡ 3 + length vertex_columns * n
      → o ≡ word g (q + v) → p + o ≡ edges_from g column v
  edges_read m p q o em e f h =
      let a : o ≡ offset_in g v
      = h ∙ ap (λ (k : ℕ). word g (k + v)) f ∙ ap (λ (k : ℕ). word g (3 + length vertex_columns * k + v)) en in
      let b : column * m ≡ column * edges_in g = ap (λ (k : ℕ). column * k) em in
      omega arith
