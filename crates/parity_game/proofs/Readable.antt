-- The words of a vertex's edges in a column of a readable game: where they stand, as code cuts them out. Assumes
-- nothing.
use Prim.Native.Nat.{ℕ, suc, ◌+◌, ◌-◌, ◌*◌, ◌^◌, ◌≤◌, ◌<◌}
use native.Mathlib.Omega.{arith}
use native.Mathlib.Numerals.{add-one}
use mathlib.Core.Path.{◌≡◌, refl, sym, ap, ◌∙◌}
use mathlib.Core.List.{List}
use lib.ListN.{length, take, drop}
use lib.Seq.{slice}
use Rattle.std.proofs.lemmas.List.{drop-take}
use Rattle.rules.specs.Game.{edge_columns, vertex_count, edges_in, edges_from, edge_words_in}
use Rattle.games.proofs.Columns.{rise}
use Rattle.games.proofs.Offsets.{offset_within}
use Rattle.parity_game.specs.Readable.{Readable}

-- the words between two places
cut : (a b : ℕ) (xs : List ℕ) → a ≤ b → take (b - a) (drop a xs) ≡ slice a b xs
cut a b xs h =
    let e : a + (b - a) ≡ b = omega arith in
    sym (drop-take a (b - a) xs) ∙ ap (λ (n : ℕ). drop a (take n xs)) e

module _ (g : List ℕ) (readable : Readable g) where
  -- their places are small numbers
  pub place_small : (c v p : ℕ) → c < length edge_columns → v < vertex_count g → p ≡ edges_from g c v → p < 2 ^ 32
  place_small c v p b h e =
      let column : c * edges_in g + edges_in g ≤ length edge_columns * edges_in g
      = rise c (length edge_columns) (edges_in g) b in
      let offset = offset_within g readable.rises readable.ends v (omega arith) in
      omega (arith, e, readable.few, readable.few_edges)

  -- they stand between two places of the game
  pub edges_within : (c v : ℕ) → c < length edge_columns → v < vertex_count g
      → (edges_from g c v ≤ edges_from g c (v + 1)) × (edges_from g c (v + 1) ≤ length g)
  edges_within c v b h = rw (add-one v) (
    omega (arith, readable.rises v h),
    omega (
      arith,
      readable.inside,
      offset_within g readable.rises readable.ends (suc v) h,
      rise c (length edge_columns) (edges_in g) b,
    ),
  )

  -- the words between those places
  pub cut_words : (c v a b : ℕ) → c < length edge_columns → v < vertex_count g → a ≡ edges_from g c v
      → b ≡ edges_from g c (v + 1) → take (b - a) (drop a g) ≡ edge_words_in g c v
  cut_words c v a b l h e f =
      let within = edges_within c v l h in
      cut a b g (omega (arith, within)) ∙ rw (e, f) (rw (add-one v) refl)
