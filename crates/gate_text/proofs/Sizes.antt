-- How long a game's lines are: a vertex's number and a target have three digits at most, an owner one, a priority ten.
-- Assumes nothing.
use mathlib.Core.Path.{◌≡◌, ap, ◌∙◌}
use mathlib.Core.List.{List, [], ◌∷◌, ◌++◌}
use Prim.Native.Nat.{ℕ, zero, suc, ◌+◌, ◌*◌, ◌≤◌, ◌<◌}
use native.Mathlib.Omega.{arith}
use lib.ListN.{length, length-append}
use Rattle.rules.specs.Game.{vertex_count, edges_in, owner_in, priority_in, offset_in, targets_in}
use Rattle.rules.specs.Texts.{decimal, spaced, line}
use Rattle.rules.specs.Program.{vertex_line, vertex_lines}
use Rattle.game_texts.proofs.Decimals.{tens, decimal-length, decimal-word, spaced-length}
use Rattle.gate_text.specs.Shown.{Shown}
use Rattle.parity_game.specs.Readable.{Readable}

decimal-one : (n : ℕ) → n < 10 → length (decimal n) ≤ 1
unfolding tens
decimal-one n h = decimal-length 0 n (omega arith)

decimal_three : (n : ℕ) → n < 1_000 → length (decimal n) ≤ 3
unfolding tens
decimal_three n h = decimal-length 2 n (omega arith)

module _ (g : List ℕ) (shown : Shown g) where
  vertex_length : (v : ℕ) → v < vertex_count g → length (vertex_line g v) ≤ 17 + 4 * length (targets_in g v)
  unfolding vertex_line line spaced
  vertex_length v h =
      let o = owner_in g v in
      let p = priority_in g v in
      let ts = targets_in g v in
      omega (
        arith,
        length-append (decimal v) (spaced (o ∷ p ∷ ts) ++ (10 ∷ [])),
        length-append (spaced (o ∷ p ∷ ts)) (10 ∷ []),
        length-append (decimal o) (spaced (p ∷ ts)),
        length-append (decimal p) (spaced ts),
        decimal_three v (omega (arith, shown.few)),
        decimal-one o (omega (arith, shown.owned v h)),
        decimal-word p (shown.ranked v h),
        spaced-length 4 ts (λ u i. omega (arith, decimal_three u (omega (arith, shown.few, shown.leads v u h i)))),
      )

  -- n vertices from v on are the last ones
  lines_length : (n v : ℕ) → v + n ≡ vertex_count g → length (vertex_lines g v n) + 4 * offset_in g v ≤ 17 * n + 4 * edges_in g
  unfolding vertex_lines
  lines_length zero v e =
      let h : v ≡ vertex_count g = omega arith in
      let o : offset_in g v ≡ edges_in g = ap (offset_in g) h ∙ shown.ends in
      omega arith
  lines_length (suc n) v e =
      let h : v < vertex_count g = omega arith in
      omega (arith, length-append (vertex_line g v) (vertex_lines g (suc v) n), vertex_length v h, lines_length n (suc v) (omega arith), shown.follows v h)

  pub game-length : length (vertex_lines g 0 (vertex_count g)) ≤ 12_800
  game-length = omega (arith, lines_length (vertex_count g) 0 (omega arith), shown.few, shown.few_edges)

  -- its words can be read
  pub shown_readable : Readable g
  shown_readable =
      record {
        few = omega (arith, shown.few);
        few_edges = omega (arith, shown.few_edges);
        inside = shown.inside;
        rises = λ v h. omega (arith, shown.follows v h);
        ends = shown.ends;
      }
