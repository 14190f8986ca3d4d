-- The game without repeated edges: what is read of its words, and that it is the game as a text shows it where no edge
-- is repeated. Assumes nothing.
use Prim.Native.Nat.{ℕ, ◌-◌, ◌<◌}
use native.Mathlib.Omega.{arith}
use mathlib.Core.Path.{◌≡◌, refl, sym, ap, ◌∙◌}
use mathlib.Core.List.{List, ◌++◌}
use lib.ListN.{length, replicate, length-map}
use lib.Dec.{eqb}
use Rattle.rules.specs.Lists.{Distinct, from, once}
use Rattle.rules.specs.Game.{blank_vertex, Vertex, game_of, padded, vertex_count, initial_in, owner_in, priority_in, targets_in}
use Rattle.lists.proofs.Ranges.{from-length, in_from, told_at}
use Rattle.games.proofs.Columns.{map_same}
use Rattle.games.proofs.Reading.{count_read, row_read}
use Rattle.game_texts.specs.Repeats.{vertex_once, without_repeats, vertex_shown, as_shown, RepeatsRemoved}
use Rattle.rules.specs.PgsolverReading.{text_vertex}
use Rattle.game_texts.proofs.Rows.{TextRow, text_row}
use Rattle.game_texts.proofs.Saying.{once_distinct_same}

pub once_length : (g : List ℕ) → length (without_repeats g) ≡ vertex_count g
unfolding without_repeats
once_length g = length-map (from 0 (vertex_count g)) (vertex_once g) ∙ from-length 0 (vertex_count g)

-- the words of it, in a slice
pub repeats_removed : (g : List ℕ) (n : ℕ) → initial_in g ≡ 0 → RepeatsRemoved g (padded n (game_of 0 (without_repeats g)))
unfolding padded
repeats_removed g n start =
    let vs : List Vertex = without_repeats g in
    let rest : List ℕ = replicate (n - length (game_of 0 (without_repeats g))) 0 in
    record {
      count = count_read 0 vs rest ∙ once_length g;
      initial = first rest ∙ sym start;
      owners = λ v h. (row rest v h).owner;
      priorities = λ v h. (row rest v h).priority;
      edges = λ v h. (row rest v h).targets;
      counts = λ v h. (row rest v h).counts;
      states = λ v h. (row rest v h).state;
      items = λ v h. (row rest v h).item;
    }
  where
    first : (rest : List ℕ) → initial_in (game_of 0 (without_repeats g) ++ rest) ≡ 0
    first rest = unfold game_of in refl

    row : (rest : List ℕ) (v : ℕ) → v < vertex_count g
        → TextRow (game_of 0 (without_repeats g) ++ rest) v (owner_in g v) (priority_in g v) (once eqb (targets_in g v))
    row rest v h = unfold without_repeats vertex_once in
        text_row
        (row_read 0 (without_repeats g) rest v blank_vertex (vertex_once g v) (omega (arith, once_length g))
        (told_at (vertex_once g) (vertex_count g) v blank_vertex h))

-- where no edge is repeated
pub none_removed : (g : List ℕ) → ((v : ℕ) → v < vertex_count g → Distinct (targets_in g v))
    → game_of 0 (without_repeats g) ≡ as_shown g
unfolding without_repeats vertex_once as_shown vertex_shown
none_removed g single =
    ap (game_of 0)
    (map_same (vertex_once g) (vertex_shown g) (from 0 (vertex_count g))
    (λ v i. ap (text_vertex (owner_in g v) (priority_in g v))
    (once_distinct_same (targets_in g v) (single v (omega (arith, (in_from v 0 (vertex_count g) i).1))))))
