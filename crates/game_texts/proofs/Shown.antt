-- A game as a text shows it: that it is the game itself where every state, item and count is 0, and that its text is
-- the game's. Assumes nothing.
use Prim.Native.Nat.{ℕ, zero, suc, ◌+◌, ◌-◌, ◌≤◌, ◌<◌}
use native.Mathlib.Omega.{arith}
use mathlib.Core.Path.{◌≡◌, refl, sym, ap, ◌∙◌, subst}
use mathlib.Core.List.{List, [], ◌++◌, map, append-nil}
use lib.ListN.{length, length-map, get_or-eq_default}
use lib.Dec.{eqb}
use Rattle.std.proofs.Math.Option.{none as no_name}
use Rattle.rules.specs.Lists.{zeros, sum, from, once}
use Rattle.rules.specs.Game.{blank_vertex, Vertex, edge_to, edge_count, game_of, vertex_count, edges_in, initial_in, vertex_word}
use Rattle.rules.specs.Game.{owner_in, priority_in, state_in, item_in, offset_in, edge_words_in, targets_in, counts_in}
use Rattle.rules.specs.Pgsolver.{spelled}
use Rattle.rules.specs.PgsolverWriting.{line_in, text_in, game_text}
use Rattle.lists.proofs.Ranges.{from-length, in_from, told_at}
use Rattle.games.proofs.Columns.{each_vertex_column, each_edge_column, map_same}
use Rattle.games.proofs.Reading.{count_read, length_read, row_read}
use Rattle.games.proofs.Rewriting.{Whole, words_alike}
use Rattle.theorems.proofs.Read.{whole_game}
use Rattle.restrictions.specs.GoodGame.{GoodGame}
use Rattle.restrictions.proofs.Accepted.{degree}
use Rattle.restrictions.proofs.Twice.{no-pad}
use Rattle.game_texts.specs.Repeats.{vertex_shown, as_shown}
use Rattle.rules.specs.PgsolverReading.{text_vertex}
use Rattle.game_texts.proofs.Rows.{TextRow, text_row}

module _ (g : List ℕ) where
  abbrev vs : List Vertex
  vs = map (vertex_shown g) (from 0 (vertex_count g))

  -- its words
  abbrev s : List ℕ
  s = game_of 0 vs ++ []

  same_words : as_shown g ≡ s
  unfolding as_shown
  same_words = sym (append-nil (game_of 0 vs))

  many : length vs ≡ vertex_count g
  many = length-map (from 0 (vertex_count g)) (vertex_shown g) ∙ from-length 0 (vertex_count g)

  count : vertex_count s ≡ vertex_count g
  count = count_read 0 vs [] ∙ many

  row : (v : ℕ) → v < vertex_count g → TextRow s v (owner_in g v) (priority_in g v) (targets_in g v)
  unfolding vertex_shown
  row v h =
      text_row
      (row_read 0 vs [] v blank_vertex (vertex_shown g v) (omega (arith, many))
      (told_at (vertex_shown g) (vertex_count g) v blank_vertex h))

  -- ---- where what it does not show is 0

  module _ (good : GoodGame g) (start : initial_in g ≡ 0)
      (zero_pair : (v : ℕ) → v < vertex_count g → (state_in g v ≡ 0) × (item_in g v ≡ 0))
      (none : (v : ℕ) → v < vertex_count g → counts_in g v ≡ zeros (targets_in g v)) where
    whole : Whole g
    whole =
        record {
          begins = good.begins;
          follows = degree g good;
          ends = (good.ends, omega (arith, good.sized));
          past = λ i h. get_or-eq_default g 0 (omega (arith, good.sized));
        }

    whole_shown : Whole s
    whole_shown =
        subst Whole (no-pad (game_of 0 vs) ∙ sym (append-nil (game_of 0 vs)))
        (whole_game vs (length (game_of 0 vs)) (omega arith))

    -- the edges of the n vertices from v on
    edges-from : (n v : ℕ) → v + n ≤ vertex_count g
        → offset_in g v + edge_count (map (vertex_shown g) (from v n)) ≡ offset_in g (v + n)
    unfolding edge_count sum from vertex_shown text_vertex
    edges-from zero v h = let e : v + 0 ≡ v = omega arith in rw e (omega arith)
    edges-from (suc n) v h =
        let e : v + suc n ≡ suc v + n = omega arith in
        rw e
        (omega (
          arith,
          degree g good v (omega arith),
          length-map (targets_in g v) edge_to,
          edges-from n (suc v) (omega arith),
        ))

    edges_all : edge_count vs ≡ edges_in g
    edges_all =
        let e : 0 + vertex_count g ≡ vertex_count g = omega arith in
        omega (
          arith,
          good.begins,
          edges-from (vertex_count g) 0 (omega arith),
          ap (λ (n : ℕ). offset_in g n) e,
          good.ends,
        )

    long : length s ≡ length g
    long =
        omega (arith, ap length (append-nil (game_of 0 vs)), length_read 0 vs, many, edges_all, good.sized)

    first : initial_in s ≡ 0
    unfolding game_of
    first = refl

    pub shown-same : as_shown g ≡ g
    shown-same =
        same_words
        ∙ words_alike s g long whole_shown whole
        (record {
          count = count;
          initial = first ∙ sym start;
          vertex = each_vertex_column (λ c. (v : ℕ) → v < vertex_count s → vertex_word s c v ≡ vertex_word g c v)
              (λ v h. (row v (omega (arith, count))).owner) (λ v h. (row v (omega (arith, count))).priority)
              (λ v h. let l : v < vertex_count g = omega (arith, count) in
              (row v l).state ∙ sym (zero_pair v l).0)
              (λ v h. let l : v < vertex_count g = omega (arith, count) in
              (row v l).item ∙ sym (zero_pair v l).1);
          edges = each_edge_column (λ c. (v : ℕ) → v < vertex_count s → edge_words_in s c v ≡ edge_words_in g c v)
              (λ v h. (row v (omega (arith, count))).targets)
              (λ v h. let l : v < vertex_count g = omega (arith, count) in (row v l).counts ∙ sym (none v l));
        })

  -- ---- the text of a game does not depend on what a text does not show

  shown_line : (v : ℕ) → v < vertex_count g → line_in s v ≡ line_in g v
  unfolding line_in
  shown_line v h =
      let r = row v h in
      λ i. record {
        number = v;
        priority = r.priority i;
        owner = r.owner i;
        successors = once eqb (r.targets i);
        name = no_name;
      }

  pub text_as_shown : game_text (as_shown g) ≡ game_text g
  unfolding game_text text_in
  text_as_shown =
      ap game_text same_words ∙ (λ i. spelled (record { highest = count i - 1; lines = lines i }))
    where
      lines : map (line_in s) (from 0 (vertex_count s)) ≡ map (line_in g) (from 0 (vertex_count g))
      lines =
          ap (λ (n : ℕ). map (line_in s) (from 0 n)) count
          ∙ map_same (line_in s) (line_in g) (from 0 (vertex_count g))
          (λ v m. shown_line v (omega (arith, (in_from v 0 (vertex_count g) m).1)))
