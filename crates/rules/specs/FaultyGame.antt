-- What is wrong with a game handed to the restriction and with the slices lent for it, in the words of document 01
-- ("Who can cause a refusal"): one clause for each condition, with its number and its place. A clause speaks of one
-- word or one size; that earlier numbers pass is not asked. Theorems `game_exact` and `game_passed`: a restriction is
-- refused with the first of these, and is not refused if there is none. Assumes nothing: these are definitions.
use Rattle.std.specs.Prelude.{◌≡◌, List, [], ◌∷◌, ℕ, suc, ◌+◌, ◌≤◌, ◌<◌, length, eqb}
use Rattle.rules.specs.Lists.{word, position}
use Rattle.rules.specs.Words.{most_vertices, most_edges}
use Rattle.rules.specs.Game.{game_words, vertex_count, edges_in, vertex_column_at, offsets_at, edge_column_at}
use Rattle.rules.specs.Faulty.{First}

-- where a game has the owner of vertex v, offset v, and the target of edge e
abbrev pub owner_place : List ℕ → ℕ → ℕ
owner_place g v = vertex_column_at g 0 + v

abbrev pub offset_place : List ℕ → ℕ → ℕ
offset_place g v = offsets_at g + v

abbrev pub target_place : List ℕ → ℕ → ℕ
target_place g e = edge_column_at g 0 + e

-- ---- a game that is handed over: fault n at place p

-- "51: length fewer than 3 or not" 4 + 5n + 2m ("51 takes the new length", #105), "no vertex, or a size above the room
-- limits"
-- "52: offsets don't begin at 0, fall (at the later word), or don't end at the edge count"
-- "53: owner above 1, target or initial vertex too large"
pub data FaultyGame (g : List ℕ) : (n p : ℕ) → Type 0 where
  few_game_words : length g < 3 → FaultyGame g 51 0
  wrong_game_words : (¬ (length g ≡ game_words (vertex_count g) (edges_in g))) → FaultyGame g 51 0
  no_vertex : vertex_count g ≡ 0 → FaultyGame g 51 0
  vertices_above_room : most_vertices < vertex_count g → FaultyGame g 51 0
  edges_above_room : most_edges < edges_in g → FaultyGame g 51 0
  offsets_begin : (¬ (word g (offset_place g 0) ≡ 0)) → FaultyGame g 52 (offset_place g 0)
  offset_falls : (v : ℕ) → v < vertex_count g → word g (offset_place g (suc v)) < word g (offset_place g v)
      → FaultyGame g 52 (offset_place g (suc v))
  offsets_end : (¬ (word g (offset_place g (vertex_count g)) ≡ edges_in g)) → FaultyGame g 52 (offset_place g (vertex_count g))
  initial_too_large : vertex_count g ≤ word g 2 → FaultyGame g 53 2
  owner_too_large : (v : ℕ) → v < vertex_count g → 1 < word g (owner_place g v) → FaultyGame g 53 (owner_place g v)
  target_too_large : (e : ℕ) → e < edges_in g → vertex_count g ≤ word g (target_place g e)
      → FaultyGame g 53 (target_place g e)

-- ---- the restriction: `out`, `map` and `work` are the lengths of the slices lent

-- "2: a lent slice of the wrong length. For the restriction: output as long as the input, map and work as many words as
-- vertices"
pub data FaultyRestriction (g : List ℕ) (out map work : ℕ) : (n p : ℕ) → Type 0 where
  faulty_game : {n p : ℕ} → FaultyGame g n p → FaultyRestriction g out map work n p
  wrong_out : (¬ (out ≡ length g)) → FaultyRestriction g out map work 2 0
  wrong_map : (¬ (map ≡ vertex_count g)) → FaultyRestriction g out map work 2 0
  wrong_work : (¬ (work ≡ vertex_count g)) → FaultyRestriction g out map work 2 0

-- "for the restriction 51, 52, 53, then 2"
unfoldable pub restriction_turn : ℕ → ℕ
restriction_turn n = position eqb n (51 ∷ 52 ∷ 53 ∷ 2 ∷ [])

-- fault n at place p is the first of all
abbrev pub FirstFaultyRestriction : List ℕ → (out map work n p : ℕ) → Type 0
FirstFaultyRestriction g out map work n p = First restriction_turn (FaultyRestriction g out map work) n p
