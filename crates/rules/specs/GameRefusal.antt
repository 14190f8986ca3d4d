-- Why a game that is handed over is refused (document 01, "Whoever hands a game to the restriction"): one definition
-- for each number, with its place, a word number. Assumes nothing: these are definitions.
use Rattle.std.specs.Prelude.{ℕ, ◌+◌, ◌-◌, Bool, ◌||◌, List, [], ◌∷◌, length, eqb, ltb, leb}
use Rattle.rules.specs.Answers.{Check}
use Rattle.rules.specs.Lists.{word}
use Rattle.rules.specs.Words.{most_vertices, most_edges}
use Rattle.rules.specs.Answers.{fault_if, first_fault}
use Rattle.rules.specs.Game.{game_words, vertex_count, edges_in, initial_in, vertex_column_at, offsets_at, edge_column_at}
use Rattle.rules.specs.Game.{offset_in}
use Rattle.rules.specs.Refusal.{differ, fault_from, lower_fault, too_large}

-- n vertices or m edges are "above the room limits"
unfoldable pub above_room : (n m : ℕ) → Bool
above_room n m = ltb most_vertices n || ltb most_edges m

-- "51: length fewer than 3 or not" 4 + 5n + 2m ("51 takes the new length", #105), "no vertex, or a size above the room
-- limits" (decisions C1, C4)
unfoldable pub refusal51 : List ℕ → Check
refusal51 g =
    fault_if 51 0
    (ltb (length g) 3 || (differ (length g) (game_words (vertex_count g) (edges_in g))
    || (eqb (vertex_count g) 0 || above_room (vertex_count g) (edges_in g))))

-- the word w is less than the one before it
unfoldable pub falls : List ℕ → ℕ → Bool
falls g w = ltb (word g w) (word g (w - 1))

-- "52: offsets don't begin at 0, fall (at the later word), or don't end at the edge count": they are the words from
-- 3 + 4n to 3 + 5n (decision C6)
unfoldable pub refusal52 : List ℕ → Check
refusal52 g =
    lower_fault (fault_if 52 (offsets_at g) (differ (offset_in g 0) 0))
    (lower_fault (fault_from 52 (1 + offsets_at g) (1 + offsets_at g + vertex_count g) (falls g))
    (fault_if 52 (offsets_at g + vertex_count g) (differ (offset_in g (vertex_count g)) (edges_in g))))

-- "53: owner above 1, target or initial vertex too large" (decisions C3, C5)
unfoldable pub refusal53 : List ℕ → Check
refusal53 g =
    lower_fault (fault_if 53 2 (leb (vertex_count g) (initial_in g)))
    (lower_fault (fault_from 53 (vertex_column_at g 0) (vertex_column_at g 1) (λ w. ltb 1 (word g w)))
    (fault_from 53 (edge_column_at g 0) (edge_column_at g 1) (too_large g (vertex_count g))))

-- "for the restriction 51, 52, 53, then 2": 2 is about the restriction's own slices
unfoldable pub game_refusal : List ℕ → Check
game_refusal g = first_fault (refusal51 g ∷ refusal52 g ∷ refusal53 g ∷ [])
