-- What is read off the work words: the known pairs, the waiting vertices, which are settled, and the edges made so far.
-- Regions of v words: 0 to 2 slots, 3 keys, 4 stack, 5 starts, 6 degrees, 7 marks; then the edge buffer, with room for
-- e edges: their targets, then their counts, both from the last word downwards. So the words behind the marks are free
-- as long as there are few edges.
-- Assumes nothing: these are definitions.
use Rattle.std.specs.Prelude.{Bool, List, [], ◌∷◌, map, ℕ, zero, suc, ◌+◌, ◌-◌, ◌*◌, eqb, ltb, set, take, drop}
use Rattle.rules.specs.Lists.{word, from}
use Rattle.rules.specs.Walk.{Stand}
use Rattle.lists.specs.Shapes.{positions}
use Rattle.walks.specs.Sums.{stand_with}
use Rattle.work_slice.specs.Regions.{region, edge_word}
use Rattle.pairs.specs.Table.{keys_of}
use Rattle.settling.specs.declared.Counters.{Counters}

-- the last n words of a stack, the top first
unfoldable pub waiting_in : List ℕ → ℕ → List ℕ
waiting_in stack zero = []
waiting_in stack (suc n) = word stack n ∷ waiting_in stack n

-- the waiting vertices, the one numbered last first
abbrev pub waiting_of : List ℕ → ℕ → ℕ → List ℕ
waiting_of w v n = waiting_in (region 4 v w) n

-- the targets of the first n edges, in the order made
unfoldable pub edges_of : List ℕ → (v e n : ℕ) → List ℕ
edges_of w v e n = map (λ i. word w (edge_word v e 0 i)) (from 0 n)

-- their counts: how many transitions stand behind each
unfoldable pub counts_of : List ℕ → (v e n : ℕ) → List ℕ
counts_of w v e n = map (λ i. word w (edge_word v e 1 i)) (from 0 n)

-- the words with an edge to x at place i of the edge buffer, behind which so many transitions stand
unfoldable pub put_edge : (v e i x count : ℕ) → List ℕ → List ℕ
put_edge v e i x count w = set (set w (edge_word v e 0 i) x) (edge_word v e 1 i) count

-- the words with another count at place i
unfoldable pub put_count : (v e i count : ℕ) → List ℕ → List ℕ
put_count v e i count w = set w (edge_word v e 1 i) count

-- the first n marks: where there are more than v they go on behind their region
unfoldable pub marks_of : List ℕ → (v n : ℕ) → List ℕ
marks_of w v n = take n (drop (7 * v) w)

-- where the walk stands
abbrev pub stand_of : List ℕ → ℕ → Counters → Stand ℕ
stand_of w v c = stand_with (keys_of w v c.known) (waiting_of w v c.waiting)

-- the edges of vertex u, whose pair has the targets ts: to itself where there are none
unfoldable pub edges_for : ℕ → List ℕ → List ℕ → List ℕ
edges_for u known [] = u ∷ []
edges_for u known (t ∷ ts) = positions eqb known (t ∷ ts)

-- their counts, where so many transitions stand behind the edge to each target: none behind one to itself
unfoldable pub counts_for : (ℕ → ℕ) → List ℕ → List ℕ
counts_for behind [] = 0 ∷ []
counts_for behind (t ∷ ts) = map behind (t ∷ ts)

-- ---- one vertex. Its word among the degrees is 0 until it is settled, and then one more than the number of its edges

-- vertex u is settled
unfoldable pub settled_in : List ℕ → ℕ → ℕ → Bool
settled_in w v u = ltb 0 (word (region 6 v w) u)

-- where the edges of a settled vertex begin in the buffer
abbrev pub start_in : List ℕ → ℕ → ℕ → ℕ
start_in w v u = word (region 5 v w) u

-- how many edges a vertex has: none before it is settled
abbrev pub degree_in : List ℕ → ℕ → ℕ → ℕ
degree_in w v u = word (region 6 v w) u - 1

-- how many edges the first n vertices have
unfoldable pub degrees_in : List ℕ → ℕ → ℕ → ℕ
degrees_in w v zero = 0
degrees_in w v (suc n) = degrees_in w v n + degree_in w v n
