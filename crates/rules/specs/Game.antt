-- Games (document 01, "Words handed over": "A game is: vertices, edges, initial vertex; owners and priorities; then the
-- offsets, one more than there are vertices; then the targets. Words past its end are 0"; document 02, #102: the "count
-- of matching transitions" of each edge, "in an array after the targets"; #105: "Each vertex, waiting ones too, gains
-- its state and item number, two parallel arrays after owners and priorities"). Assumes nothing: these are definitions.
use Rattle.std.specs.Prelude.{ℕ, suc, ◌+◌, ◌*◌, ◌-◌, List, [], ◌∷◌, ◌++◌, map, length, replicate}
use Rattle.std.proofs.Math.Seq.{slice}
use Rattle.rules.specs.Lists.{word, from, sum}

-- an edge and a vertex as the game's words show them: what is written of each is a field here and a column below
pub record Edge : Type 0 where
  pub target : ℕ
  pub count : ℕ

pub record Vertex : Type 0 where
  pub owner : ℕ
  pub priority : ℕ
  pub state : ℕ
  pub item : ℕ
  pub edges : List Edge

-- an edge without a count: "added self-loops and games read from text carry 0"
abbrev pub edge_to : ℕ → Edge
edge_to t = record { target = t; count = 0 }

-- what stands where a list of vertices has no vertex
abbrev pub blank_vertex : Vertex
blank_vertex = record { owner = 0; priority = 0; state = 0; item = 0; edges = [] }

-- ---- the words of a game

-- "owners and priorities", then "state and item number": what the game has of each vertex
abbrev pub vertex_columns : List (Vertex → ℕ)
vertex_columns = (λ v. v.owner) ∷ (λ v. v.priority) ∷ (λ v. v.state) ∷ (λ v. v.item) ∷ []

-- "then the targets", the counts "in an array after the targets": what it has of each edge
abbrev pub edge_columns : List (Edge → ℕ)
edge_columns = (λ e. e.target) ∷ (λ e. e.count) ∷ []

-- n vertices and m edges: 4 + 5n + 2m, the offsets being "one more than there are vertices" (decision F2)
abbrev pub game_words : (n m : ℕ) → ℕ
game_words n m = 4 + (length vertex_columns + 1) * n + length edge_columns * m

unfoldable pub edge_count : List Vertex → ℕ
edge_count vs = sum (map (λ v. length v.edges) vs)

-- where the edges of each vertex begin, counted from e on, and where the last ones end
unfoldable pub offsets : ℕ → List Vertex → List ℕ
offsets e [] = e ∷ []
offsets e (v ∷ vs) = e ∷ offsets (e + length v.edges) vs

-- "Edges stand grouped by vertex"
unfoldable pub all_edges : List Vertex → List Edge
all_edges [] = []
all_edges (v ∷ vs) = v.edges ++ all_edges vs

-- one column after another
unfoldable pub columns : {A : Type 0} → List (A → ℕ) → List A → List ℕ
columns [] xs = []
columns (f ∷ fs) xs = map f xs ++ columns fs xs

unfoldable pub game_of : (initial : ℕ) → List Vertex → List ℕ
game_of initial vs =
    length vs ∷ edge_count vs ∷ initial
    ∷ (columns vertex_columns vs ++ (offsets 0 vs ++ columns edge_columns (all_edges vs)))

-- the words, and zeros up to n words
unfoldable pub padded : ℕ → List ℕ → List ℕ
padded n ws = ws ++ replicate (n - length ws) 0

-- ---- reading the words of a game, by the column's number

abbrev pub vertex_count : List ℕ → ℕ
vertex_count g = word g 0

abbrev pub edges_in : List ℕ → ℕ
edges_in g = word g 1

abbrev pub initial_in : List ℕ → ℕ
initial_in g = word g 2

-- where a column of the vertices begins, where the offsets do, and where a column of the edges does
abbrev pub vertex_column_at : List ℕ → (column : ℕ) → ℕ
vertex_column_at g column = 3 + column * vertex_count g

abbrev pub offsets_at : List ℕ → ℕ
offsets_at g = vertex_column_at g (length vertex_columns)

abbrev pub edge_column_at : List ℕ → (column : ℕ) → ℕ
edge_column_at g column = 4 + (length vertex_columns + 1) * vertex_count g + column * edges_in g

abbrev pub game_end : List ℕ → ℕ
game_end g = game_words (vertex_count g) (edges_in g)

-- the word of vertex v, and that of edge e
abbrev pub vertex_word : List ℕ → (column v : ℕ) → ℕ
vertex_word g column v = word g (vertex_column_at g column + v)

abbrev pub edge_word : List ℕ → (column e : ℕ) → ℕ
edge_word g column e = word g (edge_column_at g column + e)

abbrev pub offset_in : List ℕ → ℕ → ℕ
offset_in g v = word g (offsets_at g + v)

-- where the words of the edges of vertex v begin, and these words
abbrev pub edges_from : List ℕ → (column v : ℕ) → ℕ
edges_from g column v = edge_column_at g column + offset_in g v

abbrev pub edge_words_in : List ℕ → (column v : ℕ) → List ℕ
edge_words_in g column v = slice (edges_from g column v) (edges_from g column (suc v)) g

abbrev pub owner_in : List ℕ → ℕ → ℕ
owner_in g v = vertex_word g 0 v

abbrev pub priority_in : List ℕ → ℕ → ℕ
priority_in g v = vertex_word g 1 v

abbrev pub state_in : List ℕ → ℕ → ℕ
state_in g v = vertex_word g 2 v

abbrev pub item_in : List ℕ → ℕ → ℕ
item_in g v = vertex_word g 3 v

abbrev pub targets_in : List ℕ → ℕ → List ℕ
targets_in g v = edge_words_in g 0 v

abbrev pub counts_in : List ℕ → ℕ → List ℕ
counts_in g v = edge_words_in g 1 v

-- the pair of a state and an item that vertex v shows, and those of all vertices, by their numbers (#105)
abbrev pub pair_in : List ℕ → ℕ → ℕ × ℕ
pair_in g v = (state_in g v, item_in g v)

unfoldable pub pairs_in : List ℕ → List (ℕ × ℕ)
pairs_in g = map (pair_in g) (from 0 (vertex_count g))

-- edge e as the words show it, and the edges of vertex v
unfoldable pub edge_at : List ℕ → ℕ → Edge
edge_at g e = record { target = edge_word g 0 e; count = edge_word g 1 e }

unfoldable pub edges_at : List ℕ → ℕ → List Edge
edges_at g v = map (edge_at g) (from (offset_in g v) (offset_in g (suc v) - offset_in g v))
