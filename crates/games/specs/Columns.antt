-- A column of a game's vertices or edges, by its number. Assumes nothing: these are definitions.
use Rattle.std.specs.Prelude.{ℕ, List, map, get_or}
use Rattle.rules.specs.Game.{Vertex, Edge, vertex_columns, edge_columns, all_edges}

abbrev pub vertex_column : ℕ → Vertex → ℕ
vertex_column column = get_or vertex_columns column (λ v. 0)

abbrev pub edge_column : ℕ → Edge → ℕ
edge_column column = get_or edge_columns column (λ e. 0)

-- the words of all edges of these vertices
abbrev pub edge_column_of : ℕ → List Vertex → List ℕ
edge_column_of column vs = map (edge_column column) (all_edges vs)
