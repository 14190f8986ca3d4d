-- One of the vertices of a game that is written, by its number. Assumes nothing: these are definitions.
use Rattle.std.specs.Prelude.{ℕ, List, get_or}
use Rattle.rules.specs.Game.{Edge, Vertex, blank_vertex}

-- the edges of vertex i
abbrev pub edges_of : List Vertex → ℕ → List Edge
edges_of vs i = (get_or vs i blank_vertex).edges
