-- What a `Reached` holds, as the definitions have it. Assumes nothing: these are definitions.
use Rattle.std.specs.Prelude.{List}
use Rattle.rules.specs.Game.{Vertex}
use Rattle.rules.specs.Restrict.{kept_vertices}
use Rattle.reachability.specs.declared.Reached.{Reached}

-- the vertices that are kept
abbrev pub kept_in : Reached → List Vertex
kept_in r = kept_vertices r.game.words.now r.vertices.now
