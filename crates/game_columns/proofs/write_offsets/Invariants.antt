-- The offsets of the vertices below `vertex` are written, and `edges` edges are theirs.
use Rattle.game_columns.proofs.Written.{Offsets}
use Rattle.game_columns.proofs.write_offsets.Given as goal

abbrev pub invariant-loop-vertex : goal.invariant-loop-vertex
invariant-loop-vertex g l = Offsets (g.V.Vertices.shown l.vertices) l.edges l.vertex l.start l.out l.initial.out
