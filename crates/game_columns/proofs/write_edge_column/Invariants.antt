-- The edges of the vertices below `vertex` are written.
use lib.ListN.{drop}
use Rattle.games.specs.Columns.{edge_column_of}
use Rattle.words.proofs.Stretches.{Writing}
use Rattle.game_columns.proofs.write_edge_column.Given as goal

abbrev pub invariant-loop-vertex : goal.invariant-loop-vertex
invariant-loop-vertex g l =
    let shown = g.V.Vertices.shown l.vertices in
    Writing l.next (edge_column_of l.column (drop l.vertex shown)) l.out l.start (edge_column_of l.column shown)
    l.initial.out
