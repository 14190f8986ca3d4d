-- The columns below `column` are written.
use lib.ListN.{drop}
use Rattle.rules.specs.Game.{edge_columns, all_edges, columns}
use Rattle.words.proofs.Stretches.{Writing}
use Rattle.game_columns.proofs.write_edge_columns.Given as goal

abbrev pub invariant-loop-column : goal.invariant-loop-column
invariant-loop-column g l =
    let shown = all_edges (g.V.Vertices.shown l.vertices) in
    Writing l.next (columns (drop l.column edge_columns) shown) l.out l.start (columns edge_columns shown)
    l.initial.out
