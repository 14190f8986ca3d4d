-- The columns below `column` are written.
use lib.ListN.{drop}
use Rattle.rules.specs.Game.{vertex_columns, columns}
use Rattle.words.proofs.Stretches.{Writing}
use Rattle.game_columns.proofs.write_columns.Given as goal

abbrev pub invariant-loop-column : goal.invariant-loop-column
invariant-loop-column g l =
    let shown = g.V.Vertices.shown l.vertices in
    Writing l.next (columns (drop l.column vertex_columns) shown) l.out l.start (columns vertex_columns shown)
    l.initial.out
