-- One more column stands behind those that were written.
use native.Mathlib.Omega.{arith}
use mathlib.Core.Path.{refl}
use Rattle.rules.specs.Game.{edge_columns, all_edges}
use Rattle.parity_game.proofs.Stretches.{columns_put, columns_done}
use Rattle.game_columns.proofs.Written.{edge_column_room}
use Rattle.game_columns.proofs.write_edge_columns.Goals as goal

pub write_edge_column-next-requires : goal.write_edge_column-next-requires
write_edge_column-next-requires g c = (
  omega arith,
  edge_column_room (g.V.Vertices.shown c.args.vertices.now) c.loop-column.column (omega arith) c.requires
      c.loop-column.invariant,
)

pub loop-column-preserved : goal.loop-column-preserved
loop-column-preserved g c =
    columns_put edge_columns (all_edges (g.V.Vertices.shown c.args.vertices.now)) c.loop-column.column (omega arith) refl
    c.write_edge_column-next.auto.out c.write_edge_column-next.ensures c.loop-column.invariant

pub returns : goal.returns
returns g c =
    columns_done edge_columns (all_edges (g.V.Vertices.shown c.args.vertices.now)) c.loop-column.column (omega arith)
    c.loop-column.invariant
