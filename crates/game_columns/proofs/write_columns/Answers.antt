-- One more column stands behind those that were written.
use native.Mathlib.Omega.{arith}
use mathlib.Core.Path.{refl}
use Rattle.rules.specs.Game.{vertex_columns}
use Rattle.parity_game.proofs.Stretches.{columns_room, columns_put, columns_done}
use Rattle.game_columns.proofs.write_columns.Goals as goal

pub write_column-next-requires : goal.write_column-next-requires
write_column-next-requires g c = (
  omega arith,
  columns_room vertex_columns (g.V.Vertices.shown c.args.vertices.now) c.loop-column.column (omega arith) c.requires
      c.loop-column.invariant,
)

pub loop-column-preserved : goal.loop-column-preserved
loop-column-preserved g c =
    columns_put vertex_columns (g.V.Vertices.shown c.args.vertices.now) c.loop-column.column (omega arith) refl
    c.write_column-next.auto.out c.write_column-next.ensures c.loop-column.invariant

pub returns : goal.returns
returns g c =
    columns_done vertex_columns (g.V.Vertices.shown c.args.vertices.now) c.loop-column.column (omega arith)
    c.loop-column.invariant
