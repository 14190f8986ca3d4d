use native.Mathlib.Omega.{arith}
use lib.ListN.{length}
use Rattle.rules.specs.Game.{edge_columns}
use Rattle.games.proofs.Columns.{rise}
use Rattle.parity_game.proofs.Places.{edges_read}
use Rattle.parity_game.proofs.edges_from.Goals as goal

pub overflow_add-result : goal.overflow_add-result
overflow_add-result c =
    omega (
      arith,
      rise c.args.column (length edge_columns) c.at-edges.result c.requires.column_in_bounds.0,
      c.edge_column_at.ensures,
      c.at-vertices.ensures.1,
      c.at-edges.ensures.1,
      c.at.ensures.1,
    )

pub returns : goal.returns
returns c =
    edges_read c.args.game.now c.args.column c.args.vertex _ c.at-vertices.ensures.0 _ _ _ _
    c.at-edges.ensures.0 c.edge_column_at.ensures
    c.offsets_at.ensures c.at.ensures.0
