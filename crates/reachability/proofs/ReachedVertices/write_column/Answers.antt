-- The column of the game, as far as its vertices are reached.
use native.Mathlib.Omega.{arith}
use Rattle.restrictions.proofs.Kept.{kept_length}
use Rattle.game_columns.proofs.Written.{wrote_as}
use Rattle.reachability.proofs.Stretches.{column-inside, column_carried}
use Rattle.reachability.proofs.ReachedVertices.write_column.Goals as goal

pub carry-requires-clause-room : goal.carry-requires-clause-room
carry-requires-clause-room c =
    omega (arith, c.requires.1, kept_length c.args.self.now.game.words.now c.args.self.now.vertices.now)

pub carry-requires-clause-inside : goal.carry-requires-clause-inside
carry-requires-clause-inside c =
    λ i l. column-inside _ _ c.args.self.now.chosen c.args.column _ _ c.vertices.ensures.0
    c.vertex_column_at-base.ensures c.requires.0 i l

pub returns : goal.returns
returns c =
    wrote_as
    (column_carried _ _ c.args.self.now.chosen c.args.column _ _ c.vertices.ensures.0 c.vertex_column_at-base.ensures
    c.requires.0)
    c.carry.ensures
