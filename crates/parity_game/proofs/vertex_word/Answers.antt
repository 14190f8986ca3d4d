use native.Mathlib.Omega.{arith}
use Rattle.parity_game.proofs.Places.{vertex_within, vertex_read}
use Rattle.parity_game.proofs.vertex_word.Goals as goal

pub overflow_add-vertex_column_at : goal.overflow_add-vertex_column_at
overflow_add-vertex_column_at c =
    omega (
      arith,
      vertex_within c.args.game.now c.args.column c.args.vertex _
          c.at-vertices.ensures.0 _ c.vertex_column_at.ensures c.requires.game_in_bounds
          c.requires.column_in_bounds.0 c.requires.column_in_bounds.1,
    )

pub at-requires : goal.at-requires
at-requires c =
    vertex_within c.args.game.now c.args.column c.args.vertex _ c.at-vertices.ensures.0
    _ c.vertex_column_at.ensures c.requires.game_in_bounds c.requires.column_in_bounds.0 c.requires.column_in_bounds.1

pub returns : goal.returns
returns c =
    vertex_read c.args.game.now c.args.column c.args.vertex _
    c.at-vertices.ensures.0 _ _ c.vertex_column_at.ensures c.at.ensures.0
