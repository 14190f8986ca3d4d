-- Each call has room, and together they write the game of the vertices.
use native.Mathlib.Omega.{arith}
use Rattle.std.proofs.lemmas.Grind.{common_steps}
use Rattle.game_columns.proofs.Written.{offsets_room, columns_fits, written}
use Rattle.game_columns.proofs.write_game.Goals as goal

pub write_offsets-targets-requires-clause-room : goal.write_offsets-targets-requires-clause-room
write_offsets-targets-requires-clause-room g c =
    offsets_room (g.V.Vertices.shown c.args.vertices.now) _ _ c.count.ensures c.requires.counted c.args.out.now
    c.requires.room c.write_header-header.auto.out c.write_header-header.ensures c.write_columns-places.auto.out
    c.write_columns-places.ensures

pub write_edge_columns-end-requires : goal.write_edge_columns-end-requires
write_edge_columns-end-requires g c =
    columns_fits (g.V.Vertices.shown c.args.vertices.now) _ _ c.count.ensures c.requires.counted c.args.out.now
    c.requires.room c.write_header-header.auto.out c.write_header-header.ensures c.write_columns-places.auto.out
    c.write_columns-places.ensures c.write_offsets-targets.auto.out c.write_offsets-targets.ensures

pub returns : goal.returns
returns g c =
    written (g.V.Vertices.shown c.args.vertices.now) _ _ c.count.ensures c.requires.counted c.args.out.now
    c.requires.room c.write_header-header.auto.out c.write_header-header.ensures c.write_columns-places.auto.out
    c.write_columns-places.ensures c.write_offsets-targets.auto.out c.write_offsets-targets.ensures
    c.write_edge_columns-end.auto.out c.write_edge_columns-end.ensures _ (grind (arith, common_steps))
