-- The vertices that are shown have as many edges as the caller says, and their game fits.
use Rattle.compiled.specs.Tables.{kinds_in, priorities_in}
use Rattle.game_writer.proofs.Whole.{edges_counted, game_fits}
use Rattle.game_writer.proofs.write_game.Goals as goal

pub write_game-requires-clause-counted : goal.write_game-requires-clause-counted
write_game-requires-clause-counted c =
    edges_counted (kinds_in c.args.compiled.now) (priorities_in c.args.compiled.now) c.requires

pub write_game-requires-clause-room : goal.write_game-requires-clause-room
write_game-requires-clause-room c =
    game_fits (kinds_in c.args.compiled.now) (priorities_in c.args.compiled.now) c.requires
