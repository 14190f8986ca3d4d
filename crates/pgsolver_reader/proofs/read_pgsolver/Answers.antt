-- `read_pgsolver` meets its contract: a fault refuses, or the text is read. Assumes nothing.
use mathlib.Core.Path.{◌≡◌}
use Rattle.std.proofs.Common.{rules}
use Rattle.rules.specs.Words.{room_of}
use Rattle.rules.specs.PgsolverReading.{Readback, read_game}
use Rattle.pgsolver_reader.proofs.Whole.{whole_reading}
use Rattle.pgsolver_reader.proofs.read_pgsolver.Goals as goal

pub returns-clause-demand : goal.returns-clause-demand
returns-clause-demand c =
    let read : ◌≡◌ {A = Readback} (record { answer = c.unwrap_or_else.result; game = c.read_text.new.game })
    (read_game (room_of c.args.vertices c.args.edges) c.args.text.now c.args.game.now)
    = search rules in
    (whole_reading _ _ _ _ _ read).1.1
