-- `text_length` meets its contract: the bytes counted and those of the lines that are left are the text's. Assumes
-- nothing.
use mathlib.Core.Path.{◌≡◌}
use mathlib.Core.List.{[]}
use Prim.Native.Nat.{◌+◌}
use lib.ListN.{length}
use Rattle.rules.specs.PgsolverWriting.{game_text}
use Rattle.bitmap.specs.Marks.{Holds}
use Rattle.pgsolver_writer.proofs.Texts.{lines_from}
use Rattle.pgsolver_writer.proofs.WritableGame.text_length.Given as goal

abbrev pub invariant-loop-number : goal.invariant-loop-number
invariant-loop-number l =
    (l.size + length (lines_from l.self.game.words.now l.number) ≡ length (game_text l.self.game.words.now)) × Holds l.bits []
