-- `put_text` meets its contract: the lines of the vertices from this one on are left. Assumes nothing.
use mathlib.Core.List.{[]}
use Rattle.text_writer.proofs.Appending.{Left}
use Rattle.bitmap.specs.Marks.{Holds}
use Rattle.pgsolver_writer.proofs.Texts.{lines_from}
use Rattle.pgsolver_writer.proofs.WritableGame.put_text.Given as goal

abbrev pub invariant-loop-number : goal.invariant-loop-number
invariant-loop-number l =
    Left (lines_from l.self.game.words.now l.number) l.text (lines_from l.self.game.words.now 0) l.initial.text × Holds l.bits []
