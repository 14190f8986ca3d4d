-- As many are shown as are known.
use mathlib.Core.Path.{sym}
use Rattle.compiled.specs.Tables.{kinds_in, priorities_in}
use Rattle.game_writer.proofs.Whole.{shown_length}
use Rattle.game_writer.proofs.WalkedVertices.count.Goals as goal

pub returns : goal.returns
returns c = sym (shown_length (kinds_in c.args.self.now.compiled.now) (priorities_in c.args.self.now.compiled.now) _ _ _ _)
