-- `finish` meets its contract. Assumes nothing.
use native.Mathlib.Omega.{arith}
use Rattle.std.proofs.lemmas.Grind.{common_steps}
use Rattle.text_writer.proofs.Lines.{padded_to}
use Rattle.text_writer.proofs.Text.finish.Goals as goal

pub returns-clause-text_after : goal.returns-clause-text_after
returns-clause-text_after c =
    padded_to c.args.self.bytes.now c.args.self.size _ c.requires.0 (grind (arith, common_steps))
