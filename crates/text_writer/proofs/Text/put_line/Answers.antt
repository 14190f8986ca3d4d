-- `put_line` meets its contract: three stretches, one after the other. Assumes nothing.
use mathlib.Core.Path.{sym}
use Rattle.text_writer.proofs.Lines.{line_parts}
use Rattle.text_writer.proofs.Appending.{appended_as, appended_both}
use Rattle.text_writer.proofs.Text.put_line.Goals as goal

pub returns : goal.returns
returns c =
    appended_as (sym (line_parts _ _))
    (appended_both c.put_bytes.ensures (appended_both c.put_numbers.ensures c.put_byte.ensures))
