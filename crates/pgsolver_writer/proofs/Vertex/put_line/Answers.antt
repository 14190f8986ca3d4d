-- `put_line` meets its contract: five stretches, one after the other. Assumes nothing.
use Rattle.text_writer.proofs.Appending.{appended_both}
use Rattle.pgsolver_writer.specs.Lines.{line_by}
use Rattle.pgsolver_writer.proofs.Vertex.put_line.Goals as goal

pub returns-clause-wrote : goal.returns-clause-wrote
unfolding line_by
returns-clause-wrote c =
    appended_both c.put_decimal.ensures
    (appended_both c.put_number.ensures
    (appended_both c.put_number-2.ensures (appended_both c.put.ensures.wrote c.put_bytes.ensures)))
