-- `put_number` meets its contract. Assumes nothing.
use Rattle.text_writer.proofs.Appending.{appended_both}
use Rattle.text_writer.proofs.Text.put_number.Goals as goal

pub returns : goal.returns
returns c = appended_both c.put_byte.ensures c.put_decimal.ensures
