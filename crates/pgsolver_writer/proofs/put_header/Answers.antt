-- `put_header` meets its contract: three stretches, one after the other. Assumes nothing.
use mathlib.Core.Path.{sym}
use Rattle.rules.specs.Pgsolver.{parity_word}
use Rattle.text_writer.proofs.Appending.{appended_as, appended_both}
use Rattle.pgsolver_writer.proofs.Texts.{header_stretches}
use Rattle.pgsolver_writer.proofs.put_header.Goals as goal

pub returns : goal.returns
unfolding parity_word
returns c =
    appended_as (sym (header_stretches c.args.highest))
    (appended_both c.put_bytes.ensures (appended_both c.put_decimal.ensures c.put_bytes-2.ensures))
