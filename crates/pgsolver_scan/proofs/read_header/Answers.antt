-- `read_header` meets its contract. Assumes nothing.
use Rattle.rules.specs.Pgsolver.{parity_word}
use Rattle.pgsolver_scan.proofs.Headers.{header_lost, header_not, header_followed}
use Rattle.pgsolver_scan.proofs.read_header.Goals as goal

pub returns-then-not-bytes_at : goal.returns-then-not-bytes_at
unfolding parity_word
returns-then-not-bytes_at c =
    header_lost c.args.text.now c.bytes_at.ensures.place_value c.if-not-bytes_at.true

pub returns-in_err-number : goal.returns-in_err-number
unfolding parity_word
returns-in_err-number c =
    rw c.from_residual.ensures
    (header_not c.args.text.now c.bytes_at.ensures.place_value c.if-not-bytes_at.false c.in_err-number.ensures)

pub returns : goal.returns
unfolding parity_word
returns c =
    header_followed c.args.text.now c.bytes_at.ensures.place_value c.if-not-bytes_at.false
    c.in_ok-number.number c.in_ok-number.ensures _ c.followed.ensures
