-- `bytes_at` meets its contract. Assumes nothing.
use Rattle.pgsolver_scan.proofs.Headers.{bytes_told}
use Rattle.pgsolver_scan.proofs.bytes_at.Goals as goal

pub returns-clause-place_value : goal.returns-clause-place_value
returns-clause-place_value g c =
    bytes_told c.args.text.now c.args.place g.row.N c.args.bytes.now c.starts_with.result c.told-bytes
    c.starts_with.ensures.value
