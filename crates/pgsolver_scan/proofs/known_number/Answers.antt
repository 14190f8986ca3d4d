-- `known_number` meets its contract. Assumes nothing.
use Rattle.pgsolver_scan.proofs.Knowing.{known_done}
use Rattle.pgsolver_scan.proofs.known_number.Goals as goal

pub returns-clause-told : goal.returns-clause-told
returns-clause-told c = (known_done c.requires c.digits.result c.digits.ensures).0

pub returns-clause-next_in_bounds : goal.returns-clause-next_in_bounds
returns-clause-next_in_bounds c = (known_done c.requires c.digits.result c.digits.ensures).1
