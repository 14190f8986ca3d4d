-- `known_field` meets its contract. Assumes nothing.
use Rattle.pgsolver_scan.proofs.Knowing.{field_stands, field_told}
use Rattle.pgsolver_scan.proofs.known_field.Goals as goal

pub known_number-number-requires : goal.known_number-number-requires
known_number-number-requires c = field_stands c.requires

pub returns : goal.returns
returns c =
    let known = c.known_number-number in
    field_told c.requires known.result known.ensures.told known.ensures.next_in_bounds
