-- `digits_of` meets its contract. Assumes nothing.
use Rattle.pgsolver_reader.proofs.Widths.{bound_grows}
use Rattle.pgsolver_reader.proofs.digits_of.Goals as goal

pub returns : goal.returns
returns c = bound_grows c.requires.0 c.if-vertex-digits.false
