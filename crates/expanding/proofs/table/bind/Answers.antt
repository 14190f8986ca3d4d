-- A part in which one number has become another.
use Rattle.expanding.proofs.Standing.{bound}
use Rattle.expanding.proofs.table.bind.Goals as goal

pub returns : goal.returns
returns c = bound c.requires.0 c.requires.1 c.carry.ensures
