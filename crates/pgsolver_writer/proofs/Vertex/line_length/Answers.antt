-- `line_length` meets its contract: the lengths of the line's parts are added. Assumes nothing.
use native.Mathlib.Omega.{arith}
use Rattle.pgsolver_writer.proofs.Lines.{line_size}
use Rattle.pgsolver_writer.proofs.Vertex.line_length.Goals as goal

pub returns : goal.returns
returns c =
    let v = c.args.self.now in
    let whole = line_size v.number v.priority v.owner v.targets.words.now in
    (omega (arith, whole), c.length-successors.ensures.emptied)
