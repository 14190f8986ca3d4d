use native.Mathlib.Omega.{arith}
use lib.ListN.{length-set}
use Rattle.parity_game.proofs.Stretches.{three}
use Rattle.parity_game.proofs.write_header.Goals as goal

pub bounds-out-1 : goal.bounds-out-1
bounds-out-1 c = simp length-set (omega arith)

pub bounds-out-2 : goal.bounds-out-2
bounds-out-2 c = simp length-set (omega arith)

pub shape_of-out : goal.shape_of-out
shape_of-out c = simp length-set

pub returns : goal.returns
returns c = three c.args.vertices c.args.edges 0 c.args.out.now c.requires
