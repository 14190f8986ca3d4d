-- `below_digits` meets its contract: a priority begins with a digit. Assumes nothing.
use native.Mathlib.Omega.{arith}
use Rattle.pgsolver_reader.proofs.Standing.{posted_digit}
use Rattle.pgsolver_reader.proofs.Source.below_digits.Goals as goal

pub bounds-self-posted_at : goal.bounds-self-posted_at
bounds-self-posted_at c = (posted_digit c.args.game.now c.args.self.now.vertices c.requires.posted.1 c.posted_at.ensures).0

pub returns : goal.returns
returns c =
    let h = posted_digit c.args.game.now c.args.self.now.vertices c.requires.posted.1 c.posted_at.ensures in
    grind (arith, h.1)
