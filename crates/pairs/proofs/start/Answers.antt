use Rattle.std.proofs.Common.{◌≡◌, ◌*◌, replicate, rules, arith}
use Rattle.pairs.proofs.Begin.{begun}
use Rattle.pairs.proofs.start.Goals as goal

pub returns : goal.returns
returns c =
    let e : c.fill.new.self ≡ replicate (3 * c.args.vertices) 0 = search rules in
    rw e (begun c.args.vertices c.args.work.now (omega (arith, c.requires.1)))
