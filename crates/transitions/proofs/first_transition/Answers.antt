use native.Mathlib.Omega.{arith}
use Rattle.transitions.proofs.Sums.{first_from_sample, sum_small}
use Rattle.transitions.proofs.first_transition.Goals as goal

pub overflow_add-result : goal.overflow_add-result
overflow_add-result c =
    let ss = c.args.system.now in
    let e = first_from_sample ss c.args.samples.now c.requires.system c.requires.samples c.args.state c.sum.result
    c.requires.state_bound c.sum.ensures in
    omega (arith, e, sum_small ss c.requires.system c.args.state _ (omega (arith, c.requires.state_bound)) e)

pub returns : goal.returns
returns c =
    first_from_sample c.args.system.now c.args.samples.now c.requires.system c.requires.samples c.args.state c.sum.result
    c.requires.state_bound c.sum.ensures
