use mathlib.Core.Path.{◌≡◌, subst}
use Prim.Native.Nat.{ℕ}
use lib.ListN.{take, length-take}
use native.Mathlib.Omega.{arith}
use Rattle.rules.specs.Depth.{by_depth}
use Rattle.modal_equation_system.specs.System.{RankedBy}
use Rattle.modal_equation_system.proofs.Ranking.{ranked_lent}
use Rattle.modal_equation_system.proofs.Equations.list_priorities.Goals as goal

pub returns : goal.returns
returns c =
    let f = c.args.self.now.formula.now in
    let ws = c.args.priorities.now in
    let l = c.loop-equation in
    let e : l.equation ≡ c.args.count = omega (arith, length-take c.args.count ws) in
    ranked_lent by_depth f c.args.count ws l.priority-items c.requires.room
    (subst (λ (n : ℕ). RankedBy by_depth f n (take c.args.count ws) l.priority-items) e l.invariant)
