use mathlib.Core.Path.{◌≡◌, subst}
use Prim.Native.Nat.{ℕ}
use native.Mathlib.Omega.{arith}
use Rattle.std.proofs.Common.{rules}
use Rattle.rules.specs.Table.{size}
use Rattle.modal_equation_system.specs.Listing.{Listing}
use Rattle.modal_equation_system.proofs.Listing.{listing_first, listing_last, entered_last}
use Rattle.modal_equation_system.proofs.EquationTable.list_equations.Goals as goal

pub loop-node-init : goal.loop-node-init
loop-node-init c =
    listing_first c.args.formula.now c.from-self.result c.args.self.now c.is_fixpoint_at.result c.from-self.ensures
    c.is_fixpoint_at.ensures (search rules)

pub returns-clause-value : goal.returns-clause-value
returns-clause-value c =
    let e : c.loop-node.node ≡ size c.args.formula.now = omega arith in
    (entered_last c.args.formula.now c.loop-node.self
    (subst (λ (v : ℕ). Listing c.args.formula.now v c.loop-node.self) e c.loop-node.invariant)).count

pub returns-clause-listed : goal.returns-clause-listed
returns-clause-listed c =
    let e : c.loop-node.node ≡ size c.args.formula.now = omega arith in
    listing_last c.args.formula.now c.loop-node.self c.requires
    (subst (λ (v : ℕ). Listing c.args.formula.now v c.loop-node.self) e c.loop-node.invariant)

pub returns-clause-entered : goal.returns-clause-entered
returns-clause-entered c =
    let e : c.loop-node.node ≡ size c.args.formula.now = omega arith in
    entered_last c.args.formula.now c.loop-node.self
    (subst (λ (v : ℕ). Listing c.args.formula.now v c.loop-node.self) e c.loop-node.invariant)
