-- Each answer is the law of the node's kind, for every formula that the table is of. Assumes nothing.
use mathlib.Core.Path.{subst}
use mathlib.Core.Bool.{not, beq}
use Prim.Native.Nat.{ℕ}
use native.Mathlib.Omega.{arith}
use Rattle.std.proofs.Common.{rules}
use Rattle.modal_equation_system.specs.System.{ReadsBody}
use Rattle.modal_equation_system.proofs.Reading.{byte_few, reference_code, listed_few, link_listed, equation_few, reading_few, at_leaf, at_two, at_modal, at_later, at_equation}
use Rattle.modal_equation_system.proofs.EquationTable.+read_body_read_equation.Goals as goal

pub read_body-is_least-requires : goal.read_body-is_least-requires
read_body-is_least-requires t c =
    let r = c.requires in
    omega (arith, r.below, listed_few r.formula c.args.self.now r.listed)

pub read_body-is_least-requires-in-Least : goal.read_body-is_least-requires-in-Least
read_body-is_least-requires-in-Least t c =
    let a = c.args in
    let listed =
    link_listed a.self.now a.node a.equation c.requires c.kind_of.result c.kind_of.ensures c.in-Least.is _ c.link_of-referred.ensures in
    omega (arith, equation_few a.self.now _ listed)

pub read_body-read_equation-requires : goal.read_body-read_equation-requires
read_body-read_equation-requires t c =
    let a = c.args in
    let listed =
    link_listed a.self.now a.node a.equation c.requires c.kind_of.result c.kind_of.ensures c.in-Least.is _ c.link_of-referred.ensures in
    (omega (arith, equation_few a.self.now _ listed, c.if-referred-equation.false, c.decreases), listed)

pub read_body-overflow_add-result : goal.read_body-overflow_add-result
read_body-overflow_add-result t c =
    let a = c.args in
    let listed =
    link_listed a.self.now a.node a.equation c.requires c.kind_of.result c.kind_of.ensures c.in-Least.is _ c.link_of-referred.ensures in
    omega (
      arith,
      reading_few a.self.now _ listed a.target c.read_equation.result c.read_equation.ensures,
      c.from.ensures,
      byte_few (not (beq c.is_least.result c.is_least-in-Least.result)),
    )

pub read_body-returns-else-referred-equation : goal.read_body-returns-else-referred-equation
read_body-returns-else-referred-equation t c =
    let a = c.args in
    let e = c.link_of-referred.ensures in
    rw c.from.ensures
    (at_later a.self.now a.target a.equation a.node (omega (arith, c.kind_of.ensures, reference_code c.kind_of.result c.in-Least.is))
    c.link_of-referred.result e c.if-referred-target.false c.if-referred-equation.false
    c.read_equation.result c.read_equation.ensures
    c.is_least.result c.is_least-in-Least.result c.is_least.ensures c.is_least-in-Least.ensures)

pub read_body-returns-in-True : goal.read_body-returns-in-True
read_body-returns-in-True t c =
    let a = c.args in
    at_leaf a.self.now a.target a.equation a.node (search rules)

pub read_body-returns-in-And : goal.read_body-returns-in-And
read_body-returns-in-And t c =
    let a = c.args in
    rw c.max.ensures
    (at_two a.self.now a.target a.equation a.node c.read_body-left.result c.read_body-right.result (search rules) (search rules)
    c.read_body-left.ensures (subst (λ (o : ℕ). ReadsBody a.self.now o a.equation a.target c.read_body-right.result) c.link_of-operand.ensures c.read_body-right.ensures))

pub read_body-returns-in-Box : goal.read_body-returns-in-Box
read_body-returns-in-Box t c =
    let a = c.args in
    at_modal a.self.now a.target a.equation a.node c.read_body.result (search rules) (search rules) c.read_body.ensures

pub read_equation-body_of-requires : goal.read_equation-body_of-requires
read_equation-body_of-requires t c = omega (arith, equation_few c.args.self.now c.args.equation c.requires)

pub read_equation-returns : goal.read_equation-returns
read_equation-returns t c =
    let a = c.args in
    at_equation a.self.now a.target a.equation c.read_body.result
    (subst (λ (o : ℕ). ReadsBody a.self.now o a.equation a.target c.read_body.result) c.body_of.ensures c.read_body.ensures)
