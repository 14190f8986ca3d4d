use mathlib.Core.Path.{◌≡◌, subst, ◌∙◌}
use Prim.Native.Nat.{ℕ, ◌<◌}
use native.Mathlib.Omega.{arith}
use Rattle.rules.specs.Table.{size}
use Rattle.rules.specs.Formula.{equation_count}
use Rattle.trees.proofs.Equations.{good_some_equation}
use Rattle.lent_input.specs.Inputs.{input_in}
use Rattle.item_table.specs.Entries.{ShownIn}
use Rattle.item_table.proofs.Filling.{body-room, body_small, first_next, only_more}
use Rattle.item_table.proofs.Sources.{source_few}
use Rattle.item_table.proofs.NumberedSource.put_equations.Goals as goal

pub offset_bounds-self-body : goal.offset_bounds-self-body
offset_bounds-self-body c =
    let s = c.args.self.now.source in
    let below : c.loop-equation.equation < equation_count s.input.formula.now = omega (arith, s.entered.count) in
    omega (
      arith,
      body_small (input_in s.input) s.input.good s.table.now c.args.self.now.numbers.now s.listed
          c.args.self.now.item_numbers c.loop-equation.equation below c.body_of-body.result c.body_of-body.ensures,
    )

pub bounds-self-body : goal.bounds-self-body
bounds-self-body c =
    let s = c.args.self.now.source in
    let below : c.loop-equation.equation < equation_count s.input.formula.now = omega (arith, s.entered.count) in
    body-room (input_in s.input) s.input.good s.table.now c.args.self.now.numbers.now s.listed
    c.args.self.now.item_numbers c.loop-equation.equation below c.body_of-body.result c.body_of-body.ensures

pub loop-equation-preserved : goal.loop-equation-preserved
loop-equation-preserved c =
    let s = c.args.self.now.source in
    let p = c.put_entry.ensures in
    let few : c.loop-equation.equation < 1_025 = omega (arith, s.entered.count, source_few s) in
    let below : c.loop-equation.equation < equation_count s.input.formula.now = omega (arith, s.entered.count) in (
      first_next (input_in s.input) s.input.good s.table.now c.args.self.now.numbers.now s.listed c.args.self.now.item_numbers
          c.loop-equation.equation below s.entered _ _ _ _ _ _ c.body_of-body.result _ (omega (arith, few, p.kinds_room))
          (omega (arith, few, p.rooms.lefts)) (omega (arith, few, p.rooms.rights))
          c.body_of-body.ensures c.operator_of.ensures
          p.kinds p.lefts p.rights
          c.loop-equation.invariant.0,
      only_more _ _ _ c.loop-equation.invariant.1 p.only,
      λ h. p.only.sized ∙ p.kinds_room,
    )

pub returns : goal.returns
returns c =
    let s = c.args.self.now.source in
    let e : c.loop-equation.equation ≡ s.table.now.count = omega arith in
    let some : 0 < c.loop-equation.equation = omega
    (arith, s.entered.count, good_some_equation (size s.input.actions.now) s.input.formula.now s.input.good.formula) in (
      subst (λ (n : ℕ). ShownIn (input_in s.input) n c.loop-equation.compiled) e c.loop-equation.invariant.0,
      c.loop-equation.invariant.1,
      c.loop-equation.invariant.2 some,
    )
