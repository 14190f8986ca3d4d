use mathlib.Core.Path.{◌≡◌}
use Prim.Native.Nat.{◌<◌}
use native.Mathlib.Omega.{arith}
use Rattle.rules.specs.Lists.{zeros}
use Rattle.rules.specs.Table.{size}
use Rattle.arena.specs.Arena.{BodyNode}
use Rattle.lent_input.specs.Inputs.{input_in}
use Rattle.item_table.proofs.Numbers.{first_most, numbering_first, next_small, numbering_next, numbering_last}
use Rattle.item_table.proofs.Source.number_items.Goals as goal

pub loop-node-init : goal.loop-node-init
unfolding zeros
loop-node-init c =
    let i = c.args.self.now.input in (
      numbering_first (input_in i) i.good c.args.nodes.now c.requires c.args.numbers.now _
          c.first_body_node-node.result _ (c.fill.ensures.after (λ y e. e)) c.first_body_node-node.ensures c.args.self.now.entered.count,
      omega (arith, c.fill.auto.self),
    )

pub number_node-next-requires : goal.number_node-next-requires
number_node-next-requires c =
    let i = c.args.self.now.input in
    let inside : c.loop-node.node < size i.formula.now = omega arith in
    let known = (c.requires.number c.loop-node.node (omega arith) inside).below in (
      omega (arith, i.good.formula.few, c.loop-node.invariant.1),
      omega (arith, known, i.good.formula.few, c.loop-node.invariant.1),
      next_small (input_in i) i.good c.args.nodes.now c.requires c.loop-node.node c.loop-node.next
          c.loop-node.numbers (omega arith) c.loop-node.invariant.0,
    )

pub loop-node-preserved : goal.loop-node-preserved
loop-node-preserved c =
    let i = c.args.self.now.input in
    let here : BodyNode i.formula.now c.loop-node.node = (omega (arith, first_most i.formula.now), omega arith) in (
      numbering_next (input_in i) i.good c.args.nodes.now c.requires c.loop-node.node c.loop-node.next c.loop-node.numbers
          (omega (arith, i.good.formula.few, c.loop-node.invariant.1)) here c.loop-node.invariant.0 _ c.at-class.result
          c.number_node-next.result c.at-class.ensures.0 c.number_node-next.ensures,
      omega (arith, c.number_node-next.auto.numbers, c.loop-node.invariant.1),
    )

pub returns : goal.returns
returns c =
    let i = c.args.self.now.input in
    let e : c.loop-node.node ≡ size i.formula.now = omega (arith, first_most i.formula.now, i.good.formula.some) in
    numbering_last (input_in i) i.good c.args.nodes.now c.requires c.loop-node.node c.loop-node.next
    c.loop-node.numbers e (omega (arith, i.good.formula.few, c.loop-node.invariant.1)) c.loop-node.invariant.0
