use mathlib.Core.Path.{◌≡◌}
use Prim.Native.Nat.{◌<◌}
use native.Mathlib.Omega.{arith}
use Rattle.rules.specs.Table.{size}
use Rattle.arena.specs.Arena.{BodyNode}
use Rattle.arena.proofs.ItemNumbers.{items_few}
use Rattle.lent_input.specs.Inputs.{input_in}
use Rattle.node_kinds.specs.Codes.{formula_code}
use Rattle.item_table.proofs.Numbers.{first_most}
use Rattle.item_table.proofs.Filling.{number-room, nodes_next, nodes_last, only_more}
use Rattle.item_table.proofs.NumberedSource.put_subformulas.Goals as goal

pub put_entry-requires : goal.put_entry-requires
put_entry-requires c =
    let i = c.args.self.now.source.input in
    let here : BodyNode i.formula.now c.loop-node.node = (omega (arith, first_most i.formula.now), omega arith) in
    omega (
      arith,
      number-room (input_in i) i.good c.args.self.now.numbers.now c.args.self.now.item_numbers c.loop-node.node here c.at.result
          c.at.ensures.0,
      items_few (input_in i) i.good,
    )

pub loop-node-preserved : goal.loop-node-preserved
loop-node-preserved c =
    let i = c.args.self.now.source.input in
    let p = c.put_entry.ensures in
    let s = c.shape_in_body-shape.result in
    let shown = rw c.formula_nodes-nodes.ensures at c.shape_in_body-shape.ensures in
    let here : BodyNode i.formula.now c.loop-node.node = (omega (arith, first_most i.formula.now), omega arith) in
    let few : c.at.result < 2_048 = omega (
      arith,
      number-room (input_in i) i.good c.args.self.now.numbers.now c.args.self.now.item_numbers c.loop-node.node here c.at.result
          c.at.ensures.0,
      items_few (input_in i) i.good,
    ) in (
      nodes_next (input_in i) i.good c.args.self.now.numbers.now c.args.self.now.item_numbers c.loop-node.node here _ _ _ _ _ _
          c.at.result (formula_code s.kind) s.left s.right (omega (arith, few, p.kinds_room)) (omega (arith, few, p.rooms.lefts))
          (omega (arith, few, p.rooms.rights)) c.at.ensures.0 shown
          p.kinds p.lefts p.rights c.loop-node.invariant.0,
      only_more _ _ _ c.loop-node.invariant.1 p.only,
    )

pub returns : goal.returns
returns c =
    let i = c.args.self.now.source.input in
    let e : c.loop-node.node ≡ size i.formula.now = omega (arith, first_most i.formula.now, i.good.formula.some) in
    (nodes_last (input_in i) i.good c.loop-node.node _ _ _ e c.loop-node.invariant.0, c.loop-node.invariant.1)
