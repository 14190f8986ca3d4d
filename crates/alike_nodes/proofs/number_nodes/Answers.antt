use mathlib.Core.Path.{◌≡◌, sym, subst}
use Prim.Native.Nat.{ℕ, ◌+◌, ◌-◌, ◌<◌}
use lib.ListN.{take, drop}
use native.Mathlib.Omega.{arith}
use Rattle.alike_nodes.specs.Nodes.{NumberGiven}
use Rattle.alike_nodes.proofs.Placing.{Placed, placed_more}
use Rattle.alike_nodes.proofs.number_nodes.Goals as goal

pub loop-node-preserved : goal.loop-node-preserved
loop-node-preserved g c =
    let l = c.loop-node in
    let x = c.args.nodes.now in
    let s = c.shape-shape.result in
    let counted : c.count-count.result ≡ g.T.Nodes.count x = c.count-count.ensures.0 in
    let own : l.node - 1 + 1 ≡ l.node = omega arith in
    let inside : l.node - 1 < g.T.Nodes.count x = omega (arith, counted) in
    placed_more (g.T.Nodes.tree x) (g.T.Nodes.Shown x) (g.T.Nodes.count x) (g.met.T.Nodes.one_shape x) (g.met.T.Nodes.one_tree x)
    l.shapes l.numbers (l.node - 1) s
    (subst (λ (i : ℕ). Placed (g.T.Nodes.tree x) (g.T.Nodes.Shown x) (g.T.Nodes.count x) i l.shapes l.numbers) (sym own) l.invariant)
    inside c.shape-shape.ensures c.number_of.result
    (subst (λ (m : ℕ). NumberGiven (take (m - (l.node - 1 + 1)) (drop (l.node - 1 + 1) l.shapes)) l.numbers (l.node - 1) s c.number_of.result)
    counted c.number_of.ensures)
