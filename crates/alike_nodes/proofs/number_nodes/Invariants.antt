-- The nodes from this one on are placed. Assumes nothing.
use Rattle.alike_nodes.proofs.Placing.{Placed}
use Rattle.alike_nodes.proofs.number_nodes.Given as goal

abbrev pub invariant-loop-node : goal.invariant-loop-node
invariant-loop-node g l =
    Placed (g.T.Nodes.tree l.nodes) (g.T.Nodes.Shown l.nodes) (g.T.Nodes.count l.nodes) l.node l.shapes l.numbers
