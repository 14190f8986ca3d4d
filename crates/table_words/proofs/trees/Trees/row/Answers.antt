use Rattle.table_words.specs.Tables.{children_of}
use Rattle.table_words.proofs.trees.Trees.row.Goals as goal

pub first_nodes-requires-clause-ends_known : goal.first_nodes-requires-clause-ends_known
first_nodes-requires-clause-ends_known g c =
    rw c.size.ensures (children_of g.K.NodeKind.node_shape c.args.self.now.words.now, c.args.self.now.ends_known)
