use Rattle.settling.proofs.Buffer.{edge_stored}
use Rattle.settling.proofs.put_edge.Goals as goal

pub returns : goal.returns
returns c = edge_stored _ _ _ _ _ _ _ c.requires.0 c.edge_word-edge.ensures
