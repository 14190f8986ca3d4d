-- What is read is the vertex's.
use Rattle.pgsolver_writer.proofs.Lines.{successors_vertices, line_parts}
use Rattle.pgsolver_writer.proofs.WritableGame.vertex.Goals as goal

pub invariant_of-result : goal.invariant_of-result
invariant_of-result c =
    record {
      vertices =
          rw c.edge_words.ensures (successors_vertices c.args.self.game.words.now c.args.self.writable.good c.args.number c.requires);
    }

pub returns : goal.returns
returns c =
    rw (c.vertex_word.ensures, c.vertex_word-2.ensures, c.edge_words.ensures)
    (line_parts c.args.self.game.words.now c.args.self.writable c.args.number c.requires)
