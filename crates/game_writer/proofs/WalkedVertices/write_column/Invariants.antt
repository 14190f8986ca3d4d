-- A word is written for each vertex below `vertex`.
use Rattle.game_writer.specs.Walks.{word_in}
use Rattle.game_writer.proofs.Rows.{Row}
use Rattle.game_writer.proofs.WalkedVertices.write_column.Given as goal

abbrev pub invariant-loop-vertex : goal.invariant-loop-vertex
invariant-loop-vertex l = Row (word_in l.self l.column) l.self.known l.vertex l.start l.out l.initial.out
