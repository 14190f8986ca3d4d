-- `put_vertices` meets its contract: the lines of the vertices from this one on are left. Assumes nothing.
use Prim.Native.Nat.{◌-◌}
use Rattle.rules.specs.Game.{vertex_count}
use Rattle.rules.specs.Program.{vertex_lines}
use Rattle.text_writer.proofs.Appending.{Left}
use Rattle.gate_text.proofs.put_vertices.Given as goal

abbrev pub invariant-loop-vertex : goal.invariant-loop-vertex
invariant-loop-vertex l =
    Left (vertex_lines l.game.words.now l.vertex (vertex_count l.game.words.now - l.vertex)) l.text
    (vertex_lines l.game.words.now 0 (vertex_count l.game.words.now)) l.initial.text
