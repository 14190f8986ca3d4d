-- `put_vertex` meets its contract: five stretches, one after the other. Assumes nothing.
use Rattle.text_writer.proofs.Appending.{appended_as, appended_both}
use Rattle.gate_text.proofs.Lines.{vertex_parts}
use Rattle.gate_text.proofs.put_vertex.Goals as goal

pub returns : goal.returns
returns c =
    appended_as
    (vertex_parts c.args.game.now.words.now c.args.vertex c.vertex_word.ensures c.vertex_word-2.ensures
    c.edge_words.ensures)
    (appended_both c.put_decimal.ensures
    (appended_both c.put_number.ensures
    (appended_both c.put_number-2.ensures (appended_both c.put_numbers.ensures c.put_byte.ensures))))
