-- `put_game` meets its contract: the first line, then the game's lines. Assumes nothing.
use Rattle.text_writer.proofs.Appending.{appended_both}
use Rattle.gate_text.proofs.put_game.Goals as goal

pub returns : goal.returns
returns c = appended_both c.put_line.ensures c.put_vertices.ensures
