-- `write_pgsolver` meets its contract: the game is refused, or its text is written. Assumes nothing.
use Rattle.pgsolver_writer.proofs.Whole.{told_answer, whole_writing}
use Rattle.pgsolver_writer.proofs.write_pgsolver.Goals as goal

pub returns : goal.returns
returns c =
    let it = whole_writing _ _ _ _ (told_answer _ _ _ _ _ c.write_text.ensures c.unwrap_or_else.ensures) in
    record { equals = it.0; coded = it.1.0; demand = it.1.1 }
