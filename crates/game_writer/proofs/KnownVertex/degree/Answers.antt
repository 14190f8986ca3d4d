-- A vertex is settled where its word among the degrees is not 0.
use Rattle.game_writer.proofs.Vertices.{settled_read}
use Rattle.game_writer.proofs.KnownVertex.degree.Goals as goal

pub returns-clause-settled : goal.returns-clause-settled
returns-clause-settled c = settled_read _ _ _ _ c.region_word-held.ensures _ c.checked_sub.ensures
