-- The first edge stands below the end of the targets, if there is one.
use native.Mathlib.Omega.{arith}
use Rattle.game_writer.proofs.Vertices.{loops_none, loops_read}
use Rattle.game_writer.proofs.KnownVertex.first_loops.Goals as goal

pub returns-then-degree-eq0 : goal.returns-then-degree-eq0
returns-then-degree-eq0 c =
    loops_none _ _ _ _ (omega (arith, c.degree.ensures.count, c.unwrap_or-degree.ensures, c.if-degree-eq0.true))

pub returns : goal.returns
returns c =
    loops_read _ _ _ _ _
    (λ e. omega (arith, e, c.degree.ensures.count, c.unwrap_or-degree.ensures, c.if-degree-eq0.false))
    (omega (arith, c.buffer_end-end.ensures, c.region_word-start.ensures))
