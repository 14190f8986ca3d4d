-- The priority goes by whether the vertex is settled, and by its first edge.
use mathlib.Core.Path.{sym, ap, ◌∙◌}
use Rattle.rules.specs.Vertices.{stuck_priority}
use Rattle.game_writer.proofs.Vertices.{priority_waits, priority_stuck, ranked_read}
use Rattle.game_writer.proofs.KnownVertex.shown_priority.Goals as goal

pub returns-then-not-is_settled : goal.returns-then-not-is_settled
returns-then-not-is_settled c = sym (priority_waits _ _ _ _ _ _ (sym c.is_settled.ensures ∙ c.if-not-is_settled.true))

pub returns-then-first_loops : goal.returns-then-first_loops
returns-then-first_loops c =
    c.stuck_priority.ensures ∙ ap stuck_priority c.player.ensures
    ∙ sym (priority_stuck _ _ _ _ _ _ (sym c.is_settled.ensures ∙ c.if-not-is_settled.false)
    (sym c.first_loops.ensures ∙ c.if-first_loops.true))

pub returns : goal.returns
returns c =
    c.priority_of.ensures
    ∙ ranked_read _ _ _ _ _ _ _ (sym c.is_settled.ensures ∙ c.if-not-is_settled.false)
    (sym c.first_loops.ensures ∙ c.if-first_loops.false) c.item_of-item.ensures
