-- `mark_count` meets its contract: its tests are those of the definition. Assumes nothing.
use Rattle.modalities.proofs.Spaces.{count_few, count_dear, count_states, count_close}
use Rattle.modalities.proofs.mark_count.Goals as goal

pub returns-then-states-room : goal.returns-then-states-room
returns-then-states-room c = count_few _ _ _ _ _ c.if-states-room.true

pub returns-then-transitions-more : goal.returns-then-transitions-more
returns-then-transitions-more c = count_dear _ _ _ _ _ c.if-states-room.false c.if-transitions-more.true

pub returns-then-edges-states : goal.returns-then-edges-states
returns-then-edges-states c =
    count_states _ _ _ _ _ c.if-states-room.false c.if-transitions-more.false c.if-edges-states.true

pub returns : goal.returns
returns c =
    count_close _ _ _ _ _ c.if-states-room.false c.if-transitions-more.false c.if-edges-states.false
