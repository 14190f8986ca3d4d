-- The item is that of the vertex's pair.
use mathlib.Core.Path.{ap, ◌∙◌}
use Rattle.item_table.specs.Entries.{kind_owner}
use Rattle.game_writer.proofs.Vertices.{player_read}
use Rattle.game_writer.proofs.KnownVertex.player.Goals as goal

pub returns : goal.returns
returns c =
    player_read _ _ _ _ _ _ c.item_of-item.ensures (c.owner_of.ensures ∙ ap kind_owner c.item_at.ensures.kind)
