-- The word goes by whether the vertex is settled.
use mathlib.Core.Path.{sym, ap, ◌∙◌}
use Rattle.player.specs.Player.{player_index}
use Rattle.game_writer.proofs.Vertices.{owner_waits, owner-settled}
use Rattle.game_writer.proofs.KnownVertex.owner_word.Goals as goal

pub returns-then-not-is_settled : goal.returns-then-not-is_settled
returns-then-not-is_settled c = sym (owner_waits _ _ _ _ (sym c.is_settled.ensures ∙ c.if-not-is_settled.true))

pub returns : goal.returns
returns c =
    c.from.ensures ∙ ap player_index c.player.ensures
    ∙ sym (owner-settled _ _ _ _ (sym c.is_settled.ensures ∙ c.if-not-is_settled.false))
