use Prim.Native.Nat.{ℕ, ◌+◌, ◌*◌}
use mathlib.Core.Path.{ap, ◌∙◌}
use lib.ListN.{length}
use Rattle.rules.specs.Game.{vertex_columns}
use Rattle.parity_game.proofs.game_words.Goals as goal

pub returns : goal.returns
returns c =
    c.edge_column_at.ensures
    ∙ ap (λ (k : ℕ). 4 + (length vertex_columns + 1) * c.args.vertices + k * c.args.edges)
    c.edge_columns.ensures
