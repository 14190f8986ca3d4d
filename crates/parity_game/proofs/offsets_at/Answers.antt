use Prim.Native.Nat.{ℕ, ◌+◌, ◌*◌}
use mathlib.Core.Path.{ap, ◌∙◌}
use Rattle.parity_game.proofs.offsets_at.Goals as goal

pub returns : goal.returns
returns c =
    c.vertex_column_at.ensures ∙ ap (λ (k : ℕ). 3 + k * c.args.vertices)
    c.vertex_columns.ensures
