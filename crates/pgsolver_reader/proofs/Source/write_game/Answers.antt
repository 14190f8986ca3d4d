-- `write_game` meets its contract. Assumes nothing.
use Prim.Native.Nat.{ℕ, ◌-◌, ◌≤◌}
use native.Mathlib.Omega.{arith}
use mathlib.Core.Path.{ap, ◌∙◌}
use lib.ListN.{length}
use Rattle.std.proofs.lemmas.Grind.{common_steps}
use Rattle.pgsolver_reader.proofs.Writing.{slice_wrote_new}
use Rattle.pgsolver_reader.proofs.Clearing.{part_cleared}
use Rattle.pgsolver_reader.proofs.Assembling.{assembled, part_within}
use Rattle.pgsolver_reader.proofs.Source.write_game.Goals as goal

pub returns-clause-game_after : goal.returns-clause-game_after
returns-clause-game_after c =
    let size = ap (λ (k : ℕ). c.write_vertices-end.result - k) c.game_words.ensures in
    let part = part_cleared c.write_vertices-end.ensures c.clear_pairs.ensures c.clear_pairs.auto.game in
    let none = slice_wrote_new c.clear_pairs.ensures (omega (arith, c.write_vertices-end.ensures.room)) in
    let within : c.write_vertices-end.result ≤ length c.write_sizes.new.game
    = omega (arith, part_within part, c.write_sizes.auto.game) in
    assembled part none size c.args.game.now _ (c.clear_pairs.auto.game ∙ c.write_vertices-end.auto.game)
    c.write_sizes.ensures (grind (arith, common_steps))
