-- What a game says that 51 does not refuse. Assumes nothing.
use Prim.Native.Nat.{ℕ}
use native.Mathlib.Omega.{arith}
use mathlib.Core.Path.{◌≡◌}
use mathlib.Core.List.{List}
use lib.ListN.{length}
use lib.Dec.{eqb, ltb}
use borrow.Author.Tests.{ltb-false, eqb-false}
use Rattle.std.specs.declared.result.Result.TheVariants.{Ok}
use Rattle.rules.specs.Game.{vertex_count, edges_in, game_end}
use Rattle.rules.specs.Refusal.{differ}
use Rattle.rules.specs.GameRefusal.{above_room, refusal51}
use Rattle.tables.proofs.Faults.{if_passed}
use Rattle.lists.proofs.Tests.{or-false}
use Rattle.tables.proofs.Choices.{differ_false}
use Rattle.parity_game.specs.Sizes.{Sizes}

pub sizes : (g : List ℕ) → refusal51 g ≡ Ok tt → Sizes g
unfolding above_room refusal51
sizes g e =
    let a = or-false (ltb (length g) 3) _ (if_passed 51 0 _ e) in
    let b = or-false (differ (length g) (game_end g)) _ a.1 in
    let c = or-false (eqb (vertex_count g) 0) _ b.1 in
    let d = or-false (ltb 1_048_576 (vertex_count g)) _ c.1 in
    let z = eqb-false (vertex_count g) 0 c.0 in
    record {
      whole = differ_false _ _ b.0;
      some = omega arith;
      few = ltb-false 1_048_576 (vertex_count g) d.0;
      few_edges = ltb-false 4_194_304 (edges_in g) d.1;
    }
