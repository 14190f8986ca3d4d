-- A game that is not refused has a first word. Assumes nothing.
use native.Mathlib.Omega.{arith}
use mathlib.Core.Path.{◌≡◌}
use mathlib.Core.List.{List}
use Prim.Native.Nat.{ℕ, ◌<◌}
use lib.ListN.{length}
use Rattle.std.specs.declared.result.Result.TheVariants.{Ok}
use Rattle.rules.specs.GameRefusal.{game_refusal}
use Rattle.restrictions.proofs.Accepted.{good_game}

pub first_word : (g : List ℕ) → game_refusal g ≡ Ok tt → 0 < length g
first_word g e = let good = good_game g e in omega (arith, good.sized)
