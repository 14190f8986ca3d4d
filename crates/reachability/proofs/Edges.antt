-- A game that is not refused can be read, and where its edges lead. Assumes nothing.
use Prim.Native.Nat.{ℕ, ◌<◌}
use native.Mathlib.Omega.{arith}
use mathlib.Core.Path.{◌≡◌, ap}
use mathlib.Core.List.{List}
use lib.ListN.{length}
use Rattle.rules.specs.Lists.{word}
use Rattle.rules.specs.Game.{vertex_count, edge_words_in}
use Rattle.lists.proofs.Members.{in_at}
use Rattle.parity_game.specs.Readable.{Readable}
use Rattle.restrictions.specs.GoodGame.{GoodGame}
use Rattle.restrictions.proofs.Accepted.{target_below}

module _ (g : List ℕ) (good : GoodGame g) where
  -- it can be read
  pub readable : Readable g
  readable =
      record {
        few = good.few;
        few_edges = good.light;
        inside = omega (arith, good.sized);
        rises = good.rises;
        ends = good.ends;
      }

  -- a word of the targets is a vertex
  pub leads_at : (v : ℕ) (ts : List ℕ) → v < vertex_count g → ts ≡ edge_words_in g 0 v → (p : ℕ) → p < length ts
      → word ts p < vertex_count g
  leads_at v ts h e p l =
      let m : p < length (edge_words_in g 0 v) = omega (arith, ap length e) in
      rw e (target_below g good v h (word (edge_words_in g 0 v) p) (in_at (edge_words_in g 0 v) p 0 m))
