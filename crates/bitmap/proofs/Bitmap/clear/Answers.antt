-- `clear` meets its contract: as many zeros as the bitmap has words. Assumes nothing.
use mathlib.Core.Path.{sym, subst}
use mathlib.Core.List.{List, []}
use Prim.Native.Nat.{ℕ}
use Rattle.std.proofs.Common.{rules}
use Rattle.bitmap.specs.Marks.{Holds}
use Rattle.bitmap.proofs.Sets.{zeros_hold}
use Rattle.bitmap.proofs.Bitmap.clear.Goals as goal

pub returns : goal.returns
returns c = subst (λ (bits : List ℕ). Holds bits []) (sym (search rules)) (zeros_hold _ c.self.told)
