-- `write_block` meets its contract. Assumes nothing.
use Prim.Native.Nat.{◌≤◌}
use mathlib.Core.Path.{◌≡◌}
use mathlib.Core.List.{[]}
use lib.ListN.{length}
use Rattle.bitmap.specs.Marks.{Holds}
use Rattle.pgsolver_reader.specs.Parts.{Part, PostedFrom}
use Rattle.pgsolver_reader.proofs.Source.write_block.Given as goal

abbrev pub invariant-loop-vertex : goal.invariant-loop-vertex
invariant-loop-vertex l =
    (length l.game ≡ length l.initial.game) × Part l.self.text.now l.self.vertices l.vertex l.end l.game × Holds l.bits []
    × PostedFrom l.self.text.now l.self.vertices l.vertex l.game × (l.vertex ≤ l.last)
