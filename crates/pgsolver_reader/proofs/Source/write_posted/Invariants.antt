-- `write_posted` meets its contract: no byte that is looked at is odd, and every block is written. Assumes nothing.
use Prim.Native.Nat.{min}
use mathlib.Core.Path.{◌≡◌}
use mathlib.Core.List.{[]}
use lib.ListN.{length}
use Rattle.bitmap.specs.Marks.{Holds}
use Rattle.pgsolver_reader.specs.Parts.{Part, PostedFrom}
use Rattle.pgsolver_reader.proofs.Source.write_posted.Given as goal

abbrev pub invariant-loop-first : goal.invariant-loop-first
invariant-loop-first l =
    (length l.game ≡ length l.initial.game) × Part l.self.text.now l.self.vertices (min l.self.vertices l.first) l.end l.game
    × Holds l.bits [] × PostedFrom l.self.text.now l.self.vertices (min l.self.vertices l.first) l.game
