-- `write_in_order` meets its contract. Assumes nothing.
use mathlib.Core.Path.{◌≡◌}
use mathlib.Core.List.{[]}
use lib.ListN.{length}
use Rattle.bitmap.specs.Marks.{Holds}
use Rattle.pgsolver_reader.specs.Parts.{DigitBound, Part}
use Rattle.pgsolver_reader.proofs.Ordering.{Ordering}
use Rattle.pgsolver_reader.proofs.Source.write_in_order.Given as goal

abbrev pub invariant-loop-vertex : goal.invariant-loop-vertex
invariant-loop-vertex l =
    (length l.game ≡ length l.initial.game) × Part l.self.text.now l.self.vertices l.vertex l.end l.game × Holds l.bits []
    × Ordering l.self.text.now l.self.first l.self.vertices l.vertex l.line × DigitBound l.digits.count l.digits.bound l.vertex
