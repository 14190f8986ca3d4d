-- `post_lines` meets its contract. Assumes nothing.
use Prim.Native.Nat.{◌-◌}
use mathlib.Core.Path.{◌≡◌}
use lib.ListN.{length}
use Rattle.pgsolver_reader.proofs.Posting.{Posting}
use Rattle.pgsolver_reader.proofs.Source.post_lines.Given as goal

abbrev pub invariant-loop-place : goal.invariant-loop-place
invariant-loop-place l =
    (length l.game ≡ length l.initial.game) × Posting l.self.text.now l.self.first l.self.vertices l.place l.game

abbrev pub decreases-loop-place : goal.decreases-loop-place
decreases-loop-place l =
    length l.self.text.now - l.place
