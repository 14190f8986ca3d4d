-- The first entries, `label` of them, are marks still, and the others are written.
use mathlib.Core.Path.{◌≡◌}
use Prim.Native.Nat.{ℕ, ◌≤◌, ◌<◌}
use Rattle.rules.specs.Lists.{word}
use Rattle.rules.specs.Labels.{label_count, multiset}
use Rattle.labels.specs.Marks.{Marked}
use Rattle.labels.proofs.classes_of_marks.Given as goal

abbrev pub invariant-loop-label : goal.invariant-loop-label
invariant-loop-label l =
    Marked l.labels.words.now l.starts l.classes l.label
    × ((z : ℕ) → l.label ≤ z → z < label_count l.labels.words.now → word l.classes z ≡ multiset l.labels.words.now z)
