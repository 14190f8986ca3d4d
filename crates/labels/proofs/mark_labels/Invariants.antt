-- The labels that the loop passed have their entries, and the next label starts at `from`.
use Rattle.labels.specs.Stretches.{Starts}
use Rattle.labels.specs.Marks.{Marked}
use Rattle.labels.proofs.mark_labels.Given as goal

abbrev pub invariant-loop-label : goal.invariant-loop-label
invariant-loop-label l =
    Starts l.labels.words.now l.label l.from × Marked l.labels.words.now l.starts l.marks l.label
