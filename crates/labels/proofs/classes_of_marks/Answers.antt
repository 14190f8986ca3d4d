use native.Mathlib.Omega.{arith}
use Prim.Native.Nat.{◌-◌}
use Rattle.labels.proofs.Marks.{starts_known, marks_tell}
use Rattle.labels.proofs.classes_of_marks.Goals as goal

pub invariant_of-marked-clause-starts_known : goal.invariant_of-marked-clause-starts_known
invariant_of-marked-clause-starts_known c =
    let l = c.loop-label in
    starts_known c.args.labels.words.now c.args.starts.now l.classes (l.label - 1) l.label (omega arith) l.invariant.0

pub invariant_of-marked-clause-marks_tell : goal.invariant_of-marked-clause-marks_tell
invariant_of-marked-clause-marks_tell c =
    let l = c.loop-label in
    marks_tell c.args.labels.words.now c.args.starts.now l.classes (l.label - 1) l.label (omega arith) l.invariant.0
