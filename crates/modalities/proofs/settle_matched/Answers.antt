-- `settle_matched` meets its contract: there are marks for the step that its edges do not meet, and none of them is
-- past the edges. Assumes nothing.
use mathlib.Core.Path.{refl}
use Rattle.modalities.proofs.Spaces.{marks_inside, cleared_ready, cleared_spacious, cleared_answer}
use Rattle.modalities.proofs.settle_matched.Goals as goal

pub clear_marks-requires : goal.clear_marks-requires
clear_marks-requires c = marks_inside _ _ _ _ _ _ c.mark_count-marks.ensures c.requires.unmarked.0.0

pub follow_all-requires : goal.follow_all-requires
follow_all-requires c =
    let unmarked = c.requires.unmarked.0 in
    let count = c.mark_count-marks.ensures in
    let cleared = c.clear_marks.ensures in (
      (
        cleared_ready _ _ _ _ _ _ count _ unmarked cleared,
        refl,
        rw (← count) (cleared_spacious _ _ _ _ _ _ count _ unmarked cleared _ _ c.marked_by.ensures),
      ),
      (c.requires.answers, c.requires.unmarked.1),
    )

pub returns : goal.returns
returns c =
    cleared_answer _ _ _ _ _ _ c.mark_count-marks.ensures _ c.requires.unmarked.0 c.clear_marks.ensures
    _ _ _ c.follow_all.result c.follow_all.ensures
