-- The marks are as many as the caller says. Assumes nothing.
use Rattle.modalities.proofs.follow.Given as goal

abbrev pub ghost-target_once : goal.ghost-target_once
ghost-target_once g a = g.marks
