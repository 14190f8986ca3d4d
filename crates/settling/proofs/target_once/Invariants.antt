use Rattle.settling.proofs.target_once.Given as goal

abbrev pub ghost-meet_once : goal.ghost-meet_once
ghost-meet_once g a = g.marks
