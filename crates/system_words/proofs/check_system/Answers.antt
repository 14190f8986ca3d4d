use mathlib.Core.Path.{sym, ◌∙◌}
use Rattle.system_words.proofs.System.{sizes_passed}
use Rattle.system_words.proofs.check_system.Goals as goal

pub check_transitions-requires : goal.check_transitions-requires
check_transitions-requires c =
    let s = sizes_passed _ (sym c.check_sizes.ensures ∙ c.in_ok-check_sizes.was) in
    record { sized = (c.requires, s.0); few = (s.1, s.2) }
