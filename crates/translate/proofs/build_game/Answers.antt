-- `build_game` meets its contract: what the walk answers, written out, is the rules' run. Assumes nothing.
use mathlib.Core.Path.{sym, ◌∙◌}
use Rattle.translate.proofs.Outcomes.{sized, walked_passed, run-any_work, writable, wrote_out}
use Rattle.translate.proofs.build_game.Goals as goal

pub make_match_table-requires : goal.make_match_table-requires
make_match_table-requires c =
    record {
      classes = (c.requires.prepared.multisets, c.requires.prepared.few);
      no_rows = c.blank-matched.ensures;
    }

pub invariant_of-tables : goal.invariant_of-tables
invariant_of-tables c = record { made = c.requires.prepared.tables _ c.make_match_table.ensures }

pub explore-walked-requires : goal.explore-walked-requires
explore-walked-requires c =
    sized _ _ _ 0 c.args.game.now _ c.requires.accepted

pub write_out-requires : goal.write_out-requires
write_out-requires c =
    let passed = walked_passed _ _ _ _ _ c.explore-walked.auto.work c.requires.accepted in
    writable _ _ _ c.args.game.now _ passed c.explore-walked.result c.explore-walked.ensures

pub returns : goal.returns
returns c =
    let passed = walked_passed _ _ _ _ _ c.explore-walked.auto.work c.requires.accepted in
    let table = (c.requires.prepared.tables _ c.make_match_table.ensures).items in
    let written = wrote_out _ _ _ _ _ passed _ _ _ _ table c.explore-walked.result c.explore-walked.ensures _ _ _
    c.write_out.ensures in
    λ rank ranks. written rank ranks ∙ run-any_work rank _ _ _ _ _ _ (sym c.explore-walked.auto.work) passed
