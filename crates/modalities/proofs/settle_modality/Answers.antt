-- `settle_modality` meets its contract: a row, or the answers decided for this state, choose the transitions that
-- match. Assumes nothing.
use mathlib.Core.Path.{subst₂, ap, ◌∙◌}
use mathlib.Core.List.{List}
use Prim.Native.Nat.{ℕ}
use lib.Dec.{eqb}
use Rattle.rules.specs.Lists.{once}
use Rattle.rules.specs.Actions.{action_tree}
use Rattle.settling.specs.Made.{Answer, tallies}
use Rattle.modalities.specs.Matched.{model_in}
use Rattle.modalities.proofs.Matches.{answered_matched, matched_modality, tallied_modality}
use Rattle.modalities.proofs.Deciding.{row_answers}
use Rattle.modalities.proofs.settle_modality.Goals as goal

pub returns-in_default : goal.returns-in_default
returns-in_default c =
    let a = c.args in
    let x = model_in a.tables.now in
    let all = matched_modality x a.modality _ c.moves_of-moves.ensures.of_state in
    let counts = tallied_modality x a.modality _ c.moves_of-moves.ensures.of_state in
    rw (← all, ← counts) c.settle_decided.ensures

pub returns : goal.returns
returns c =
    let a = c.args in
    let moves = c.moves_of-moves.result in
    let x = model_in a.tables.now in
    let all = matched_modality x a.modality moves c.moves_of-moves.ensures.of_state in
    let counts = tallied_modality x a.modality moves c.moves_of-moves.ensures.of_state in
    let answers = row_answers _ _ _ _ _ c.moves_of-moves.ensures.labels c.in-Some.ensures in
    let tree = action_tree x.labels x.actions a.modality.action in
    let same = answered_matched x.labels tree _ a.modality.operand moves.labels.now moves.targets.now _ (rw moves.within.paired at answers) in
    subst₂ (λ (ts cs : List ℕ). Answer a.work.now a.room.vertices a.room.edges a.counters ts cs
    c.settle_matched.new.work c.settle_matched.result) (ap (once eqb) same ∙ all) (ap tallies same ∙ counts)
    c.settle_matched.ensures
