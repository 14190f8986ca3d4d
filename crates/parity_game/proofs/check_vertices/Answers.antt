use mathlib.Core.Path.{sym, ◌∙◌}
use Rattle.std.proofs.Common.{rules}
use Rattle.parity_game.proofs.Refusals.{wrong-initial, wrong_owner, right_owners}
use Rattle.parity_game.proofs.check_vertices.Goals as goal

pub returns-in_err-fault_if : goal.returns-in_err-fault_if
returns-in_err-fault_if c =
    let same =
    sym (wrong-initial c.args.game.now _ _ c.at-vertices.ensures.0 c.at-edges.ensures.0 c.at.ensures.0
    c.fault_if.ensures c.in_err-fault_if.was) in
    search rules

pub returns-in_err-check_below : goal.returns-in_err-check_below
returns-in_err-check_below c =
    let same =
    sym (wrong_owner _ _ _ c.at-vertices.ensures.0 c.at-edges.ensures.0 c.at.ensures.0 c.fault_if.ensures _ _
    c.vertex_column_at-first.ensures c.vertex_column_at-end.ensures c.in_ok-fault_if.was
    (sym c.check_below.ensures ∙ c.in_err-check_below.was)) in
    search rules

pub returns : goal.returns
returns c =
    c.check_below-2.ensures
    ∙ sym (right_owners _ _ _ c.at-vertices.ensures.0 c.at-edges.ensures.0 c.at.ensures.0 c.fault_if.ensures _ _
    c.vertex_column_at-first.ensures c.vertex_column_at-end.ensures _ _ c.edge_column_at-target.ensures
    c.edge_column_at-past.ensures c.in_ok-fault_if.was (sym c.check_below.ensures ∙ c.in_ok-check_below.was))
