use mathlib.Core.Path.{sym}
use Rattle.std.proofs.Common.{rules}
use Rattle.parity_game.proofs.Refusals.{first_offset, offset-falls, last_offset}
use Rattle.parity_game.proofs.check_offsets.Goals as goal

pub returns-in_err-fault_if : goal.returns-in_err-fault_if
returns-in_err-fault_if c =
    let same =
    sym (first_offset _ _ _ c.at-vertices.ensures.0 c.at-edges.ensures.0 _ c.offsets_at-first.ensures c.at.ensures.0
    c.fault_if.ensures c.in_err-fault_if.was) in
    search rules

pub returns-in_err-check_rising : goal.returns-in_err-check_rising
returns-in_err-check_rising c =
    let same =
    sym (offset-falls _ _ _ c.at-vertices.ensures.0 c.at-edges.ensures.0 _ c.offsets_at-first.ensures c.at.ensures.0
    c.fault_if.ensures c.in_ok-fault_if.was c.check_rising.ensures c.in_err-check_rising.was) in
    search rules

pub returns : goal.returns
returns c =
    last_offset _ _ _ c.at-vertices.ensures.0 c.at-edges.ensures.0 _ c.offsets_at-first.ensures c.at.ensures.0
    c.fault_if.ensures c.in_ok-fault_if.was c.check_rising.ensures c.in_ok-check_rising.was c.at-2.ensures.0
    c.fault_if-2.ensures
