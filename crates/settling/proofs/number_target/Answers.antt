use Rattle.settling.proofs.Make.{answer_failed, answer_appended, many_one}
use Rattle.settling.proofs.number_target.Goals as goal

pub returns-in_err-met : goal.returns-in_err-met
returns-in_err-met c =
    answer_failed _ _ _ _ _ _ _ _ c.from_residual.ensures.0
    (many_one _ _ _ c.args.counters _ c.in_err-met.ensures)

pub returns : goal.returns
returns c =
    answer_appended _ _ _ _ _ c.args.counters _ _ _ _ c.requires.0 c.in_ok-met.ensures c.meet.auto.work _
    c.append_edge.ensures
