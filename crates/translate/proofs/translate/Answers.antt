-- What users rely on follows from the rules' run. Assumes nothing.
use Rattle.std.proofs.Common.{rules}
use Rattle.rules.specs.Words.{input_of, room_of}
use Rattle.translate.proofs.Outcomes.{whole_run}
use Rattle.translate.proofs.translate.Goals as goal

pub returns : goal.returns
returns c =
    let it =
    whole_run (input_of c.args.labels.now c.args.system.now c.args.actions.now c.args.formula.now)
    (room_of c.args.vertices c.args.edges) c.args.limit c.args.game.now c.args.work.now
    c.unwrap_or_else.result c.run_lent.new.game c.run_lent.new.work (search rules) in
    record { equals = it.0; coded = it.1.0; demand1 = it.1.1.0; demand3 = it.1.1.1.0; no_false_pass = it.1.1.1.1 }
