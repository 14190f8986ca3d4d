-- `run_input` meets its contract: the run's outcome is that of the rules, and its game can be printed. Assumes nothing.
use Rattle.rules.specs.Words.{input_of, game_length, work_length}
use Rattle.rules.specs.Program.{gate_room, gate_steps, gate_run}
use Rattle.text_writer.proofs.Appending.{room_as, appended_as}
use Rattle.gate_text.proofs.Programs.{game_shown, run-printed}
use Rattle.gate_text.proofs.run_input.Goals as goal

pub print-requires : goal.print-requires
unfolding gate_run gate_room gate_steps game_length work_length
print-requires c =
    let x = input_of c.args.labels.now c.args.system.now c.args.actions.now c.args.formula.now in
    record {
      room =
          room_as c.args.text.now
          (run-printed x c.translate-answer.result _ _ c.translate-answer.ensures.equals) c.requires;
      shown = game_shown x c.translate-answer.result _ _ c.translate-answer.ensures.equals;
    }

pub returns : goal.returns
unfolding gate_run gate_room gate_steps game_length work_length
returns c =
    let x = input_of c.args.labels.now c.args.system.now c.args.actions.now c.args.formula.now in
    appended_as (run-printed x c.translate-answer.result _ _ c.translate-answer.ensures.equals) c.print.ensures
