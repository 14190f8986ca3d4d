-- `put_program` meets its contract: the words run, or the refusal. Assumes nothing.
use mathlib.Core.Path.{sym}
use Rattle.rules.specs.Program.{refused_text}
use Rattle.text_writer.proofs.Appending.{room_as, appended_as}
use Rattle.gate_text.proofs.Programs.{accepted_some, accepted_none}
use Rattle.gate_text.proofs.put_program.Goals as goal

pub run_words-requires : goal.run_words-requires
run_words-requires c =
    let run = accepted_some c.args.bytes.now c.in-Some.words.now c.in-Some.ensures in
    record { agree = run.0; room = room_as c.args.text.now (sym run.1) c.requires }

pub put_line-requires : goal.put_line-requires
unfolding refused_text
put_line-requires c = room_as c.args.text.now (accepted_none c.args.bytes.now c.in-None.ensures) c.requires

pub returns-in-Some : goal.returns-in-Some
returns-in-Some c =
    let run = accepted_some c.args.bytes.now c.in-Some.words.now c.in-Some.ensures in
    appended_as (sym run.1) c.run_words.ensures

pub returns-in-None : goal.returns-in-None
unfolding refused_text
returns-in-None c = appended_as (accepted_none c.args.bytes.now c.in-None.ensures) c.put_line.ensures
