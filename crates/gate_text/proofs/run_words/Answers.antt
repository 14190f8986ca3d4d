-- `run_words` meets its contract: the parts of the words are the four slices. Assumes nothing.
use mathlib.Core.Path.{ap}
use Rattle.rules.specs.Words.{Input}
use Rattle.rules.specs.Program.{gate_run, reported}
use Rattle.text_writer.proofs.Appending.{room_as, appended_as}
use Rattle.gate_text.proofs.Programs.{parts_are}
use Rattle.gate_text.proofs.run_words.Goals as goal

pub run_input-requires : goal.run_input-requires
run_input-requires c =
    room_as c.args.text.now
    (ap (λ (x : Input). reported (gate_run x))
    (parts_are c.args.words.now _ _ _ c.at.ensures.0 c.at-2.ensures.0 c.at-3.ensures.0
    (c.split_at.ensures.front, c.split_at.ensures.back) (c.split_at-2.ensures.front, c.split_at-2.ensures.back)
    (c.split_at-3.ensures.front, c.split_at-3.ensures.back)))
    c.requires.room

pub returns : goal.returns
returns c =
    appended_as
    (ap (λ (x : Input). reported (gate_run x))
    (parts_are c.args.words.now _ _ _ c.at.ensures.0 c.at-2.ensures.0 c.at-3.ensures.0
    (c.split_at.ensures.front, c.split_at.ensures.back) (c.split_at-2.ensures.front, c.split_at-2.ensures.back)
    (c.split_at-3.ensures.front, c.split_at-3.ensures.back)))
    c.run_input.ensures
