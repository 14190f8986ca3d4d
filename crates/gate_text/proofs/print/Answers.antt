-- `print` meets its contract, by the cases of the answer. Assumes nothing.
use Rattle.text_writer.proofs.Appending.{room_as, appended_as}
use Rattle.gate_text.proofs.Reports.{report_done, report_cut, report_refused}
use Rattle.gate_text.proofs.print.Goals as goal

pub put_game-requires-clause-room : goal.put_game-requires-clause-room
put_game-requires-clause-room c =
    room_as c.args.text.now (report_done c.args.answer c.args.game.now _ _ _ c.in-Done.is) c.requires.room

pub put_game-requires-in-Cut-clause-room : goal.put_game-requires-in-Cut-clause-room
put_game-requires-in-Cut-clause-room c =
    room_as c.args.text.now (report_cut c.args.answer c.args.game.now _ _ _ c.in-Cut.is) c.requires.room

pub put_line-requires : goal.put_line-requires
put_line-requires c =
    room_as c.args.text.now (report_refused c.args.answer c.args.game.now _ _ c.in-Refused.is) c.requires.room

pub returns-in-Done : goal.returns-in-Done
returns-in-Done c =
    appended_as (report_done c.args.answer c.args.game.now _ _ _ c.in-Done.is) c.put_game.ensures

pub returns-in-Cut : goal.returns-in-Cut
returns-in-Cut c =
    appended_as (report_cut c.args.answer c.args.game.now _ _ _ c.in-Cut.is) c.put_game-in-Cut.ensures

pub returns-in-Refused : goal.returns-in-Refused
returns-in-Refused c =
    appended_as (report_refused c.args.answer c.args.game.now _ _ c.in-Refused.is) c.put_line.ensures
