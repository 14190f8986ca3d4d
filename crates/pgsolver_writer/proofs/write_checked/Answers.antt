-- `write_checked` meets its contract: a slice that is too short is refused; else the text is written, and zeros past
-- it. Assumes nothing.
use mathlib.Core.Path.{sym, ◌∙◌}
use native.Mathlib.Omega.{arith}
use lib.ListN.{length}
use borrow.Author.Tests.{ltb-false}
use Rattle.std.proofs.Common.{rules}
use Rattle.rules.specs.PgsolverWriting.{game_text}
use Rattle.tables.proofs.Faults.{if_passed}
use Rattle.text_writer.proofs.Endings.{text_finished}
use Rattle.pgsolver_writer.proofs.Lines.{writable, readable}
use Rattle.pgsolver_writer.proofs.Whole.{accepted, told_short}
use Rattle.pgsolver_writer.proofs.write_checked.Goals as goal

pub invariant_of-shown : goal.invariant_of-shown
invariant_of-shown c =
    record { readable = readable _ (writable c.args.game.now (λ i. omega (arith, c.type_inv.game i)) c.requires).good }

pub invariant_of-shown-2 : goal.invariant_of-shown-2
invariant_of-shown-2 c = record { writable = writable c.args.game.now (λ i. omega (arith, c.type_inv.game i)) c.requires }

pub returns-in_err-fault_if : goal.returns-in_err-fault_if
returns-in_err-fault_if c =
    told_short c.args.game.now c.args.text.now _ _ _ c.requires c.text_length-size.ensures.bytes.0
    c.from_residual.ensures.1 c.in_err-fault_if.ensures

pub put_text-requires-clause-room : goal.put_text-requires-clause-room
put_text-requires-clause-room c =
    let long = ltb-false _ _ (if_passed 2 0 _ (sym c.in_ok-fault_if.ensures)) in
    search (rules, long, c.new-written.ensures.empty, c.text_length-size.ensures.bytes.0)

pub returns : goal.returns
returns c =
    let game = c.args.game.now in
    let text = c.args.text.now in
    let size = c.text_length-size.ensures.bytes.0 in
    let long = ltb-false _ _ (if_passed 2 0 _ (sym c.in_ok-fault_if.ensures)) in
    text_finished (length (game_text game)) (game_text game) text (omega (arith, long, size))
    c.new-written.ensures.empty c.put_text.ensures c.finish.ensures.value
    (search rules ∙ c.finish.ensures.text_after)
    ∙ accepted game text c.requires
