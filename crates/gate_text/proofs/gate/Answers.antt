-- `gate` meets its contract: a slice that is too short is refused; else the text is written, and zeros past it. Assumes
-- nothing.
use mathlib.Core.Path.{ap, ◌∙◌}
use native.Mathlib.Omega.{arith}
use lib.ListN.{length}
use Rattle.std.proofs.Common.{rules}
use Rattle.rules.specs.Program.{printed, gate_text_length, program_text}
use Rattle.text_writer.proofs.Endings.{text_refused, text_finished}
use Rattle.gate_text.proofs.Fits.{gate_fits}
use Rattle.gate_text.proofs.gate.Goals as goal

pub returns-then-text-lt-TEXT : goal.returns-then-text-lt-TEXT
unfolding program_text gate_text_length
returns-then-text-lt-TEXT c =
    text_refused gate_text_length (printed c.args.bytes.now) c.args.text.now c.if-text-lt-TEXT.true

pub put_program-requires : goal.put_program-requires
unfolding gate_text_length
put_program-requires c =
    let empty = c.new-written.ensures.empty in
    omega (arith, gate_fits c.args.bytes.now, empty.0, ap length empty.1)

pub finish-requires : goal.finish-requires
unfolding gate_text_length
finish-requires c =
    let empty = c.new-written.ensures.empty in
    let fits = gate_fits c.args.bytes.now in
    let wrote = c.put_program.ensures in (
      omega (arith, fits, empty.0, ap length empty.1, wrote.long, wrote.wrote.past),
      omega (arith, fits, empty.0, wrote.wrote.past),
    )

pub returns : goal.returns
unfolding program_text gate_text_length
returns c =
    text_finished gate_text_length (printed c.args.bytes.now) c.args.text.now c.if-text-lt-TEXT.false
    c.new-written.ensures.empty c.put_program.ensures c.finish.ensures.value
    (search rules ∙ c.finish.ensures.text_after)
