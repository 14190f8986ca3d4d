-- The buffer holds what the program reads of the input, so what is printed of it is what is printed of the input.
use Rattle.std.proofs.Common.{rules, arith, take, length-take}
use Rattle.std.proofs.lemmas.Option.{IfSome_then}
use Rattle.rules.specs.Program.{printed, gate_text_length}
use Rattle.gate.proofs.Whole.{read_whole, written_whole}
use Rattle.gate.proofs.run.Goals as goal

pub put_text-size-requires : goal.put_text-size-requires
unfolding gate_text_length
put_text-size-requires g c = (omega (arith, length-take c.in_ok-count.count c.read_full.new.buffer, c.read_full.auto.buffer), omega arith)

pub returns : goal.returns
returns g c =
    let read = c.in_ok-count.ensures in
    let whole =
    read_whole c.read_full.new.buffer c.in_ok-count.count 8_193 (search rules) (omega (arith, read.bound.0))
    (g.R.Read.remaining c.args.input.now) (g.R.Read.remaining c.read_full.new.input) read.bytes read.end
    in
    written_whole c.write_all.result (g.R.Read.remaining c.args.input.now) (g.W.Write.contents c.args.output.now)
    (g.W.Write.contents c.write_all.new.self) (take c.put_text-size.result c.put_text-size.new.text) printed
    (IfSome_then (g.R.Read.remaining c.args.input.now) whole c.put_text-size.ensures.0) c.write_all.ensures.bytes
