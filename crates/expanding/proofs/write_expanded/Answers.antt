-- The whole formula is written, and zeros past it.
use native.Mathlib.Omega.{arith}
use Rattle.std.proofs.lemmas.Grind.{common_steps}
use Rattle.expanding.proofs.Whole.{whole_size, written}
use Rattle.expanding.proofs.write_expanded.Goals as goal

pub write_formula-requires-clause-space : goal.write_formula-requires-clause-space
write_formula-requires-clause-space c = omega (arith, whole_size c.args.regulars.now c.args.formula.now)

pub returns : goal.returns
returns c =
    written c.args.regulars.now c.args.formula.now c.args.nodes c.requires.size.0 _ c.write_formula.new.out _ _
    (grind (arith, common_steps)) (grind (arith, common_steps))
    (omega arith) c.write_formula.ensures (grind (arith, common_steps))
