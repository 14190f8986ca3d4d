-- `numbers_differ` meets its contract. Assumes nothing.
use Rattle.rules.specs.PgsolverReading.{numbers_of}
use Rattle.pgsolver_check.specs.Lines.{lines_from}
use Rattle.pgsolver_check.proofs.Windowing.{Below}
use Rattle.pgsolver_check.proofs.numbers_differ.Given as goal

abbrev pub invariant-loop-base : goal.invariant-loop-base
invariant-loop-base l = Below l.base (numbers_of (lines_from l.text l.first))
