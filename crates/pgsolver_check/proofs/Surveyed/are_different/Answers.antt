-- `are_different` meets its contract. Assumes nothing.
use native.Mathlib.Omega.{arith}
use mathlib.Core.Path.{refl, ap}
use Rattle.pgsolver_check.specs.Numbers.{apart}
use Rattle.pgsolver_check.proofs.Checking.{seen_low, seen_readable, first_apart, none_same, in_order_different, repeated_same}
use Rattle.pgsolver_check.proofs.Surveyed.are_different.Goals as goal

pub numbers_differ-requires-clause-readable : goal.numbers_differ-requires-clause-readable
numbers_differ-requires-clause-readable c = (
  seen_readable c.args.self.now.seen (omega arith) c.requires.0 c.requires.1,
  seen_low c.args.self.now.seen (omega arith) c.requires.0 c.requires.1,
)

pub numbers_differ-requires-clause-apart : goal.numbers_differ-requires-clause-apart
unfolding apart
numbers_differ-requires-clause-apart c =
    first_apart c.args.self.now.seen (omega arith) c.requires.0 c.requires.1 (ap apart c.in-Different.is)

pub numbers_differ-requires-clause-highest_bound : goal.numbers_differ-requires-clause-highest_bound
numbers_differ-requires-clause-highest_bound c =
    omega (arith, c.args.self.now.seen.few, c.requires.0)

pub returns-in-InOrder : goal.returns-in-InOrder
returns-in-InOrder c =
    in_order_different c.args.self.now.seen (omega arith) c.requires.0 c.requires.1 _ c.in-InOrder.is refl

pub returns-in-Different : goal.returns-in-Different
returns-in-Different c =
    none_same c.args.self.now.seen (omega arith) c.requires.0 c.requires.1 c.numbers_differ.result
    c.numbers_differ.ensures

pub returns-in-Repeated : goal.returns-in-Repeated
unfolding apart
returns-in-Repeated c =
    repeated_same c.args.self.now.seen (omega arith) c.requires.0 c.requires.1 (ap apart c.in-Repeated.is)
