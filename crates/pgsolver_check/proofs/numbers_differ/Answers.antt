-- `numbers_differ` meets its contract. Assumes nothing.
use Prim.Native.Nat.{◌+◌}
use native.Mathlib.Omega.{arith}
use Rattle.rules.specs.PgsolverReading.{numbers_of}
use Rattle.pgsolver_check.specs.Lines.{lines_from}
use Rattle.pgsolver_check.proofs.Windowing.{below_first, below_next, some_same_number, all-differ}
use Rattle.pgsolver_check.proofs.numbers_differ.Goals as goal

pub loop-base-init : goal.loop-base-init
loop-base-init c = below_first (numbers_of (lines_from c.args.text.now c.args.first)) c.requires.apart

pub returns-then-not-window_differs : goal.returns-then-not-window_differs
returns-then-not-window_differs c =
    some_same_number _ (c.window_differs.ensures.not_distinct c.if-not-window_differs.true)

pub loop-base-preserved : goal.loop-base-preserved
loop-base-preserved c =
    below_next c.loop-base.base (numbers_of (lines_from c.args.text.now c.args.first)) c.loop-base.invariant
    (c.window_differs.ensures.apart c.if-not-window_differs.false)

pub returns : goal.returns
returns c =
    all-differ (lines_from c.args.text.now c.args.first) c.loop-base.base c.args.highest c.requires.readable.1
    (omega arith) c.loop-base.invariant

pub returns-else-not-window_differs : goal.returns-else-not-window_differs
returns-else-not-window_differs c =
    all-differ (lines_from c.args.text.now c.args.first) (c.loop-base.base + 1048576) c.args.highest
    c.requires.readable.1 (omega arith)
    (below_next c.loop-base.base (numbers_of (lines_from c.args.text.now c.args.first)) c.loop-base.invariant
    (c.window_differs.ensures.apart c.if-not-window_differs.false))
