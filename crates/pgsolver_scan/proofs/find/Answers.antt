-- `find` meets its contract. Assumes nothing.
use native.Mathlib.Omega.{arith}
use mathlib.Core.Path.{sym}
use Rattle.pgsolver_scan.proofs.Blocks.{find_none, find_some}
use Rattle.pgsolver_scan.proofs.find.Goals as goal

pub returns-in_err-count : goal.returns-in_err-count
returns-in_err-count c =
    rw c.from_residual.ensures
    (find_none c.skip_blocks-block.ensures (sym c.in_err-count.ensures))

pub overflow_add-result : goal.overflow_add-result
overflow_add-result c =
    omega (
      arith,
      (find_some c.skip_blocks-block.ensures c.in_ok-count.count (sym c.in_ok-count.ensures)).1,
    )

pub returns : goal.returns
returns c =
    find_some c.skip_blocks-block.ensures c.in_ok-count.count (sym c.in_ok-count.ensures)
