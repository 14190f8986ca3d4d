-- The row that was filled is one more of the first rows.
use Prim.Native.Nat.{◌*◌}
use native.Mathlib.Omega.{arith}
use borrow.Author.Rules.{rules}
use Rattle.match_table.proofs.Filled.{row_given}
use Rattle.match_table.proofs.MatchRows.give_row.Goals as goal

pub returns : goal.returns
returns c =
    let count = c.at-count.result in
    row_given _ _ c.args.self.now c.fill_row.new.row c.args.node (c.from.result * count) count _
    c.requires.first_rows c.requires.inside
    (omega arith) (search rules) c.at-count.ensures.0 (omega arith) (search rules) c.fill_row.ensures
