-- What words have that passed the checks with which all tables begin. Assumes nothing.
use Prim.Native.Nat.{ℕ, ◌+◌}
use mathlib.Core.Path.{◌≡◌}
use mathlib.Core.List.{List}
use lib.ListN.{length}
use lib.Dec.{eqb}
use Rattle.std.specs.declared.result.Result.TheVariants.{Ok}
use Rattle.rules.specs.Words.{most_nodes}
use Rattle.rules.specs.Answers.{first_fault}
use Rattle.rules.specs.Table.{size}
use Rattle.lists.proofs.Tests.{or-false}
use Rattle.tables.proofs.Faults.{if_passed, first_passed}
use Rattle.tables.proofs.Choices.{differ_false, outside_false}
use Rattle.table_words.specs.Tables.{Sized, table_checks}

-- they are those of a table
pub table_passed : (number fewest most : ℕ) (ws : List ℕ) → first_fault (table_checks number fewest most ws) ≡ Ok tt → Sized ws
table_passed number fewest most ws e =
    let a = or-false (eqb (length ws) 0) _ (if_passed number 0 _ (first_passed _ e 0)) in
    let b = outside_false fewest most_nodes (size ws) (if_passed (number + 1) 0 _ (first_passed _ e 1)) in
    (b.1, differ_false _ _ a.1)
