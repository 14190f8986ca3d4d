-- What label words that passed have. Assumes nothing.
use Prim.Native.Nat.{ℕ, ◌≤◌}
use mathlib.Core.Path.{◌≡◌}
use mathlib.Core.List.{List, [], ◌∷◌}
use lib.ListN.{length}
use lib.Dec.{ltb}
use borrow.Author.Tests.{ltb-false}
use Rattle.std.specs.declared.result.Result.TheVariants.{Ok}
use Rattle.rules.specs.Answers.{first_fault}
use Rattle.rules.specs.Refusal.{refusal11, refusal12, refusal13}
use Rattle.tables.proofs.Faults.{if_passed, first_passed}
use Rattle.lists.proofs.Tests.{or-false}

-- they have L and A
pub labels_passed : (ls : List ℕ) → first_fault (refusal11 ls ∷ refusal12 ls ∷ refusal13 ls ∷ []) ≡ Ok tt → 2 ≤ length ls
unfolding refusal11
labels_passed ls e = ltb-false (length ls) 2 (or-false (ltb (length ls) 2) _ (if_passed 11 0 _ (first_passed _ e 0))).0
