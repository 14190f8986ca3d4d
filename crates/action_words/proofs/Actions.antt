-- The end of the check of the action formulas, and what words that passed have. Assumes nothing.
use Prim.Native.Nat.{ℕ}
use mathlib.Core.Path.{◌≡◌, sym, ap, ◌∙◌}
use mathlib.Core.Bool.{Bool, not}
use mathlib.Core.List.{List, [], ◌∷◌}
use lib.ListN.{length}
use lib.Dec.{eqb}
use borrow.Author.Tests.{ltb-false}
use Rattle.std.specs.declared.result.Result.TheVariants.{Ok}
use Rattle.rules.specs.Answers.{Check, fault_if, first_fault}
use Rattle.rules.specs.Table.{size, action_children, on_row}
use Rattle.rules.specs.Refusal.{fault_from, bad_action_operand, refusal31, refusal32, refusal33, refusal34}
use Rattle.tables.proofs.Faults.{if_passed, first_passed, then_passed}
use Rattle.tables.proofs.Pools.{refusal34_scan}
use Rattle.lists.proofs.Tests.{or-false}
use Rattle.tables.proofs.Choices.{differ_false}
use Rattle.table_words.specs.Tables.{Sized}

-- words that passed are those of a table
pub actions_passed : (acts ls : List ℕ) → first_fault (refusal31 acts ∷ refusal32 acts ∷ refusal33 acts ∷ refusal34 ls acts ∷ []) ≡ Ok tt → Sized acts
unfolding refusal31 refusal32
actions_passed acts ls e =
    let a = or-false (eqb (length acts) 0) _ (if_passed 31 0 _ (first_passed _ e 0)) in
    (ltb-false 1024 _ (if_passed 32 0 _ (first_passed _ e 1)), differ_false _ _ a.1)

-- where no operand is wrong, the row's end decides: the test b, at the node count m
pub row_decides : (ls acts rows : List ℕ) {nodes : Check} {b : Bool} {m : ℕ} → nodes ≡ fault_from 34 0 (size acts) (bad_action_operand ls acts)
    → nodes ≡ Ok tt → rows ≡ acts → b ≡ on_row (action_children rows) (size rows) (size rows) → m ≡ size acts
    → fault_if 34 m (not b) ≡ refusal34 ls acts
row_decides ls acts rows {b = b} e h i q k =
    ap (λ p. fault_if 34 p (not b)) k
    ∙ ap (λ x. fault_if 34 (size acts) (not x)) (q ∙ ap (λ ws. on_row (action_children ws) (size ws) (size ws)) i)
    ∙ sym (refusal34_scan ls acts ∙ then_passed _ (sym e ∙ h))
