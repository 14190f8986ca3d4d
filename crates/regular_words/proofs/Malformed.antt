-- A regular table is malformed exactly where one of the checks has a fault. Assumes nothing.
use Prim.Native.Nat.{ℕ}
use native.Mathlib.Omega.{arith}
use mathlib.Core.Path.{◌≡◌, refl, sym, ap, ◌∙◌}
use mathlib.Core.Bool.{Bool, true, false, not, ◌||◌, true≢false}
use mathlib.Core.List.{List}
use lib.Dec.{ltb}
use borrow.Author.Tests.{le-ltb}
use Rattle.std.specs.declared.result.Result.TheVariants.{Ok, Err}
use Rattle.std.specs.Result.{is_err}
use Rattle.rules.specs.Answers.{Check, first_fault}
use Rattle.rules.specs.Table.{size, kind}
use Rattle.rules.specs.Refusal.{outside}
use Rattle.lists.proofs.Tests.{or-false, or-none}
use Rattle.lists.proofs.Tallies.{every-all}
use Rattle.tables.proofs.Faults.{if-false, if_passed, from_passed, from_none, first_passed, first_next, first_one, passed_not_fault}
use Rattle.regular_rules.specs.Refusals.{bad_regular_operand, malformed}
use Rattle.regular_rules.proofs.Regulars.{fine_parts, fine_node}
use Rattle.regular_words.specs.Checks.{regular_checks}

module _ (acts regs : List ℕ) where
  not_malformed : first_fault (regular_checks acts regs) ≡ Ok tt → malformed acts regs ≡ false
  unfolding malformed outside
  not_malformed e =
      let sized = if_passed 31 0 _ (first_passed _ e 0) in
      let few = or-false (ltb (size regs) 0) _ (if_passed 32 0 _ (first_passed _ e 1)) in
      let known = from_passed 33 0 (size regs) _ (first_passed _ e 2) in
      let named = from_passed 34 0 (size regs) _ (first_passed _ e 3) in
      let finished = if_passed 34 (size regs) _ (first_passed _ e 4) in
      let nodes = every-all (λ v. not (ltb 4 (kind regs v) || bad_regular_operand acts regs v)) 0 (size regs)
      (λ v a b. ap not (or-none (known v a (omega arith)) (named v a (omega arith)))) in
      or-none sized (or-none few.1 (or-none (ap not nodes) finished))

  all_pass : malformed acts regs ≡ false → first_fault (regular_checks acts regs) ≡ Ok tt
  unfolding outside
  all_pass fine =
      let (sized, few, nodes, finished) = fine_parts acts regs fine in
      first_next _ (if-false 31 0 sized)
      ∙ (first_next _ (if-false 32 0 (or-none (le-ltb (size regs) 0 (omega arith)) few))
      ∙ (first_next _ (from_none 33 0 (size regs) _ (λ v a b. (fine_node acts regs fine v b).0))
      ∙ (first_next _ (from_none 34 0 (size regs) _ (λ v a b. (fine_node acts regs fine v b).1))
      ∙ (first_one _ ∙ if-false 34 (size regs) finished))))

  pub malformed_told : is_err (first_fault (regular_checks acts regs)) ≡ malformed acts regs
  malformed_told = go (malformed acts regs) refl (first_fault (regular_checks acts regs)) refl
    where
      go : (b : Bool) → malformed acts regs ≡ b → (c : Check) → first_fault (regular_checks acts regs) ≡ c → is_err c ≡ b
      go true m (Ok u) e = absurd (true≢false (sym m ∙ not_malformed e))
      go true m (Err f) e = refl
      go false m (Ok u) e = refl
      go false m (Err f) e = absurd (passed_not_fault (sym (all_pass m) ∙ e))
