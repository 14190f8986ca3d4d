-- 34 and 44 as a scan of the nodes and then a test of the end: the form in which a program checks them. Assumes
-- nothing.
use Prim.Native.Nat.{ℕ, ◌+◌, ◌≤◌, ◌<◌}
use native.Mathlib.Omega.{arith}
use native.Mathlib.Decide.{dec_lt}
use mathlib.Core.Path.{◌≡◌, refl, sym, ap, ◌∙◌}
use mathlib.Core.Bool.{Bool, true, false, not, ◌||◌}
use mathlib.Core.List.{List}
use lib.Dec.{eqb, ltb}
use borrow.Author.Tests.{lt-ltb, le-ltb, eq-eqb, ne_eqb}
use Rattle.rules.specs.Answers.{Check}
use Rattle.rules.specs.Answers.{fault}
use Rattle.rules.specs.Answers.{fault_if, and_then}
use Rattle.rules.specs.Table.{size, action_children, formula_children, on_row}
use Rattle.rules.specs.Refusal.{fault_from, lower_fault, bad_action_operand, bad_formula_operand, wrong_end, refusal34, refusal44}
use Rattle.tables.specs.Ends.{end_of}
use Rattle.tables.proofs.Ends.{end_cases}
use Rattle.tables.proofs.Faults.{if-true, if-false, from_same, from_cases, then_last, lower_then, lower_place, lower_alone}

pub refusal34_scan : (ls acts : List ℕ)
    → refusal34 ls acts
    ≡ and_then (fault_from 34 0 (size acts) (bad_action_operand ls acts)) (fault_if 34 (size acts) (not (on_row (action_children acts) (size acts) (size acts))))
unfolding refusal34
refusal34_scan ls acts = lower_then 34 0 (size acts) (bad_action_operand ls acts) 34 (size acts) (not (on_row (action_children acts) (size acts) (size acts))) (omega arith)

or_other : (b : Bool) (v e : ℕ) → (v ≡ e → ⊥) → b ≡ (b || eqb v e)
or_other true v e d = refl
or_other false v e d = sym (ne_eqb v e d)

-- a scan in which place q is bad has a fault
or_fault : (n p e q : ℕ) (bad : ℕ → Bool) (next : Check) → p ≤ q → q < e
    → fault_from n p e (λ v. bad v || eqb v q) ≡ and_then (fault_from n p e (λ v. bad v || eqb v q)) next
unfolding and_then
or_fault n p e q bad next a l =
    from_cases n p e (λ v. bad v || eqb v q) (λ c. c ≡ and_then c next) (λ all. absurd (no_place (bad q) (all q a l))) (λ r b k s before. refl)
  where
    no_place : (b : Bool) → (b || eqb q q) ≡ false → ⊥
    no_place true i = let z : ◌≡◌ {A = ℕ} 0 1 = cc in omega arith
    no_place false i =
        let t = eq-eqb q q refl in
        let z : ◌≡◌ {A = ℕ} 0 1 = cc in
        omega arith

-- the node at which the formula's tree ends is left over, if it is one: `end_of` is its number, n + 1 if the tree is
-- unfinished
pub refusal44_scan : (no_tree : ℕ → Bool) (f : List ℕ)
    → refusal44 no_tree f
    ≡ and_then (fault_from 44 0 (size f)
    (λ v. bad_formula_operand no_tree f v || eqb v (end_of (formula_children f) (size f) 0)))
    (fault_if 44 (size f) (ltb (size f) (end_of (formula_children f) (size f) 0)))
unfolding refusal44 wrong_end
refusal44_scan no_tree f =
    end_cases (formula_children f) (size f) 0
    (λ o e. lower_fault (fault_from 44 0 (size f) (bad_formula_operand no_tree f)) (wrong_end (size f) o)
    ≡ and_then (fault_from 44 0 (size f) (λ v. bad_formula_operand no_tree f v || eqb v e))
    (fault_if 44 (size f) (ltb (size f) e)))
    (λ e h a b d. ended e d (dec_lt e (size f)))
    (λ h. unfinished)
  where
    same : (e : ℕ) → size f ≤ e → fault_from 44 0 (size f) (bad_formula_operand no_tree f)
        ≡ fault_from 44 0 (size f) (λ v. bad_formula_operand no_tree f v || eqb v e)
    same e l =
        from_same 44 0 (size f) (bad_formula_operand no_tree f) (λ v. bad_formula_operand no_tree f v || eqb v e)
        (λ v a b. or_other (bad_formula_operand no_tree f v) v e (λ i. omega arith))

    ended : (e : ℕ) → e ≤ size f → Dec (e < size f)
        → lower_fault (fault_from 44 0 (size f) (bad_formula_operand no_tree f)) (fault_if 44 e (ltb e (size f)))
        ≡ and_then (fault_from 44 0 (size f) (λ v. bad_formula_operand no_tree f v || eqb v e))
        (fault_if 44 (size f) (ltb (size f) e))
    ended e d (yes l) =
        ap (lower_fault (fault_from 44 0 (size f) (bad_formula_operand no_tree f))) (if-true 44 e (lt-ltb e (size f) l))
        ∙ lower_place 44 0 (size f) e (bad_formula_operand no_tree f) (omega arith) l
        ∙ or_fault 44 0 (size f) e (bad_formula_operand no_tree f) (fault_if 44 (size f) (ltb (size f) e)) (omega arith) l
    ended e d (no l) =
        lower_alone (fault_from 44 0 (size f) (bad_formula_operand no_tree f))
        (if-false 44 e (le-ltb e (size f) (omega arith)))
        ∙ same e (omega arith)
        ∙ sym (ap (and_then (fault_from 44 0 (size f) (λ v. bad_formula_operand no_tree f v || eqb v e)))
        (if-false 44 (size f) (le-ltb (size f) e d))
        ∙ then_last (fault_from 44 0 (size f) (λ v. bad_formula_operand no_tree f v || eqb v e)))

    unfinished : lower_fault (fault_from 44 0 (size f) (bad_formula_operand no_tree f)) (fault 44 (size f))
        ≡ and_then (fault_from 44 0 (size f) (λ v. bad_formula_operand no_tree f v || eqb v (size f + 1)))
        (fault_if 44 (size f) (ltb (size f) (size f + 1)))
    unfinished =
        ap (lower_fault (fault_from 44 0 (size f) (bad_formula_operand no_tree f)))
        (sym (if-true 44 (size f) (lt-ltb (size f) (size f + 1) (omega arith))))
        ∙ lower_then 44 0 (size f) (bad_formula_operand no_tree f) 44 (size f) (ltb (size f) (size f + 1)) (omega arith)
        ∙ ap (λ c. and_then c (fault_if 44 (size f) (ltb (size f) (size f + 1)))) (same (size f + 1) (omega arith))
