-- Fixpoints, references and enclosing nodes, as the code reads them. Assumes nothing.
use Prim.Native.Nat.{ℕ, ◌/◌, ◌<◌, ◌≤◌}
use native.Mathlib.Omega.{arith}
use native.Mathlib.Decide.{ℕ_discrete, dec_lt}
use mathlib.Core.Path.{◌≡◌, refl, sym, ap, ◌∙◌}
use mathlib.Core.Bool.{Bool, true, false, not, ◌&&◌, true≢false}
use mathlib.Core.List.{List}
use mathlib.Core.Option.{Option, none, some}
use lib.Dec.{ltb, eqb}
use denote.Enum.Bare.{sameb}
use borrow.Author.Tests.{lt-ltb, le-ltb, ltb-true, eq-eqb, ne_eqb}
use Rattle.lists.proofs.Tests.{and-true, and-false}
use Rattle.rules.specs.Table.{size, kind, operand, formula_node, formula_children, reference_of, is_some}
use Rattle.rules.specs.Formula.{is_fixpoint}
use Rattle.rules.specs.Refusal.{encloses, wrong_reference}
use Rattle.tables.specs.Ends.{end_of}
use Rattle.tables.proofs.Decode.{fixpoint_low, fixpoint_yes, fixpoint_high, reference_at, reference_none}
use Rattle.node_kinds.specs.contracts.FormulaKind.{the_type}
use Rattle.tables.proofs.Operands.{reference_test}
use Rattle.tables.proofs.Ends.{before_end_finished, before_end_unfinished}
use Rattle.node_kinds.specs.declared.FormulaKind.{FormulaKind}
use Rattle.node_kinds.specs.declared.FormulaKind.TheVariants.{True, False, And, Or, Box, Diamond, Least, Greatest, Reference}
use Rattle.node_kinds.specs.declared.UnknownKind.{UnknownKind}
use Rattle.node_kinds.specs.Codes.{formula_code, ReadsFormula}
use Rattle.std.specs.Prelude.{MatchResult}
use Rattle.std.proofs.Common.{Result, Ok, Err}

-- a kind is that of a reference exactly if its node is one
reference_named : (f : List ℕ) (v : ℕ) → v < size f → (k : FormulaKind) → formula_code k ≡ kind f v
    → sameb the_type k Reference ≡ is_some (reference_of (formula_node f v))
reference_named f v h True e = sym (ap is_some (reference_none f v h (λ i. omega arith)))
reference_named f v h False e = sym (ap is_some (reference_none f v h (λ i. omega arith)))
reference_named f v h And e = sym (ap is_some (reference_none f v h (λ i. omega arith)))
reference_named f v h Or e = sym (ap is_some (reference_none f v h (λ i. omega arith)))
reference_named f v h Box e = sym (ap is_some (reference_none f v h (λ i. omega arith)))
reference_named f v h Diamond e = sym (ap is_some (reference_none f v h (λ i. omega arith)))
reference_named f v h Least e = sym (ap is_some (reference_none f v h (λ i. omega arith)))
reference_named f v h Greatest e = sym (ap is_some (reference_none f v h (λ i. omega arith)))
reference_named f v h Reference e = sym (ap is_some (reference_at f v h (sym e)))

-- as the kind that is read says, where a word that stands for none is no reference
pub reference_read : (f : List ℕ) (v : ℕ) → v < size f → (read : Result FormulaKind UnknownKind) → ReadsFormula (kind f v) read
    → (r : Bool) → MatchResult read (λ k. r ≡ sameb the_type k Reference) (λ e. r ≡ false)
    → r ≡ is_some (reference_of (formula_node f v))
reference_read f v h (Ok k) a r b = b ∙ reference_named f v h k a
reference_read f v h (Err x) a r b = b ∙ sym (ap is_some (reference_none f v h (λ i. omega (arith, a.1))))

-- a kind is that of a fixpoint exactly if its node is one
fixpoint_named : (f : List ℕ) (v : ℕ) → v < size f → (c : ℕ) → c ≡ kind f v → eqb (c / 2) 3 ≡ is_fixpoint (formula_node f v)
fixpoint_named f v h c e = go (dec_lt (kind f v) 6) (dec_lt (kind f v) 8)
  where
    go : Dec (kind f v < 6) → Dec (kind f v < 8) → eqb (c / 2) 3 ≡ is_fixpoint (formula_node f v)
    go (yes l) m = ne_eqb (c / 2) 3 (λ i. omega arith) ∙ sym (fixpoint_low f v h l)
    go (no l) (yes m) = eq-eqb (c / 2) 3 (omega arith) ∙ sym (fixpoint_yes f v h (omega arith) (omega arith))
    go (no l) (no m) = ne_eqb (c / 2) 3 (λ i. omega arith) ∙ sym (fixpoint_high f v h (omega arith))

-- as the kind that is read says
pub fixpoint_read : (f : List ℕ) (v : ℕ) → v < size f → (read : Result FormulaKind UnknownKind) → ReadsFormula (kind f v) read
    → (r : Bool) → MatchResult read (λ k. r ≡ eqb (formula_code k / 2) 3) (λ e. r ≡ false)
    → r ≡ is_fixpoint (formula_node f v)
fixpoint_read f v h (Ok k) a r b = b ∙ fixpoint_named f v h (formula_code k) a
fixpoint_read f v h (Err x) a r b = b ∙ sym (fixpoint_high f v h (omega (arith, a.1)))

none_wrong : (f : List ℕ) (v : ℕ) (r : Option ℕ) → is_some r ≡ false → false ≡ wrong_reference f v r
unfolding wrong_reference
none_wrong f v none e = refl
none_wrong f v (some u) e = absurd (true≢false e)

both : (a b : Bool) → b ≡ true → a ≡ (a && b)
both true b e = sym e
both false b e = refl

module _ (f : List ℕ) (v : ℕ) (h : v < size f) where
  pub no_reference : is_some (reference_of (formula_node f v)) ≡ false → false ≡ wrong_reference f v (reference_of (formula_node f v))
  no_reference = none_wrong f v (reference_of (formula_node f v))

  -- it is one, to the node u
  module _ (t : is_some (reference_of (formula_node f v)) ≡ true) {u : ℕ} (o : u ≡ operand f v) where
    refers : not (is_fixpoint (formula_node f u) && encloses f u v) ≡ wrong_reference f v (reference_of (formula_node f v))
    refers = go (ℕ_discrete (kind f v) 8)
      where
        go : Dec (kind f v ≡ 8) → not (is_fixpoint (formula_node f u) && encloses f u v) ≡ wrong_reference f v (reference_of (formula_node f v))
        go (yes e) = ap (λ w. not (is_fixpoint (formula_node f w) && encloses f w v)) o ∙ sym (reference_test f v h e)
        go (no d) = absurd (true≢false (sym t ∙ ap is_some (reference_none f v h d)))

    pub refers_outside : encloses f u v ≡ false → true ≡ wrong_reference f v (reference_of (formula_node f v))
    refers_outside e = ap not (sym (and-false (is_fixpoint (formula_node f u)) e)) ∙ refers

    pub refers_inside : encloses f u v ≡ true → not (is_fixpoint (formula_node f u)) ≡ wrong_reference f v (reference_of (formula_node f v))
    refers_inside e = ap not (both (is_fixpoint (formula_node f u)) (encloses f u v) e) ∙ refers

module _ (f : List ℕ) (u v : ℕ) where
  pub inside_after : encloses f u v ≡ true → u < v
  unfolding encloses
  inside_after e = ltb-true u v (and-true (ltb u v) _ e).0

  pub not_inside : v ≤ u → false ≡ encloses f u v
  unfolding encloses
  not_inside l = rw (le-ltb u v l) refl

  -- u stands before v, and its tree ends at e
  module _ (l : u < v) {e n : ℕ} (i : e ≡ end_of (formula_children f) (size f) u) (s : n ≡ size f) where
    pub inside_whole : e ≤ n → ltb v e ≡ encloses f u v
    unfolding encloses
    inside_whole c =
        rw (lt-ltb u v l) (ap (ltb v) i ∙ sym (before_end_finished (formula_children f) (size f) v u (omega arith)))

    pub inside_broken : n < e → false ≡ encloses f u v
    unfolding encloses
    inside_broken c = rw (lt-ltb u v l) (sym (before_end_unfinished (formula_children f) (size f) v u (omega arith)))
