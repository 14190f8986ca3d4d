-- Words are trees, for formulas: the words of every closed formula within the limits are accepted, and their equations
-- are the formula's; all accepted words are the words of a formula, and of one only. Assumes nothing.
use mathlib.Core.Path.{◌≡◌, refl, sym, ap, ap₂, ◌∙◌, subst}
use mathlib.Core.Bool.{Bool, true, false, cond}
use mathlib.Core.List.{List, [], ◌∷◌, ◌++◌, map}
use Prim.Native.Nat.{ℕ, ◌+◌, ◌*◌, ◌≤◌, ◌<◌}
use native.Mathlib.Omega.{arith}
use lib.ListN.{length}
use lib.Dec.{ltb}
use borrow.Author.Tests.{le-ltb, lt-leb}
use Rattle.rules.specs.Answers.{Check}
use Rattle.std.specs.declared.result.Result.TheVariants.{Ok}
use Rattle.rules.specs.Words.{Input, input_of, most_nodes}
use Rattle.rules.specs.Answers.{first_fault}
use Rattle.rules.specs.Labels.{label_count}
use Rattle.rules.specs.Table.{size, kind, action_children, on_row, formula_node, formula_children, reference_of, tree_end}
use Rattle.rules.specs.Formula.{least, Equation, Formula, is_fixpoint, equations, equations_before, equation_number, formula_tree, body_tree}
use Rattle.rules.specs.Refusal.{refusal31, refusal32, refusal33, refusal34}
use Rattle.rules.specs.Refusal.{outside, names_no_tree, names_no_root, bad_formula_operand, wrong_end, wrong_reference, refusal41, refusal42, refusal43, refusal44, refusal45, input_refusal}
use Rattle.tables.specs.Good.{GoodFormula}
use Rattle.tables.proofs.Faults.{if-false, from_none, lower_passed, first_passed, first_next, then_passed, then_both, first-none}
use Rattle.tables.proofs.Accepted.{good_formula, formula_whole}
use Rattle.trees.proofs.Equations.{start_fixpoint, start_placeholder, number_start, number_start_placeholder}
use Rattle.writing.specs.ActionSyntax.{ActionSyntax, row_words, first_node, RowFits, ActionsAccepted}
use Rattle.writing.specs.FormulaSyntax.{FormulaOver, Fits, FormulaSyntax, write_over, formula_size, formula_words, FormulaFits, FormulaAccepted, begins_with_fixpoint, read_formula, read_equations, read_system, equations_read, Written, label_and_system_checks, words_over}
use Rattle.writing.specs.Nodes.{Holds}
use Rattle.writing.proofs.Nodes.{table-size, table_length, table_holds, table_only}
use Rattle.writing.proofs.ActionTheorems.{right_length, only_first_nodes, first-nodes, written_row_accepted, written_row_reads, accepted_words_are_a_row}
use Rattle.writing.proofs.FormulaNodes.{formula_some, written_length, formula_ends, formula_fine}
use Rattle.writing.proofs.FormulaEquations.{first_fixpoint, formula_reads, read_before, formula_equations}
use Rattle.writing.proofs.FormulaReading.{formula_from, formula_same}

module _ {M : Type 0} (operand_of : M → ℕ) (t : FormulaOver M) where
  pub words_size : size (words_over operand_of t) ≡ formula_size t
  unfolding words_over
  words_size = table-size (write_over operand_of t [] 0) ∙ written_length operand_of t [] 0

  pub words_length : length (words_over operand_of t) ≡ 1 + 2 * size (words_over operand_of t)
  unfolding words_over
  words_length = table_length (write_over operand_of t [] 0) ∙ ap (λ (n : ℕ). 1 + 2 * n) (sym (table-size (write_over operand_of t [] 0)))

  pub words_hold : Holds (write_over operand_of t [] 0) (words_over operand_of t) 0
  unfolding words_over
  words_hold = table_holds (write_over operand_of t [] 0)

  whole : 0 + formula_size t ≡ size (words_over operand_of t)
  whole = omega (arith, words_size)

  -- what is fit names a tree of the row
  module _ (fit : M → Type 0) (acts : List ℕ) (named : (m : M) → fit m → names_no_tree acts (operand_of m) ≡ false)
      (closed : Fits fit 0 t) (few : formula_size t ≤ most_nodes) where
    formula_passes : (v : ℕ) → v < size (words_over operand_of t)
        → (kind (words_over operand_of t) v ≤ 8)
        × (bad_formula_operand (names_no_tree acts) (words_over operand_of t) v ≡ false)
        × (wrong_reference (words_over operand_of t) v (reference_of (formula_node (words_over operand_of t) v)) ≡ false)
    formula_passes v h =
        let b = words_size in
        formula_fine operand_of (words_over operand_of t) fit (names_no_tree acts) named t [] 0 words_hold
        (omega arith) closed (λ i l. absurd (omega arith)) v
        (omega arith) (omega arith)

    passes_42 : refusal42 (words_over operand_of t) ≡ Ok tt
    unfolding refusal42 outside
    passes_42 =
        let a = formula_some t in
        let b = words_size in
        if-false 42 0 (rw (le-ltb (size (words_over operand_of t)) 1 (omega arith), le-ltb most_nodes (size (words_over operand_of t)) (omega arith)) refl)

    passes_43 : refusal43 (words_over operand_of t) ≡ Ok tt
    unfolding refusal43
    passes_43 =
        from_none 43 0 (size (words_over operand_of t)) (λ v. ltb 8 (kind (words_over operand_of t) v)) (λ v a b. le-ltb 8 (kind (words_over operand_of t) v) (formula_passes v b).0)

    passes_44 : refusal44 (names_no_tree acts) (words_over operand_of t) ≡ Ok tt
    unfolding refusal44 wrong_end
    passes_44 =
        let b = words_size in
        lower_passed (wrong_end (size (words_over operand_of t)) (tree_end (formula_children (words_over operand_of t)) (size (words_over operand_of t)) 0))
        (from_none 44 0 (size (words_over operand_of t))
        (bad_formula_operand (names_no_tree acts) (words_over operand_of t)) (λ v x y. (formula_passes v y).1))
        ∙ ap (wrong_end (size (words_over operand_of t))) (formula_ends operand_of (words_over operand_of t) t [] 0 words_hold (omega arith))
        ∙ if-false 44 (0 + formula_size t) (le-ltb (0 + formula_size t) (size (words_over operand_of t)) (omega arith))

    passes_45 : refusal45 (words_over operand_of t) ≡ Ok tt
    unfolding refusal45
    passes_45 =
        from_none 45 0 (size (words_over operand_of t))
        (λ v. wrong_reference (words_over operand_of t) v (reference_of (formula_node (words_over operand_of t) v)))
        (λ v a b. (formula_passes v b).2)

    -- the words of a closed formula within the limits are accepted
    pub words_accepted : FormulaAccepted acts (words_over operand_of t)
    unfolding refusal41
    words_accepted =
        record {
          long = if-false 41 0 (right_length (length (words_over operand_of t)) (size (words_over operand_of t)) words_length);
          few = passes_42;
          kinds = passes_43;
          operands = passes_44;
          references = passes_45;
        }

module _ (row : List ActionSyntax) (t : FormulaSyntax) where
  module _ (fits : FormulaFits (length row) t) where
    -- a modality names a tree of the row
    names_one : (i : ℕ) → i < length row → names_no_tree (row_words row) (first_node row i) ≡ false
    unfolding names_no_root
    names_one i h = let (a, b) = first-nodes row i h in rw (lt-leb (size (row_words row)) (first_node row i) a, b) refl

    pub written_formula_accepted : FormulaAccepted (row_words row) (formula_words row t)
    written_formula_accepted =
        words_accepted (first_node row) t (λ i. i < length row) (row_words row) names_one fits.closed fits.few

    pub written_formula_good : GoodFormula (size (row_words row)) (formula_words row t)
    written_formula_good =
        let a = written_formula_accepted in
        good_formula (action_children (row_words row)) (size (row_words row)) (formula_words row t) a.kinds a.operands a.references a.long a.few

    module _ (ls ss : List ℕ) (its_row_fits : RowFits (label_count ls) row) where
      abbrev input : Input
      input = input_of ls ss (row_words row) (formula_words row t)

      -- from the equations before node 0 on
      from_start : equations_read input ≡ read_before row (size (row_words row)) input written_formula_good (written_row_reads row ls its_row_fits) 0
          ++ read_equations ls row t [] (equation_number (formula_words row t) 0)
      unfolding equations_read equations
      from_start =
          ap (read_before row (size (row_words row)) input written_formula_good (written_row_reads row ls its_row_fits)) (sym (whole (first_node row) t))
          ∙ formula_equations row (size (row_words row)) input written_formula_good (written_row_reads row ls its_row_fits) t [] 0 (words_hold (first_node row) t)
          (omega (arith, words_size (first_node row) t)) fits.closed

      -- and their equations are the formula's
      pub written_formula_reads : equations_read input ≡ read_system ls row t
      unfolding read_system body_tree
      written_formula_reads = from_start ∙ go (begins_with_fixpoint t) refl
        where
          first : is_fixpoint (formula_node (formula_words row t) 0) ≡ begins_with_fixpoint t
          first = first_fixpoint row (formula_words row t) t [] 0 (words_hold (first_node row) t) (omega (arith, formula_some t, words_size (first_node row) t))

          body : formula_tree input 0 ≡ read_formula ls row t [] (equation_number (formula_words row t) 0)
          body =
              formula_reads row (size (row_words row)) input written_formula_good (written_row_reads row ls its_row_fits) t [] 0 (words_hold (first_node row) t)
              (omega (arith, words_size (first_node row) t)) fits.closed

          go : (b : Bool) → begins_with_fixpoint t ≡ b
              → map (λ (q : Equation). (q.operator, body_tree input q)) (equations_before (formula_words row t) 0) ++ read_equations ls row t [] (equation_number (formula_words row t) 0)
              ≡ cond b (read_equations ls row t [] 0) ((least, read_formula ls row t [] 1) ∷ read_equations ls row t [] 1)
          go true e =
              ap₂ (λ (qs : List Equation) (n : ℕ). map (λ (q : Equation). (q.operator, body_tree input q)) qs ++ read_equations ls row t [] n)
              (start_fixpoint (formula_words row t) (first ∙ e)) (number_start (formula_words row t) (first ∙ e))
          go false e =
              let n : equation_number (formula_words row t) 0 ≡ 1 = number_start_placeholder (formula_words row t) (first ∙ e) in
              ap₂ (λ (qs : List Equation) (m : ℕ). map (λ (q : Equation). (q.operator, body_tree input q)) qs ++ read_equations ls row t [] m)
              (start_placeholder (formula_words row t) (first ∙ e)) n
              ∙ ap (λ (b : Formula). (least, b) ∷ read_equations ls row t [] 1) (body ∙ ap (read_formula ls row t []) n)

-- words that pass 41 to 45 are the words of a closed formula, where something fit is named by the first node of every
-- tree that a modality may name
pub accepted_words_are_written : {M : Type 0} (operand_of : M → ℕ) (fit : M → Type 0) (children : ℕ → ℕ) (m : ℕ)
    → ((a : ℕ) → a < m → on_row children m a ≡ true → (i : M) × fit i × (a ≡ operand_of i))
    → (f : List ℕ) → GoodFormula m f → refusal43 f ≡ Ok tt → refusal44 (names_no_root children m) f ≡ Ok tt → refusal45 f ≡ Ok tt
    → (t : FormulaOver M) × Fits fit 0 t × (formula_size t ≤ most_nodes) × (f ≡ words_over operand_of t)
unfolding words_over
accepted_words_are_written operand_of fit children m names f good r43 r44 r45 =
    let r = formula_from operand_of fit children m names f r43 r44 r45 (size f) [] 0 (size f) (omega arith)
    (formula_whole children m f r43 r44) (λ u p l b. absurd (omega arith)) in (
      r.tree,
      r.names,
      limit good.few r.ends,
      table_only (write_over operand_of r.tree [] 0) f good.sized (omega (arith, r.ends, written_length operand_of r.tree [] 0)) r.holds,
    )
  where
    limit : {n k : ℕ} → n ≤ 1_024 → 0 + k ≡ n → k ≤ most_nodes
    limit p q = omega arith

-- accepted words are the words of a closed formula within the limits
pub accepted_words_are_a_formula : (row : List ActionSyntax) (f : List ℕ) → FormulaAccepted (row_words row) f
    → (t : FormulaSyntax) × FormulaFits (length row) t × (f ≡ formula_words row t)
accepted_words_are_a_formula row f a =
    let good = good_formula (action_children (row_words row)) (size (row_words row)) f a.kinds a.operands a.references a.long a.few in
    let (t, closed, few, e) = accepted_words_are_written (first_node row) (λ i. i < length row) (action_children (row_words row)) (size (row_words row))
    (only_first_nodes row) f good a.kinds a.operands a.references in
    (t, record { closed = closed; few = few }, e)

-- and of no other closed formula
pub one_formula : (row : List ActionSyntax) (t u : FormulaSyntax) → FormulaFits (length row) t → FormulaFits (length row) u → formula_words row t ≡ formula_words row u → t ≡ u
one_formula row t u fits other e = formula_same row t u fits.closed other.closed e

both_pass : (cs ds : List Check) → first_fault cs ≡ Ok tt → first_fault ds ≡ Ok tt → first_fault (cs ++ ds) ≡ Ok tt
unfolding first_fault
both_pass [] ds p q = q
both_pass (c ∷ cs) ds p q =
    let (a, b) = then_both c (first_fault cs) p in
    then_passed (first_fault (cs ++ ds)) a ∙ both_pass cs ds b q

pass_more : (c : Check) (cs : List Check) → c ≡ Ok tt → first_fault cs ≡ Ok tt → first_fault (c ∷ cs) ≡ Ok tt
pass_more c cs p q = first_next cs p ∙ q

-- what is written is not refused, unless for its labels or its system
pub written_input_accepted : (x : Input) → first_fault (label_and_system_checks x) ≡ Ok tt → Written x → input_refusal x ≡ Ok tt
unfolding input_refusal
written_input_accepted x h w =
    let a : ActionsAccepted x.labels x.actions =
    subst (ActionsAccepted x.labels) (sym w.action_words) (written_row_accepted w.row x.labels w.row_fits) in
    let f : FormulaAccepted x.actions x.formula =
    subst (λ (acts : List ℕ). FormulaAccepted acts x.formula) (sym w.action_words)
    (subst (FormulaAccepted (row_words w.row)) (sym w.whole_words) (written_formula_accepted w.row w.whole w.formula_fits)) in
    both_pass (label_and_system_checks x)
    (refusal31 x.actions ∷ refusal32 x.actions ∷ refusal33 x.actions ∷ refusal34 x.labels x.actions
    ∷ refusal41 x.formula ∷ refusal42 x.formula ∷ refusal43 x.formula
    ∷ refusal44 (names_no_tree x.actions) x.formula ∷ refusal45 x.formula ∷ [])
    h
    (pass_more _ _ a.long (pass_more _ _ a.few (pass_more _ _ a.kinds (pass_more _ _ a.operands
    (pass_more _ _ f.long (pass_more _ _ f.few (pass_more _ _ f.kinds (pass_more _ _ f.operands (pass_more _ _ f.references first-none)))))))))

-- every input that is not refused is written: its words are those of a row and a closed formula, and the run goes by
-- their equations
pub accepted_input_is_written : (x : Input) → input_refusal x ≡ Ok tt → Written x
unfolding input_refusal
accepted_input_is_written x h =
    let (row, fits, e) = accepted_words_are_a_row x.labels x.actions
    (record { long = first_passed _ h 9; few = first_passed _ h 10; kinds = first_passed _ h 11; operands = first_passed _ h 12 }) in
    let (t, within, i) = accepted_words_are_a_formula row x.formula
    (subst (λ (acts : List ℕ). FormulaAccepted acts x.formula) e
    (record { long = first_passed _ h 13; few = first_passed _ h 14; kinds = first_passed _ h 15; operands = first_passed _ h 16; references = first_passed _ h 17 })) in
    record {
      row = row;
      whole = t;
      row_fits = fits;
      formula_fits = within;
      action_words = e;
      whole_words = i;
      reads = ap₂ (λ (acts f : List ℕ). equations_read (input_of x.labels x.system acts f)) e i
          ∙ written_formula_reads row t within x.labels x.system fits;
    }
