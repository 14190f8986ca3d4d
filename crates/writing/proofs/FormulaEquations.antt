-- Where the nodes of a formula stand in the words, the words read as the formula: its bodies, and its equations in
-- order. Assumes nothing.
use mathlib.Core.Path.{◌≡◌, sym, ap, ap₂, ◌∙◌}
use mathlib.Core.Bool.{false}
use mathlib.Core.List.{List, [], ◌∷◌, ◌++◌, map, append_assoc, append-nil}
use Prim.Native.Nat.{ℕ, suc, ◌+◌, ◌≤◌, ◌<◌}
use native.Mathlib.Omega.{arith}
use lib.ListN.{length}
use Rattle.rules.specs.Words.{Input}
use Rattle.rules.specs.Table.{size, kind, formula_node}
use Rattle.rules.specs.Actions.{action_tree}
use Rattle.rules.specs.Formula.{Operator, least, greatest, Equation, is_fixpoint, equations_before, equation_number, Formula, conjunction, disjunction, box, diamond, reference, formula_tree, body_tree}
use Rattle.tables.specs.Good.{GoodFormula}
use Rattle.lists.proofs.Members.{map_at, map-append}
use Rattle.tables.proofs.Decode.{fixpoint_yes, fixpoint_low, fixpoint_high}
use Rattle.trees.proofs.FormulaTrees.{truth_tree, falsity_tree, conjunction_tree, disjunction_tree, box_tree, diamond_tree, least_tree, greatest_tree, reference_tree}
use Rattle.trees.proofs.Equations.{equations_same, equations_least, equations_greatest, number_same, number_more}
use Rattle.writing.specs.ActionSyntax.{ActionSyntax, first_node}
use Rattle.writing.specs.FormulaSyntax.{FormulaSyntax, true_formula, false_formula, and_formula, or_formula, box_formula, diamond_formula, least_formula, greatest_formula, reference_formula, write_over}
use Rattle.writing.specs.FormulaSyntax.{formula_size, write_formula, Names, fixpoints, begins_with_fixpoint, read_tree, read_formula, read_equations}
use Rattle.writing.specs.Nodes.{Holds}
use Rattle.writing.proofs.FormulaNodes.{holds_both}

module _ (row : List ActionSyntax) where
  module _ (f : List ℕ) where
    -- the first node is a fixpoint where the formula is one
    pub first_fixpoint : (t : FormulaSyntax) (around : List ℕ) (v : ℕ) → Holds (write_formula row t around v) f v → v < size f
        → is_fixpoint (formula_node f v) ≡ begins_with_fixpoint t
    unfolding write_over begins_with_fixpoint
    first_fixpoint true_formula around v (k, o, h) l = fixpoint_low f v l (omega arith)
    first_fixpoint false_formula around v (k, o, h) l = fixpoint_low f v l (omega arith)
    first_fixpoint (and_formula a b) around v (k, o, h) l = fixpoint_low f v l (omega arith)
    first_fixpoint (or_formula a b) around v (k, o, h) l = fixpoint_low f v l (omega arith)
    first_fixpoint (box_formula i a) around v (k, o, h) l = fixpoint_low f v l (omega arith)
    first_fixpoint (diamond_formula i a) around v (k, o, h) l = fixpoint_low f v l (omega arith)
    first_fixpoint (least_formula a) around v (k, o, h) l = fixpoint_yes f v l (omega arith) (omega arith)
    first_fixpoint (greatest_formula a) around v (k, o, h) l = fixpoint_yes f v l (omega arith) (omega arith)
    first_fixpoint (reference_formula i) around v (k, o, h) l = fixpoint_high f v l (omega arith)

    -- ---- the numbers of equations go up by the fixpoints in the formula

    same_number : (v : ℕ) → v < size f → kind f v < 6 → equation_number f (suc v) ≡ equation_number f v
    same_number v h k = number_same f v (fixpoint_low f v h k)

    next_number : (v : ℕ) → v < size f → 6 ≤ kind f v → kind f v ≤ 7 → equation_number f (suc v) ≡ suc (equation_number f v)
    next_number v h a b = number_more f v (fixpoint_yes f v h a b)

    leaf_number : (v : ℕ) → is_fixpoint (formula_node f v) ≡ false → equation_number f (v + 1) ≡ equation_number f v + 0
    leaf_number v e =
        let i : v + 1 ≡ suc v = omega arith in
        ap (equation_number f) i ∙ number_same f v e ∙ omega arith

    one_number : (v n m : ℕ) → v < size f → kind f v < 6 → equation_number f (suc v + n) ≡ equation_number f (suc v) + m
        → equation_number f (v + suc n) ≡ equation_number f v + m
    one_number v n m h k e =
        let i : v + suc n ≡ suc v + n = omega arith in
        ap (equation_number f) i ∙ e ∙ ap (λ (j : ℕ). j + m) (same_number v h k)

    two_number : (v a b m n : ℕ) → v < size f → kind f v < 6 → equation_number f (suc v + a) ≡ equation_number f (suc v) + m
        → equation_number f (suc v + a + b) ≡ equation_number f (suc v + a) + n
        → equation_number f (v + suc (a + b)) ≡ equation_number f v + (m + n)
    two_number v a b m n h k p q =
        let i : v + suc (a + b) ≡ suc v + a + b = omega arith in
        let s = same_number v h k in
        ap (equation_number f) i ∙ q ∙ omega arith

    fixpoint_number : (v n m : ℕ) → v < size f → 6 ≤ kind f v → kind f v ≤ 7 → equation_number f (suc v + n) ≡ equation_number f (suc v) + m
        → equation_number f (v + suc n) ≡ equation_number f v + suc m
    fixpoint_number v n m h a b e =
        let i : v + suc n ≡ suc v + n = omega arith in
        let s = next_number v h a b in
        ap (equation_number f) i ∙ e ∙ omega arith

    pub formula_number : (t : FormulaSyntax) (around : List ℕ) (v : ℕ) → Holds (write_formula row t around v) f v → v + formula_size t ≤ size f
        → equation_number f (v + formula_size t) ≡ equation_number f v + fixpoints t
    unfolding write_over formula_size fixpoints
    formula_number true_formula around v (k, o, h) l = leaf_number v (fixpoint_low f v (omega arith) (omega arith))
    formula_number false_formula around v (k, o, h) l = leaf_number v (fixpoint_low f v (omega arith) (omega arith))
    formula_number (and_formula a b) around v (k, o, h) l =
        let (p, q) = holds_both (first_node row) f a b around v h in
        two_number v (formula_size a) (formula_size b) (fixpoints a) (fixpoints b) (omega arith) (omega arith)
        (formula_number a around (suc v) p (omega arith)) (formula_number b around (suc v + formula_size a) q (omega arith))
    formula_number (or_formula a b) around v (k, o, h) l =
        let (p, q) = holds_both (first_node row) f a b around v h in
        two_number v (formula_size a) (formula_size b) (fixpoints a) (fixpoints b) (omega arith) (omega arith)
        (formula_number a around (suc v) p (omega arith)) (formula_number b around (suc v + formula_size a) q (omega arith))
    formula_number (box_formula i a) around v (k, o, h) l =
        one_number v (formula_size a) (fixpoints a) (omega arith) (omega arith) (formula_number a around (suc v) h (omega arith))
    formula_number (diamond_formula i a) around v (k, o, h) l =
        one_number v (formula_size a) (fixpoints a) (omega arith) (omega arith) (formula_number a around (suc v) h (omega arith))
    formula_number (least_formula a) around v (k, o, h) l =
        fixpoint_number v (formula_size a) (fixpoints a) (omega arith) (omega arith) (omega arith) (formula_number a (v ∷ around) (suc v) h (omega arith))
    formula_number (greatest_formula a) around v (k, o, h) l =
        fixpoint_number v (formula_size a) (fixpoints a) (omega arith) (omega arith) (omega arith) (formula_number a (v ∷ around) (suc v) h (omega arith))
    formula_number (reference_formula i) around v (k, o, h) l = leaf_number v (fixpoint_high f v (omega arith) (omega arith))

  module _ (m : ℕ) (x : Input) (good : GoodFormula m x.formula)
      (trees : (i : ℕ) → i < length row → action_tree x.labels x.actions (first_node row i) ≡ read_tree x.labels row i) where
    -- what a formula at node v reads as, the fixpoints around it standing at the nodes `around`
    abbrev read_at : FormulaSyntax → List ℕ → ℕ → Formula
    read_at t around v = read_formula x.labels row t (map (equation_number x.formula) around) (equation_number x.formula v)

    abbrev equations_at : FormulaSyntax → List ℕ → ℕ → List (Operator × Formula)
    equations_at t around v = read_equations x.labels row t (map (equation_number x.formula) around) (equation_number x.formula v)

    -- ---- bodies

    -- past a node that is no fixpoint, and past the first operand too
    read_next : (t : FormulaSyntax) (around : List ℕ) (v : ℕ) → v < size x.formula → kind x.formula v < 6 → read_at t around (suc v) ≡ read_at t around v
    read_next t around v h k = ap (read_formula x.labels row t (map (equation_number x.formula) around)) (same_number x.formula v h k)

    past_left : (a : FormulaSyntax) (around : List ℕ) (v : ℕ) → v < size x.formula → kind x.formula v < 6
        → Holds (write_formula row a around (suc v)) x.formula (suc v) → suc v + formula_size a ≤ size x.formula
        → equation_number x.formula (suc v + formula_size a) ≡ equation_number x.formula v + fixpoints a
    past_left a around v h k p l =
        formula_number x.formula a around (suc v) p l ∙ ap (λ (j : ℕ). j + fixpoints a) (same_number x.formula v h k)

    pub formula_reads : (t : FormulaSyntax) (around : List ℕ) (v : ℕ) → Holds (write_formula row t around v) x.formula v → v + formula_size t ≤ size x.formula
        → Names (length row) (length around) t → formula_tree x v ≡ read_at t around v
    unfolding write_over formula_size read_formula
    formula_reads true_formula around v (k, o, h) l ns = truth_tree m x good v (omega arith) k
    formula_reads false_formula around v (k, o, h) l ns = falsity_tree m x good v (omega arith) k
    formula_reads (and_formula a b) around v (k, o, h) l ns =
        let (p, q) = holds_both (first_node row) x.formula a b around v h in
        conjunction_tree m x good v (omega arith) k
        ∙ ap₂ conjunction (formula_reads a around (suc v) p (omega arith) ns.0 ∙ read_next a around v (omega arith) (omega arith))
        (ap (formula_tree x) o ∙ formula_reads b around (suc v + formula_size a) q (omega arith) ns.1
        ∙ ap (read_formula x.labels row b (map (equation_number x.formula) around)) (past_left a around v (omega arith) (omega arith) p (omega arith)))
    formula_reads (or_formula a b) around v (k, o, h) l ns =
        let (p, q) = holds_both (first_node row) x.formula a b around v h in
        disjunction_tree m x good v (omega arith) k
        ∙ ap₂ disjunction (formula_reads a around (suc v) p (omega arith) ns.0 ∙ read_next a around v (omega arith) (omega arith))
        (ap (formula_tree x) o ∙ formula_reads b around (suc v + formula_size a) q (omega arith) ns.1
        ∙ ap (read_formula x.labels row b (map (equation_number x.formula) around)) (past_left a around v (omega arith) (omega arith) p (omega arith)))
    formula_reads (box_formula i a) around v (k, o, h) l ns =
        box_tree m x good v (omega arith) k
        ∙ ap₂ box (ap (action_tree x.labels x.actions) o ∙ trees i ns.0)
        (formula_reads a around (suc v) h (omega arith) ns.1 ∙ read_next a around v (omega arith) (omega arith))
    formula_reads (diamond_formula i a) around v (k, o, h) l ns =
        diamond_tree m x good v (omega arith) k
        ∙ ap₂ diamond (ap (action_tree x.labels x.actions) o ∙ trees i ns.0)
        (formula_reads a around (suc v) h (omega arith) ns.1 ∙ read_next a around v (omega arith) (omega arith))
    formula_reads (least_formula a) around v (k, o, h) l ns = least_tree m x good v (omega arith) k
    formula_reads (greatest_formula a) around v (k, o, h) l ns = greatest_tree m x good v (omega arith) k
    formula_reads (reference_formula i) around v (k, o, h) l ns =
        reference_tree m x good v (omega arith) k
        ∙ ap reference (ap (equation_number x.formula) o ∙ sym (map_at (equation_number x.formula) around i 0 0 ns))

    -- ---- equations

    -- the equations before node v, each with its operator and its body
    abbrev pub read_before : ℕ → List (Operator × Formula)
    read_before v = map (λ (q : Equation). (q.operator, body_tree x q)) (equations_before x.formula v)

    read_same : (v : ℕ) → is_fixpoint (formula_node x.formula v) ≡ false → read_before (suc v) ≡ read_before v
    read_same v e = ap (map (λ (q : Equation). (q.operator, body_tree x q))) (equations_same x.formula v e)

    leaf_equations : (v : ℕ) → is_fixpoint (formula_node x.formula v) ≡ false → read_before (v + 1) ≡ read_before v ++ []
    leaf_equations v e =
        let i : v + 1 ≡ suc v = omega arith in
        ap read_before i ∙ read_same v e ∙ sym (append-nil (read_before v))

    one-equations : (a : FormulaSyntax) (around : List ℕ) (v : ℕ) → v < size x.formula → kind x.formula v < 6
        → read_before (suc v + formula_size a) ≡ read_before (suc v) ++ equations_at a around (suc v)
        → read_before (v + suc (formula_size a)) ≡ read_before v ++ equations_at a around v
    one-equations a around v h k e =
        let i : v + suc (formula_size a) ≡ suc v + formula_size a = omega arith in
        ap read_before i ∙ e
        ∙ ap₂ ◌++◌ (read_same v (fixpoint_low x.formula v h k))
        (ap (read_equations x.labels row a (map (equation_number x.formula) around)) (same_number x.formula v h k))

    two_equations : (a b : FormulaSyntax) (around : List ℕ) (v : ℕ) → v < size x.formula → kind x.formula v < 6
        → Holds (write_formula row a around (suc v)) x.formula (suc v) → suc v + formula_size a ≤ size x.formula
        → read_before (suc v + formula_size a) ≡ read_before (suc v) ++ equations_at a around (suc v)
        → read_before (suc v + formula_size a + formula_size b) ≡ read_before (suc v + formula_size a) ++ equations_at b around (suc v + formula_size a)
        → read_before (v + suc (formula_size a + formula_size b))
        ≡ read_before v ++ (equations_at a around v
        ++ read_equations x.labels row b (map (equation_number x.formula) around) (equation_number x.formula v + fixpoints a))
    two_equations a b around v h k p l d e =
        let i : v + suc (formula_size a + formula_size b) ≡ suc v + formula_size a + formula_size b = omega arith in
        ap read_before i ∙ e
        ∙ ap₂ ◌++◌ (d ∙ ap₂ ◌++◌ (read_same v (fixpoint_low x.formula v h k))
        (ap (read_equations x.labels row a (map (equation_number x.formula) around)) (same_number x.formula v h k)))
        (ap (read_equations x.labels row b (map (equation_number x.formula) around)) (past_left a around v h k p l))
        ∙ append_assoc (read_before v) (equations_at a around v)
        (read_equations x.labels row b (map (equation_number x.formula) around) (equation_number x.formula v + fixpoints a))

    fixpoint_equations : (o : Operator) (a : FormulaSyntax) (around : List ℕ) (v : ℕ) → v < size x.formula → 6 ≤ kind x.formula v → kind x.formula v ≤ 7
        → equations_before x.formula (suc v) ≡ equations_before x.formula v ++ (record { operator = o; body = suc v } ∷ [])
        → formula_tree x (suc v) ≡ read_at a (v ∷ around) (suc v)
        → read_before (suc v + formula_size a) ≡ read_before (suc v) ++ equations_at a (v ∷ around) (suc v)
        → read_before (v + suc (formula_size a))
        ≡ read_before v
        ++ ((o, read_formula x.labels row a (map (equation_number x.formula) (v ∷ around)) (suc (equation_number x.formula v)))
        ∷ read_equations x.labels row a (map (equation_number x.formula) (v ∷ around)) (suc (equation_number x.formula v)))
    unfolding body_tree
    fixpoint_equations o a around v h k j more tree e =
        let i : v + suc (formula_size a) ≡ suc v + formula_size a = omega arith in
        let n : equation_number x.formula (suc v) ≡ suc (equation_number x.formula v) = next_number x.formula v h k j in
        let A : List ℕ = map (equation_number x.formula) (v ∷ around) in
        let last : read_before (suc v) ≡ read_before v ++ ((o, read_formula x.labels row a A (suc (equation_number x.formula v))) ∷ []) =
        ap (map (λ (q : Equation). (q.operator, body_tree x q))) more
        ∙ map-append (λ (q : Equation). (q.operator, body_tree x q)) (equations_before x.formula v) (record { operator = o; body = suc v } ∷ [])
        ∙ ap (λ (b : Formula). read_before v ++ ((o, b) ∷ [])) (tree ∙ ap (read_formula x.labels row a A) n) in
        ap read_before i ∙ e
        ∙ ap₂ ◌++◌ last (ap (read_equations x.labels row a A) n)
        ∙ append_assoc (read_before v) ((o, read_formula x.labels row a A (suc (equation_number x.formula v))) ∷ [])
        (read_equations x.labels row a A (suc (equation_number x.formula v)))

    pub formula_equations : (t : FormulaSyntax) (around : List ℕ) (v : ℕ) → Holds (write_formula row t around v) x.formula v → v + formula_size t ≤ size x.formula
        → Names (length row) (length around) t → read_before (v + formula_size t) ≡ read_before v ++ equations_at t around v
    unfolding write_over formula_size read_equations
    formula_equations true_formula around v (k, o, h) l ns = leaf_equations v (fixpoint_low x.formula v (omega arith) (omega arith))
    formula_equations false_formula around v (k, o, h) l ns = leaf_equations v (fixpoint_low x.formula v (omega arith) (omega arith))
    formula_equations (and_formula a b) around v (k, o, h) l ns =
        let (p, q) = holds_both (first_node row) x.formula a b around v h in
        two_equations a b around v (omega arith) (omega arith) p (omega arith)
        (formula_equations a around (suc v) p (omega arith) ns.0) (formula_equations b around (suc v + formula_size a) q (omega arith) ns.1)
    formula_equations (or_formula a b) around v (k, o, h) l ns =
        let (p, q) = holds_both (first_node row) x.formula a b around v h in
        two_equations a b around v (omega arith) (omega arith) p (omega arith)
        (formula_equations a around (suc v) p (omega arith) ns.0) (formula_equations b around (suc v + formula_size a) q (omega arith) ns.1)
    formula_equations (box_formula i a) around v (k, o, h) l ns =
        one-equations a around v (omega arith) (omega arith) (formula_equations a around (suc v) h (omega arith) ns.1)
    formula_equations (diamond_formula i a) around v (k, o, h) l ns =
        one-equations a around v (omega arith) (omega arith) (formula_equations a around (suc v) h (omega arith) ns.1)
    formula_equations (least_formula a) around v (k, o, h) l ns =
        fixpoint_equations least a around v (omega arith) (omega arith) (omega arith) (equations_least x.formula v (omega arith) k)
        (formula_reads a (v ∷ around) (suc v) h (omega arith) ns) (formula_equations a (v ∷ around) (suc v) h (omega arith) ns)
    formula_equations (greatest_formula a) around v (k, o, h) l ns =
        fixpoint_equations greatest a around v (omega arith) (omega arith) (omega arith) (equations_greatest x.formula v (omega arith) k)
        (formula_reads a (v ∷ around) (suc v) h (omega arith) ns) (formula_equations a (v ∷ around) (suc v) h (omega arith) ns)
    formula_equations (reference_formula i) around v (k, o, h) l ns = leaf_equations v (fixpoint_high x.formula v (omega arith) (omega arith))
