-- Where the nodes of a formula stand in the words: its tree ends just past them, and each of them passes 43, 44 and 45.
-- Assumes nothing.
use mathlib.Core.Path.{◌≡◌, refl, ap, ap₂, ◌∙◌}
use mathlib.Core.Bool.{Bool, true, false, not, ◌&&◌}
use mathlib.Core.List.{List, ◌∷◌, ◌++◌}
use mathlib.Core.Option.{some}
use Prim.Native.Nat.{ℕ, zero, suc, ◌+◌, ◌≤◌, ◌<◌}
use native.Mathlib.Omega.{arith}
use lib.ListN.{length, get_or, length-append}
use borrow.Author.Tests.{lt-ltb}
use Rattle.rules.specs.Table.{size, kind, operand, formula_node, formula_children, reference_of, tree_end, is_before_end}
use Rattle.rules.specs.Formula.{is_fixpoint}
use Rattle.rules.specs.Refusal.{bad_formula_operand, encloses, wrong_reference}
use Rattle.tables.specs.Ends.{tree_after}
use Rattle.tables.proofs.Ends.{end_leaf, end_one, end_two}
use Rattle.tables.proofs.Decode.{formula_children_none, formula_children_one, formula_children_two, formula_children_reference, fixpoint_yes}
use Rattle.tables.proofs.Operands.{formula_zero, formula_right, formula_action, formula_fixpoint, formula_other, reference_other, reference_test}
use Rattle.writing.specs.FormulaSyntax.{FormulaOver, true_formula, false_formula, and_formula, or_formula, box_formula, diamond_formula, least_formula, greatest_formula, reference_formula, write_over}
use Rattle.writing.specs.FormulaSyntax.{formula_size, Fits}
use Rattle.writing.specs.Nodes.{Holds}
use Rattle.writing.proofs.Nodes.{holds_split, leaf_nodes, one_nodes, two_nodes}
use Rattle.writing.proofs.ActionNodes.{right_end}
use Rattle.tables.proofs.Choices.{differ_no}

pub formula_some : {M : Type 0} (t : FormulaOver M) → 1 ≤ formula_size t
unfolding formula_size
formula_some true_formula = omega arith
formula_some false_formula = omega arith
formula_some (and_formula a b) = omega arith
formula_some (or_formula a b) = omega arith
formula_some (box_formula i a) = omega arith
formula_some (diamond_formula i a) = omega arith
formula_some (least_formula a) = omega arith
formula_some (greatest_formula a) = omega arith
formula_some (reference_formula i) = omega arith

module _ (f : List ℕ) where
  -- each of these nodes is a fixpoint before v whose tree reaches to e at least
  abbrev pub Surround : List ℕ → ℕ → ℕ → Type 0
  Surround around v e =
      (i : ℕ) → i < length around
      → (is_fixpoint (formula_node f (get_or around i 0)) ≡ true) × (get_or around i 0 < v)
      × ((x : ℕ) × (tree_end (formula_children f) (size f) (get_or around i 0) ≡ some x) × (e ≤ x))

  pub surround_inner : (around : List ℕ) (v e w x : ℕ) → v ≤ w → x ≤ e → Surround around v e → Surround around w x
  surround_inner around v e w x a b s i h =
      let (p, q, (y, r, l)) = s i h in
      (p, omega arith, (y, r, omega arith))

  pub surround_more : (around : List ℕ) (v e : ℕ) → is_fixpoint (formula_node f v) ≡ true → tree_end (formula_children f) (size f) v ≡ some e
      → Surround around v e → Surround (v ∷ around) (suc v) e
  surround_more around v e p t s zero h = (p, omega arith, (e, t, omega arith))
  surround_more around v e p t s (suc i) h = surround_inner around v e (suc v) e (omega arith) (omega arith) s i (omega arith)

module _ {M : Type 0} (operand_of : M → ℕ) where
  -- as many nodes are written
  pub written_length : (t : FormulaOver M) (around : List ℕ) (v : ℕ) → length (write_over operand_of t around v) ≡ formula_size t
  unfolding write_over formula_size
  written_length true_formula around v = refl
  written_length false_formula around v = refl
  written_length (and_formula a b) around v =
      ap suc (length-append (write_over operand_of a around (suc v)) (write_over operand_of b around (suc v + formula_size a))
      ∙ ap₂ ◌+◌ (written_length a around (suc v)) (written_length b around (suc v + formula_size a)))
  written_length (or_formula a b) around v =
      ap suc (length-append (write_over operand_of a around (suc v)) (write_over operand_of b around (suc v + formula_size a))
      ∙ ap₂ ◌+◌ (written_length a around (suc v)) (written_length b around (suc v + formula_size a)))
  written_length (box_formula m a) around v = ap suc (written_length a around (suc v))
  written_length (diamond_formula m a) around v = ap suc (written_length a around (suc v))
  written_length (least_formula a) around v = ap suc (written_length a (v ∷ around) (suc v))
  written_length (greatest_formula a) around v = ap suc (written_length a (v ∷ around) (suc v))
  written_length (reference_formula i) around v = refl

  module _ (f : List ℕ) where
    -- the two operands of "and" or "or", one after the other
    pub holds_both : (a b : FormulaOver M) (around : List ℕ) (v : ℕ)
        → Holds (write_over operand_of a around (suc v) ++ write_over operand_of b around (suc v + formula_size a)) f (suc v)
        → Holds (write_over operand_of a around (suc v)) f (suc v) × Holds (write_over operand_of b around (suc v + formula_size a)) f (suc v + formula_size a)
    holds_both a b around v h =
        holds_split (write_over operand_of a around (suc v)) (write_over operand_of b around (suc v + formula_size a)) f (suc v) (formula_size a) (written_length a around (suc v)) h

    -- ---- where its tree ends

    leaf_ends : (v : ℕ) → v < size f → formula_children f v ≡ 0 → tree_end (formula_children f) (size f) v ≡ some (v + 1)
    leaf_ends v h c = end_leaf (formula_children f) (size f) v h c ∙ ap some (omega arith)

    two_ends : (v x y : ℕ) → v < size f → formula_children f v ≡ 2 → tree_end (formula_children f) (size f) (suc v) ≡ some x
        → tree_end (formula_children f) (size f) x ≡ some y → tree_end (formula_children f) (size f) v ≡ some y
    unfolding tree_after
    two_ends v x y h c p q = end_two (formula_children f) (size f) v h c ∙ ap (tree_after (formula_children f) (size f)) p ∙ q

    one_ends : (v n : ℕ) → v < size f → 4 ≤ kind f v → kind f v ≤ 7 → tree_end (formula_children f) (size f) (suc v) ≡ some (suc v + n)
        → tree_end (formula_children f) (size f) v ≡ some (v + suc n)
    one_ends v n h a b p = end_one (formula_children f) (size f) v h (formula_children_one f v h a b) ∙ p ∙ ap some (omega arith)

    pub formula_ends : (t : FormulaOver M) (around : List ℕ) (v : ℕ) → Holds (write_over operand_of t around v) f v → v + formula_size t ≤ size f
        → tree_end (formula_children f) (size f) v ≡ some (v + formula_size t)
    unfolding write_over formula_size
    formula_ends true_formula around v (k, o, h) l = leaf_ends v (omega arith) (formula_children_none f v (omega arith) (omega arith))
    formula_ends false_formula around v (k, o, h) l = leaf_ends v (omega arith) (formula_children_none f v (omega arith) (omega arith))
    formula_ends (and_formula a b) around v (k, o, h) l =
        let (p, q) = holds_both a b around v h in
        two_ends v (suc v + formula_size a) (v + suc (formula_size a + formula_size b)) (omega arith) (formula_children_two f v (omega arith) (omega arith) (omega arith))
        (formula_ends a around (suc v) p (omega arith)) (formula_ends b around (suc v + formula_size a) q (omega arith) ∙ ap some (omega arith))
    formula_ends (or_formula a b) around v (k, o, h) l =
        let (p, q) = holds_both a b around v h in
        two_ends v (suc v + formula_size a) (v + suc (formula_size a + formula_size b)) (omega arith) (formula_children_two f v (omega arith) (omega arith) (omega arith))
        (formula_ends a around (suc v) p (omega arith)) (formula_ends b around (suc v + formula_size a) q (omega arith) ∙ ap some (omega arith))
    formula_ends (box_formula m a) around v (k, o, h) l =
        one_ends v (formula_size a) (omega arith) (omega arith) (omega arith) (formula_ends a around (suc v) h (omega arith))
    formula_ends (diamond_formula m a) around v (k, o, h) l =
        one_ends v (formula_size a) (omega arith) (omega arith) (omega arith) (formula_ends a around (suc v) h (omega arith))
    formula_ends (least_formula a) around v (k, o, h) l =
        one_ends v (formula_size a) (omega arith) (omega arith) (omega arith) (formula_ends a (v ∷ around) (suc v) h (omega arith))
    formula_ends (greatest_formula a) around v (k, o, h) l =
        one_ends v (formula_size a) (omega arith) (omega arith) (omega arith) (formula_ends a (v ∷ around) (suc v) h (omega arith))
    formula_ends (reference_formula i) around v (k, o, h) l = leaf_ends v (omega arith) (formula_children_reference f v (omega arith) (omega arith))

    -- ---- its nodes are as they should be

    module _ (fit : M → Type 0) (no_tree : ℕ → Bool) (named : (m : M) → fit m → no_tree (operand_of m) ≡ false) where
      -- node u passes
      abbrev pub FineNode : ℕ → Type 0
      FineNode u =
          (kind f u ≤ 8) × (bad_formula_operand no_tree f u ≡ false)
          × (wrong_reference f u (reference_of (formula_node f u)) ≡ false)

      fine_zero : (v : ℕ) → v < size f → kind f v ≤ 1 → operand f v ≡ 0 → FineNode v
      fine_zero v h k o =
          (omega arith, formula_zero no_tree f v h k ∙ differ_no o, reference_other f v h (λ z. omega arith))

      fine_fixpoint : (v : ℕ) → v < size f → 6 ≤ kind f v → kind f v ≤ 7 → operand f v ≡ 0 → FineNode v
      fine_fixpoint v h a b o =
          (omega arith, formula_fixpoint no_tree f v h a b ∙ differ_no o, reference_other f v h (λ z. omega arith))

      fine_action : (m : M) (v : ℕ) → v < size f → 4 ≤ kind f v → kind f v ≤ 5 → fit m → operand f v ≡ operand_of m → FineNode v
      fine_action m v h a b l o = (
        omega arith,
        formula_action no_tree f v h a b ∙ ap no_tree o
            ∙ named m l,
        reference_other f v h (λ z. omega arith),
      )

      fine_right : (v e : ℕ) → v < size f → 2 ≤ kind f v → kind f v ≤ 3 → operand f v ≡ e → tree_end (formula_children f) (size f) (suc v) ≡ some e → FineNode v
      fine_right v e h a b o t = (
        omega arith,
        formula_right no_tree f v h a b
            ∙ right_end (operand f v) e _ t o,
        reference_other f v h (λ z. omega arith),
      )

      fine_reference : (around : List ℕ) (i v : ℕ) → v < size f → kind f v ≡ 8 → operand f v ≡ get_or around i 0 → i < length around → Surround f around v (v + 1) → FineNode v
      unfolding encloses is_before_end
      fine_reference around i v h k o l s =
          let (p, q, (x, r, y)) = s i l in
          let e : (is_fixpoint (formula_node f (get_or around i 0)) && encloses f (get_or around i 0) v) ≡ true = rw (p, lt-ltb (get_or around i 0) v q, r) (lt-ltb v x (omega arith)) in (
            omega arith,
            formula_other no_tree f v h (omega arith),
            reference_test f v h k
                ∙ ap (λ (u : ℕ). not (is_fixpoint (formula_node f u) && encloses f u v)) o
                ∙ ap not e,
          )

      -- a node with two subtrees, where the nodes of each are as they should be
      fine_both : (a b : FormulaOver M) (around : List ℕ) (v u : ℕ)
          → Holds (write_over operand_of a around (suc v) ++ write_over operand_of b around (suc v + formula_size a)) f (suc v)
          → v + suc (formula_size a + formula_size b) ≤ size f → 2 ≤ kind f v → kind f v ≤ 3
          → operand f v ≡ suc v + formula_size a → Surround f around v (v + suc (formula_size a + formula_size b))
          → (Holds (write_over operand_of a around (suc v)) f (suc v) → Surround f around (suc v) (suc v + formula_size a)
          → suc v ≤ u → u < suc v + formula_size a → FineNode u)
          → (Holds (write_over operand_of b around (suc v + formula_size a)) f (suc v + formula_size a)
          → Surround f around (suc v + formula_size a) (suc v + formula_size a + formula_size b)
          → suc v + formula_size a ≤ u → u < suc v + formula_size a + formula_size b → FineNode u)
          → v ≤ u → u < v + suc (formula_size a + formula_size b) → FineNode u
      fine_both a b around v u h l i j o s left right =
          let (p, q) = holds_both a b around v h in
          two_nodes FineNode v u
          (fine_right v (suc v + formula_size a) (omega arith) i j o (formula_ends a around (suc v) p (omega arith)))
          (formula_size a) (formula_size b) (left p (surround_inner f around v _ (suc v) _ (omega arith) (omega arith) s))
          (right q (surround_inner f around v _ (suc v + formula_size a) _ (omega arith) (omega arith) s))

      -- a fixpoint: it surrounds the nodes of its body too
      fine_around : (a : FormulaOver M) (around : List ℕ) (v u : ℕ) → Holds (write_over operand_of a (v ∷ around) (suc v)) f (suc v)
          → v + suc (formula_size a) ≤ size f → 6 ≤ kind f v → kind f v ≤ 7 → operand f v ≡ 0
          → Surround f around v (v + suc (formula_size a))
          → (Surround f (v ∷ around) (suc v) (suc v + formula_size a) → suc v ≤ u → u < suc v + formula_size a → FineNode u)
          → v ≤ u → u < v + suc (formula_size a) → FineNode u
      fine_around a around v u h l i j o s body =
          one_nodes FineNode v u (fine_fixpoint v (omega arith) i j o) (formula_size a)
          (body
          (surround_inner f (v ∷ around) (suc v) (v + suc (formula_size a)) (suc v) _ (omega arith) (omega arith)
          (surround_more f around v _ (fixpoint_yes f v (omega arith) i j)
          (one_ends v (formula_size a) (omega arith) (omega arith) j (formula_ends a (v ∷ around) (suc v) h (omega arith))) s)))

      fine_named : (m : M) (a : FormulaOver M) (around : List ℕ) (v u : ℕ) → v + suc (formula_size a) ≤ size f
          → 4 ≤ kind f v → kind f v ≤ 5 → fit m → operand f v ≡ operand_of m
          → Surround f around v (v + suc (formula_size a))
          → (Surround f around (suc v) (suc v + formula_size a) → suc v ≤ u → u < suc v + formula_size a → FineNode u)
          → v ≤ u → u < v + suc (formula_size a) → FineNode u
      fine_named m a around v u l p q n o s body =
          one_nodes FineNode v u (fine_action m v (omega arith) p q n o) (formula_size a)
          (body (surround_inner f around v _ (suc v) _ (omega arith) (omega arith) s))

      pub formula_fine : (t : FormulaOver M) (around : List ℕ) (v : ℕ) → Holds (write_over operand_of t around v) f v → v + formula_size t ≤ size f
          → Fits fit (length around) t → Surround f around v (v + formula_size t)
          → (u : ℕ) → v ≤ u → u < v + formula_size t → FineNode u
      unfolding write_over formula_size
      formula_fine true_formula around v (k, o, h) l ns s u = leaf_nodes FineNode v u (fine_zero v (omega arith) (omega arith) o)
      formula_fine false_formula around v (k, o, h) l ns s u = leaf_nodes FineNode v u (fine_zero v (omega arith) (omega arith) o)
      formula_fine (and_formula a b) around v (k, o, h) l ns s u =
          fine_both a b around v u h l (omega arith) (omega arith) o s
          (λ p r. formula_fine a around (suc v) p (omega arith) ns.0 r u)
          (λ q r. formula_fine b around (suc v + formula_size a) q (omega arith) ns.1 r u)
      formula_fine (or_formula a b) around v (k, o, h) l ns s u =
          fine_both a b around v u h l (omega arith) (omega arith) o s
          (λ p r. formula_fine a around (suc v) p (omega arith) ns.0 r u)
          (λ q r. formula_fine b around (suc v + formula_size a) q (omega arith) ns.1 r u)
      formula_fine (box_formula m a) around v (k, o, h) l ns s u =
          fine_named m a around v u l (omega arith) (omega arith) ns.0 o s
          (λ r. formula_fine a around (suc v) h (omega arith) ns.1 r u)
      formula_fine (diamond_formula m a) around v (k, o, h) l ns s u =
          fine_named m a around v u l (omega arith) (omega arith) ns.0 o s
          (λ r. formula_fine a around (suc v) h (omega arith) ns.1 r u)
      formula_fine (least_formula a) around v (k, o, h) l ns s u =
          fine_around a around v u h l (omega arith) (omega arith) o s
          (λ r. formula_fine a (v ∷ around) (suc v) h (omega arith) ns r u)
      formula_fine (greatest_formula a) around v (k, o, h) l ns s u =
          fine_around a around v u h l (omega arith) (omega arith) o s
          (λ r. formula_fine a (v ∷ around) (suc v) h (omega arith) ns r u)
      formula_fine (reference_formula i) around v (k, o, h) l ns s u =
          leaf_nodes FineNode v u (fine_reference around i v (omega arith) k o ns s)
