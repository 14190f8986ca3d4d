-- How many nodes a node of the formula is expanded to, by its kind; the fixpoints around it do not matter. Assumes
-- nothing.
use mathlib.Core.Path.{◌≡◌, refl, sym, ap, ap₂, ◌∙◌}
use mathlib.Core.List.{List, [], ◌∷◌}
use Prim.Native.Nat.{ℕ, zero, suc, ◌+◌, ◌-◌, ◌≤◌, ◌<◌}
use native.Mathlib.Omega.{arith}
use native.Mathlib.Decide.{ℕ_discrete}
use Rattle.rules.specs.Table.{size, kind, operand, decode_formula}
use Rattle.tables.specs.Good.{GoodFormula}
use Rattle.tables.proofs.Decode.{formula_kinds, formula_of_kind}
use Rattle.writing.specs.FormulaSyntax.{FormulaOver, formula_size}
use Rattle.regular_rules.specs.Regular.{Regular, regular_tree}
use Rattle.writing.specs.FormulaReading.{syntax_of, syntax_at}
use Rattle.regular_rules.specs.Expand.{box, diamond, expand}
use Rattle.regular_rules.specs.Sizes.{modal_size, size_at}
use Rattle.regular_rules.proofs.Expanded.{modal_size_told}
use Rattle.regular_rules.proofs.Formulas.{syntax-at}

-- the nodes of what a formula is expanded to
abbrev expanded_to : FormulaOver Regular → ℕ
expanded_to t = formula_size (expand t)

module _ (regs : List ℕ) where
  -- only the sizes of the children that a kind has matter
  same_size : (t u : List ℕ → ℕ → FormulaOver Regular) (around known : List ℕ) (v o k : ℕ)
      → (2 ≤ k → k ≤ 7 → (xs ys : List ℕ) → expanded_to (t xs (suc v)) ≡ expanded_to (u ys (suc v)))
      → (2 ≤ k → k ≤ 3 → expanded_to (t around o) ≡ expanded_to (u known o))
      → expanded_to (syntax_of (regular_tree regs) t around v (decode_formula k o))
      ≡ expanded_to (syntax_of (regular_tree regs) u known v (decode_formula k o))
  unfolding syntax_of expand formula_size
  same_size t u around known v o =
      formula_kinds o
      (λ k n. (2 ≤ k → k ≤ 7 → (xs ys : List ℕ) → expanded_to (t xs (suc v)) ≡ expanded_to (u ys (suc v)))
      → (2 ≤ k → k ≤ 3 → expanded_to (t around o) ≡ expanded_to (u known o))
      → expanded_to (syntax_of (regular_tree regs) t around v n) ≡ expanded_to (syntax_of (regular_tree regs) u known v n))
      (λ p q. refl)
      (λ p q. refl)
      (λ p q. ap₂ (λ x y. suc (x + y)) (p (omega arith) (omega arith) around known) (q (omega arith) (omega arith)))
      (λ p q. ap₂ (λ x y. suc (x + y)) (p (omega arith) (omega arith) around known) (q (omega arith) (omega arith)))
      (λ p q. modal_size_told box (regular_tree regs o) (expand (t around (suc v)))
      ∙ ap (modal_size (regular_tree regs o)) (p (omega arith) (omega arith) around known)
      ∙ sym (modal_size_told box (regular_tree regs o) (expand (u known (suc v)))))
      (λ p q. modal_size_told diamond (regular_tree regs o) (expand (t around (suc v)))
      ∙ ap (modal_size (regular_tree regs o)) (p (omega arith) (omega arith) around known)
      ∙ sym (modal_size_told diamond (regular_tree regs o) (expand (u known (suc v)))))
      (λ p q. ap suc (p (omega arith) (omega arith) (v ∷ around) (v ∷ known)))
      (λ p q. ap suc (p (omega arith) (omega arith) (v ∷ around) (v ∷ known)))
      (λ p q. refl)
      (λ k h p q. refl)

  module _ (m : ℕ) (f : List ℕ) (good : GoodFormula m f) where
    abbrev size_in : List ℕ → ℕ → ℕ
    size_in around v = expanded_to (syntax_at (regular_tree regs) f around v)

    -- of a known kind
    in_kind : (around : List ℕ) (v : ℕ) → v < size f → (k : ℕ) → kind f v ≡ k
        → size_in around v ≡ expanded_to (syntax_of (regular_tree regs) (syntax_at (regular_tree regs) f) around v (decode_formula k (operand f v)))
    in_kind around v h k e =
        ap expanded_to
        (syntax-at (regular_tree regs) m f good around v h
        ∙ ap (syntax_of (regular_tree regs) (syntax_at (regular_tree regs) f) around v) (formula_of_kind f v h k e))

    same_to : (d : ℕ) (around known : List ℕ) (v : ℕ) → v < size f → size f - v ≤ d → size_in around v ≡ size_in known v
    same_to zero around known v h l = absurd (omega arith)
    same_to (suc d) around known v h l =
        let n = good.nodes v h in
        in_kind around v h (kind f v) refl
        ∙ same_size (syntax_at (regular_tree regs) f) (syntax_at (regular_tree regs) f) around known v (operand f v) (kind f v)
        (λ p q xs ys. same_to d xs ys (suc v) (n.next p q) (omega arith))
        (λ p q. let r = n.right p q in same_to d around known (operand f v) r.1 (omega arith))
        ∙ sym (in_kind known v h (kind f v) refl)

    -- whatever fixpoints stand around it
    pub size_around : (around : List ℕ) (v : ℕ) → v < size f → formula_size (expand (syntax_at (regular_tree regs) f around v)) ≡ size_at regs f v
    unfolding size_at
    size_around around v h = same_to (size f) around [] v h (omega arith)

    -- ---- by the kind

    module _ (v : ℕ) (h : v < size f) where
      one : suc v ≡ v + 1
      one = omega arith

      pub size_leaf : kind f v ≤ 1 → size_at regs f v ≡ 1
      unfolding size_at syntax_of decode_formula expand formula_size
      size_leaf l = go (ℕ_discrete (kind f v) 0)
        where
          go : Dec (kind f v ≡ 0) → size_in [] v ≡ 1
          go (yes e) = in_kind [] v h 0 e
          go (no d) = in_kind [] v h 1 (omega arith)

      pub size_reference : kind f v ≡ 8 → size_at regs f v ≡ 1
      unfolding size_at syntax_of decode_formula expand formula_size
      size_reference e = in_kind [] v h 8 e

      pub size_two : 2 ≤ kind f v → kind f v ≤ 3 → size_at regs f v ≡ suc (size_at regs f (v + 1) + size_at regs f (operand f v))
      unfolding size_at syntax_of decode_formula expand formula_size
      size_two a b = go (ℕ_discrete (kind f v) 2) ∙ ap (λ u. suc (size_in [] u + size_in [] (operand f v))) one
        where
          go : Dec (kind f v ≡ 2) → size_in [] v ≡ suc (size_in [] (suc v) + size_in [] (operand f v))
          go (yes e) = in_kind [] v h 2 e
          go (no d) = in_kind [] v h 3 (omega arith)

      pub size_modal : 4 ≤ kind f v → kind f v ≤ 5 → size_at regs f v ≡ modal_size (regular_tree regs (operand f v)) (size_at regs f (v + 1))
      unfolding size_at syntax_of decode_formula expand
      size_modal a b =
          go (ℕ_discrete (kind f v) 4) ∙ ap (λ u. modal_size (regular_tree regs (operand f v)) (size_in [] u)) one
        where
          body : FormulaOver ℕ
          body = expand (syntax_at (regular_tree regs) f [] (suc v))

          go : Dec (kind f v ≡ 4) → size_in [] v ≡ modal_size (regular_tree regs (operand f v)) (size_in [] (suc v))
          go (yes e) = in_kind [] v h 4 e ∙ modal_size_told box (regular_tree regs (operand f v)) body
          go (no d) = in_kind [] v h 5 (omega arith) ∙ modal_size_told diamond (regular_tree regs (operand f v)) body

      pub size_fixpoint : 6 ≤ kind f v → kind f v ≤ 7 → size_at regs f v ≡ suc (size_at regs f (v + 1))
      unfolding syntax_of decode_formula expand formula_size
      size_fixpoint a b = sym (size_around [] v h) ∙ go (ℕ_discrete (kind f v) 6) ∙ ap suc body
        where
          body : size_in (v ∷ []) (suc v) ≡ size_at regs f (v + 1)
          body =
              let n = good.nodes v h in
              size_around (v ∷ []) (suc v) (n.next (omega arith) b) ∙ ap (size_at regs f) one

          go : Dec (kind f v ≡ 6) → size_in [] v ≡ suc (size_in (v ∷ []) (suc v))
          go (yes e) = in_kind [] v h 6 e
          go (no d) = in_kind [] v h 7 (omega arith)
