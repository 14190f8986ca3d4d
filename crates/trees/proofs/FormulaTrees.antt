-- The trees of formulas: the depth to which they are read does not matter, a node's tree is made of its children's
-- trees, and one law for each kind of node. A fixpoint and a reference are leaves: a reference to an equation. Assumes
-- nothing.
use mathlib.Core.Path.{◌≡◌, refl, ap, ap₂, ◌∙◌}
use Prim.Native.Nat.{ℕ, zero, suc, ◌-◌, ◌≤◌, ◌<◌}
use native.Mathlib.Decide.{ℕ_discrete}
use native.Mathlib.Omega.{arith}
use Rattle.rules.specs.Words.{Input}
use Rattle.rules.specs.Table.{size, kind, operand, decode_formula}
use Rattle.rules.specs.Actions.{action_tree}
use Rattle.rules.specs.Formula.{Formula, truth, falsity, conjunction, disjunction, box, diamond, reference}
use Rattle.rules.specs.Formula.{equation_number, formula_of, formula_to, formula_tree, FormulaTreeEquation}
use Rattle.tables.specs.Good.{GoodFormula}
use Rattle.tables.proofs.Decode.{formula_at, formula_kinds, formula_of_kind}

-- only the trees of the children that a kind has matter
formula_of_same : (t u : ℕ → Formula) (x : Input) (v o k : ℕ)
    → (2 ≤ k → k ≤ 5 → t (suc v) ≡ u (suc v)) → (2 ≤ k → k ≤ 3 → t o ≡ u o)
    → formula_of t x v (decode_formula k o) ≡ formula_of u x v (decode_formula k o)
unfolding formula_of
formula_of_same t u x v o =
    formula_kinds o
    (λ k n. (2 ≤ k → k ≤ 5 → t (suc v) ≡ u (suc v)) → (2 ≤ k → k ≤ 3 → t o ≡ u o) → formula_of t x v n
    ≡ formula_of u x v n)
    (λ p q. refl)
    (λ p q. refl)
    (λ p q. ap₂ conjunction (p (omega arith) (omega arith)) (q (omega arith) (omega arith)))
    (λ p q. ap₂ disjunction (p (omega arith) (omega arith)) (q (omega arith) (omega arith)))
    (λ p q. ap (box (action_tree x.labels x.actions o)) (p (omega arith) (omega arith)))
    (λ p q. ap (diamond (action_tree x.labels x.actions o)) (p (omega arith) (omega arith)))
    (λ p q. refl)
    (λ p q. refl)
    (λ p q. refl)
    (λ k h p q. refl)

module _ (m : ℕ) (x : Input) (good : GoodFormula m x.formula) where
  -- any depth that reaches the last node gives the same tree
  pub formula_depth : (d e v : ℕ) → v < size x.formula → size x.formula - v ≤ d → size x.formula - v ≤ e → formula_to d x v ≡ formula_to e x v
  unfolding formula_to
  formula_depth zero e v h a b = absurd (omega arith)
  formula_depth (suc d) zero v h a b = absurd (omega arith)
  formula_depth (suc d) (suc e) v h a b =
      let n = good.nodes v h in
      rw (formula_at x.formula v h)
      (formula_of_same (λ u. formula_to d x u) (λ u. formula_to e x u) x v (operand x.formula v) (kind x.formula v)
      (λ p q. formula_depth d e (suc v) (n.next p (omega arith)) (omega arith) (omega arith))
      (λ p q. let r = n.right p q in formula_depth d e (operand x.formula v) r.1 (omega arith) (omega arith)))

  -- a node's tree is made of the trees of its children
  pub formula-tree : (v : ℕ) → v < size x.formula → FormulaTreeEquation x v
  unfolding formula_tree formula_to
  formula-tree v h = formula_depth (size x.formula) (suc (size x.formula)) v h (omega arith) (omega arith)

  module _ (v : ℕ) (h : v < size x.formula) where
    -- of a known kind
    at_kind : (k : ℕ) → kind x.formula v ≡ k → formula_tree x v ≡ formula_of (formula_tree x) x v (decode_formula k (operand x.formula v))
    at_kind k e = formula-tree v h ∙ ap (formula_of (formula_tree x) x v) (formula_of_kind x.formula v h k e)

    pub truth_tree : kind x.formula v ≡ 0 → formula_tree x v ≡ truth
    unfolding formula_of decode_formula
    truth_tree e = at_kind 0 e

    pub falsity_tree : kind x.formula v ≡ 1 → formula_tree x v ≡ falsity
    unfolding formula_of decode_formula
    falsity_tree e = at_kind 1 e

    pub conjunction_tree : kind x.formula v ≡ 2 → formula_tree x v ≡ conjunction (formula_tree x (suc v)) (formula_tree x (operand x.formula v))
    unfolding formula_of decode_formula
    conjunction_tree e = at_kind 2 e

    pub disjunction_tree : kind x.formula v ≡ 3 → formula_tree x v ≡ disjunction (formula_tree x (suc v)) (formula_tree x (operand x.formula v))
    unfolding formula_of decode_formula
    disjunction_tree e = at_kind 3 e

    pub box_tree : kind x.formula v ≡ 4 → formula_tree x v ≡ box (action_tree x.labels x.actions (operand x.formula v)) (formula_tree x (suc v))
    unfolding formula_of decode_formula
    box_tree e = at_kind 4 e

    pub diamond_tree : kind x.formula v ≡ 5 → formula_tree x v ≡ diamond (action_tree x.labels x.actions (operand x.formula v)) (formula_tree x (suc v))
    unfolding formula_of decode_formula
    diamond_tree e = at_kind 5 e

    pub least_tree : kind x.formula v ≡ 6 → formula_tree x v ≡ reference (equation_number x.formula v)
    unfolding formula_of decode_formula
    least_tree e = at_kind 6 e

    pub greatest_tree : kind x.formula v ≡ 7 → formula_tree x v ≡ reference (equation_number x.formula v)
    unfolding formula_of decode_formula
    greatest_tree e = at_kind 7 e

    pub reference_tree : kind x.formula v ≡ 8 → formula_tree x v ≡ reference (equation_number x.formula (operand x.formula v))
    unfolding formula_of decode_formula
    reference_tree e = at_kind 8 e

    -- both kinds of fixpoints at once
    pub fixpoint_tree : 6 ≤ kind x.formula v → kind x.formula v ≤ 7 → formula_tree x v ≡ reference (equation_number x.formula v)
    fixpoint_tree p q = go (ℕ_discrete (kind x.formula v) 6)
      where
        go : Dec (kind x.formula v ≡ 6) → formula_tree x v ≡ reference (equation_number x.formula v)
        go (yes e) = least_tree e
        go (no d) = greatest_tree (omega arith)
