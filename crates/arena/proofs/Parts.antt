-- The operands of a body subformula are body subformulas, its references are to equations, and an equation's body is a
-- body subformula. Assumes nothing.
use mathlib.Core.Path.{◌≡◌, refl, sym, ap, subst, ◌∙◌}
use mathlib.Core.Logic.{◌⊎◌, inl, inr}
use mathlib.Core.Bool.{true, false}
use Prim.Native.Nat.{ℕ, zero, suc, ◌≤◌, ◌<◌}
use native.Mathlib.Omega.{arith}
use Rattle.rules.specs.Words.{Input}
use Rattle.rules.specs.Table.{size, kind, operand, formula_node}
use Rattle.rules.specs.Formula.{is_fixpoint, equation_count, equation_of, equation_number, Formula, formula_tree, body_tree, first_body_node}
use Rattle.tables.specs.Good.{GoodInput}
use Rattle.trees.proofs.FormulaTrees.{truth_tree, falsity_tree, conjunction_tree, disjunction_tree, box_tree, diamond_tree, least_tree, greatest_tree, reference_tree}
use Rattle.trees.proofs.Fixpoints.{fixpoint_at}
use Rattle.trees.proofs.Equations.{number_below, referred_below, equation_node, fixpoint_body, body_below}
use Rattle.arena.specs.Arena.{Carried, Parts}
use Rattle.arena.proofs.ItemNumbers.{first_body, later_body}

module _ (x : Input) (good : GoodInput x) where
  pub node_parts : (v : ℕ) → v < size x.formula → Parts x (formula_tree x v)
  node_parts v h = go (kind x.formula v) refl (good.formula.nodes v h).known
    where
      m : ℕ
      m = size x.actions

      child : 2 ≤ kind x.formula v → kind x.formula v ≤ 7 → Carried x (formula_tree x (suc v))
      child a b = (suc v, later_body x.formula (suc v) (omega arith) ((good.formula.nodes v h).next a b), refl)

      right : 2 ≤ kind x.formula v → kind x.formula v ≤ 3 → Carried x (formula_tree x (operand x.formula v))
      right a b =
          let (p, q) = (good.formula.nodes v h).right a b in
          (operand x.formula v, later_body x.formula (operand x.formula v) (omega arith) q, refl)

      own : 6 ≤ kind x.formula v → kind x.formula v ≤ 7 → equation_number x.formula v < equation_count x.formula
      own a b = number_below x.formula v (fixpoint_at x.formula v h a b)

      go : (k : ℕ) → kind x.formula v ≡ k → kind x.formula v ≤ 8 → Parts x (formula_tree x v)
      go zero e b = subst (Parts x) (sym (truth_tree m x good.formula v h e)) tt
      go (suc zero) e b = subst (Parts x) (sym (falsity_tree m x good.formula v h e)) tt
      go (suc (suc zero)) e b = subst (Parts x) (sym (conjunction_tree m x good.formula v h e)) (child (omega arith) (omega arith), right (omega arith) (omega arith))
      go (suc (suc (suc zero))) e b = subst (Parts x) (sym (disjunction_tree m x good.formula v h e)) (child (omega arith) (omega arith), right (omega arith) (omega arith))
      go (suc (suc (suc (suc zero)))) e b = subst (Parts x) (sym (box_tree m x good.formula v h e)) (child (omega arith) (omega arith))
      go (suc (suc (suc (suc (suc zero))))) e b = subst (Parts x) (sym (diamond_tree m x good.formula v h e)) (child (omega arith) (omega arith))
      go (suc (suc (suc (suc (suc (suc zero)))))) e b = subst (Parts x) (sym (least_tree m x good.formula v h e)) (own (omega arith) (omega arith))
      go (suc (suc (suc (suc (suc (suc (suc zero))))))) e b = subst (Parts x) (sym (greatest_tree m x good.formula v h e)) (own (omega arith) (omega arith))
      go (suc (suc (suc (suc (suc (suc (suc (suc zero)))))))) e b =
          subst (Parts x) (sym (reference_tree m x good.formula v h e)) (referred_below m x.formula good.formula v h (omega arith))
      go (suc (suc (suc (suc (suc (suc (suc (suc (suc k))))))))) e b = absurd (omega arith)

  pub carried_parts : (t : Formula) → Carried x t → Parts x t
  carried_parts t (v, b, e) = subst (Parts x) e (node_parts v b.1)

  -- an equation's body stands in a body: if it is node 0, node 0 is no fixpoint
  pub body_carried : (i : ℕ) → i < equation_count x.formula → Carried x (body_tree x (equation_of x.formula i))
  unfolding body_tree
  body_carried i h = ((equation_of x.formula i).body, (inside (equation_node x.formula i h), body_below (size x.actions) x.formula good.formula i h), refl)
    where
      inside : ((i ≡ 0) × (is_fixpoint (formula_node x.formula 0) ≡ false))
          ⊎ ((v : ℕ) × (v < size x.formula) × (is_fixpoint (formula_node x.formula v) ≡ true) × (equation_number x.formula v ≡ i))
          → first_body_node x.formula ≤ (equation_of x.formula i).body
      inside (inl (e, t)) = let z = first_body x.formula t in omega arith
      inside (inr (v, a, t, e)) =
          let b : (equation_of x.formula i).body ≡ suc v = ap (λ (j : ℕ). (equation_of x.formula j).body) (sym e) ∙ fixpoint_body x.formula v t in
          let (p, q) = later_body x.formula (equation_of x.formula i).body (omega arith) (body_below (size x.actions) x.formula good.formula i h) in
          p
