-- The tests of operands and references, one law for each rule, with the kinds of the nodes that have it: the form in
-- which a program makes them. Assumes nothing.
use Prim.Native.Nat.{ℕ, suc, ◌≤◌, ◌<◌}
use mathlib.Core.Path.{◌≡◌, ap}
use mathlib.Core.Bool.{Bool, false, not, ◌&&◌}
use mathlib.Core.List.{List}
use lib.Dec.{leb}
use Rattle.rules.specs.Labels.{label_count}
use Rattle.rules.specs.Table.{size, kind, operand, Shape, action_node, action_shape, action_children}
use Rattle.rules.specs.Table.{formula_node, formula_shape, formula_children, reference_of, tree_end, is_not_end}
use Rattle.rules.specs.Formula.{is_fixpoint}
use Rattle.rules.specs.Refusal.{differ, wrong_operand, bad_action_operand, bad_formula_operand, encloses, wrong_reference}
use Rattle.tables.proofs.Decode.{action_constant, action_multi, action_two, action_negation, action_unknown}
use Rattle.tables.proofs.Decode.{formula_constant, formula_two, formula_modal, formula_last, reference_at}
use Rattle.tables.proofs.Decode.{fixpoint_shape, reference_none}

-- ---- action formulas

module _ (ls acts : List ℕ) (v : ℕ) (h : v < size acts) where
  judged : (s : Shape) → action_shape (action_node acts v) ≡ s
      → bad_action_operand ls acts v
      ≡ wrong_operand (leb (label_count ls)) (operand acts v) (tree_end (action_children acts) (size acts) (suc v))
      s.rule
  unfolding bad_action_operand
  judged s e =
      ap (λ t. wrong_operand (leb (label_count ls)) (operand acts v) (tree_end (action_children acts) (size acts) (suc v))
      t.rule) e

  pub action_zero : kind acts v ≤ 1 → bad_action_operand ls acts v ≡ differ (operand acts v) 0
  unfolding wrong_operand
  action_zero l = judged _ (action_constant acts v h l)

  pub action_label : kind acts v ≡ 2 → bad_action_operand ls acts v ≡ leb (label_count ls) (operand acts v)
  unfolding wrong_operand
  action_label e = judged _ (action_multi acts v h e)

  pub action_right : 3 ≤ kind acts v → kind acts v ≤ 4
      → bad_action_operand ls acts v ≡ is_not_end (operand acts v) (tree_end (action_children acts) (size acts) (suc v))
  unfolding wrong_operand
  action_right a b = judged _ (action_two acts v h a b)

  pub action_negated : kind acts v ≡ 5 → bad_action_operand ls acts v ≡ differ (operand acts v) 0
  unfolding wrong_operand
  action_negated e = judged _ (action_negation acts v h e)

  pub action_other : 6 ≤ kind acts v → bad_action_operand ls acts v ≡ false
  unfolding wrong_operand
  action_other l = judged _ (action_unknown acts v h l)

-- ---- the formula, for any test of what an operand names

module _ (no_tree : ℕ → Bool) (f : List ℕ) (v : ℕ) (h : v < size f) where
  formula_judged : (s : Shape) → formula_shape (formula_node f v) ≡ s
      → bad_formula_operand no_tree f v
      ≡ wrong_operand no_tree (operand f v) (tree_end (formula_children f) (size f) (suc v)) s.rule
  unfolding bad_formula_operand
  formula_judged s e =
      ap (λ t. wrong_operand no_tree (operand f v) (tree_end (formula_children f) (size f) (suc v)) t.rule) e

  pub formula_zero : kind f v ≤ 1 → bad_formula_operand no_tree f v ≡ differ (operand f v) 0
  unfolding wrong_operand
  formula_zero l = formula_judged _ (formula_constant f v h l)

  pub formula_right : 2 ≤ kind f v → kind f v ≤ 3
      → bad_formula_operand no_tree f v ≡ is_not_end (operand f v) (tree_end (formula_children f) (size f) (suc v))
  unfolding wrong_operand
  formula_right a b = formula_judged _ (formula_two f v h a b)

  pub formula_action : 4 ≤ kind f v → kind f v ≤ 5 → bad_formula_operand no_tree f v ≡ no_tree (operand f v)
  unfolding wrong_operand
  formula_action a b = formula_judged _ (formula_modal f v h a b)

  pub formula_fixpoint : 6 ≤ kind f v → kind f v ≤ 7 → bad_formula_operand no_tree f v ≡ differ (operand f v) 0
  unfolding wrong_operand
  formula_fixpoint a b = formula_judged _ (fixpoint_shape f v h a b)

  pub formula_other : 8 ≤ kind f v → bad_formula_operand no_tree f v ≡ false
  unfolding wrong_operand
  formula_other a = formula_judged _ (formula_last f v h a)

-- ---- references

module _ (f : List ℕ) (v : ℕ) (h : v < size f) where
  pub reference_other : (¬ (kind f v ≡ 8)) → wrong_reference f v (reference_of (formula_node f v)) ≡ false
  unfolding wrong_reference
  reference_other d = ap (wrong_reference f v) (reference_none f v h d)

  pub reference_test : kind f v ≡ 8
      → wrong_reference f v (reference_of (formula_node f v))
      ≡ not (is_fixpoint (formula_node f (operand f v)) && encloses f (operand f v) v)
  unfolding wrong_reference
  reference_test e = ap (wrong_reference f v) (reference_at f v h e)
