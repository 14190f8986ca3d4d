-- Where all fixpoints are least, or all are greatest, the Rust's ranking is sound: no operator changes along a chain of
-- references, so every depth is at most 1 and all fixpoints have one priority. Then a verdict on the game exists
-- exactly if the formula holds. Assumes nothing.
use mathlib.Core.Path.{◌≡◌, refl, sym, ap, subst, ◌∙◌}
use mathlib.Core.Bool.{Bool, true, false, true≢false}
use mathlib.Core.List.{List, [], ◌∷◌}
use mathlib.Core.Logic.{◌⊎◌, inl, inr}
use Prim.Native.Nat.{ℕ, ◌+◌, ◌≤◌, ◌<◌, ◌/◌}
use native.Mathlib.Omega.{arith}
use native.Mathlib.Decide.{ℕ_discrete}
use lib.Dec.{eqb}
use lib.ListN.{length}
use Rattle.std.specs.declared.result.Result.TheVariants.{Ok}
use Rattle.rules.specs.declared.Room.{Room}
use Rattle.rules.specs.Lists.{has, one}
use Rattle.rules.specs.Words.{Input}
use Rattle.rules.specs.Table.{size, kind, formula_node}
use Rattle.rules.specs.Formula.{Operator, least, greatest, Equation, is_fixpoint, equation_of, equation_number}
use Rattle.rules.specs.Depth.{alternates, depth, least_bit, by_depth}
use Rattle.rules.specs.Refusal.{input_refusal}
use Rattle.rules.specs.Run.{run}
use Rattle.tables.specs.Good.{GoodFormula}
use Rattle.tables.proofs.Accepted.{accepted, accepted_input}
use Rattle.trees.specs.Chains.{referred, Chain, last_of, changes, worth}
use Rattle.trees.proofs.References.{body_references_below}
use Rattle.trees.proofs.ChainReadings.{chain_attained}
use Rattle.trees.proofs.Fixpoints.{fixpoint_inside, fixpoint_kind}
use Rattle.trees.proofs.Equations.{number_below, equation_node, least_equation, greatest_equation}
use Rattle.satisfaction.specs.Ranks.{Sound, OneKind}
use Rattle.satisfaction.specs.Claims.{VerdictExactly}
use Rattle.satisfaction.proofs.Nesting.{bit_parity}
use Rattle.satisfaction.proofs.VerdictMeans.{done_passed}
use Rattle.satisfaction.proofs.Exactly.{verdict_exactly}

-- ---- operators

abbrev operator_at : List ℕ → ℕ → Operator
operator_at f i = (equation_of f i).operator

-- fixpoints of one kind have one operator
same_operator : (f : List ℕ) (u v : ℕ) → is_fixpoint (formula_node f u) ≡ true → is_fixpoint (formula_node f v) ≡ true → kind f u ≡ kind f v
    → operator_at f (equation_number f u) ≡ operator_at f (equation_number f v)
same_operator f u v p q e = go (ℕ_discrete (kind f u) 6)
  where
    go : Dec (kind f u ≡ 6) → operator_at f (equation_number f u) ≡ operator_at f (equation_number f v)
    go (yes i) =
        ap (λ (z : Equation). z.operator) (least_equation f u (fixpoint_inside f u p) i)
        ∙ sym (ap (λ (z : Equation). z.operator) (least_equation f v (fixpoint_inside f v q) (sym e ∙ i)))
    go (no n) =
        let (a, b) = fixpoint_kind f u p in
        let i : kind f u ≡ 7 = omega (arith, n) in
        ap (λ (z : Equation). z.operator) (greatest_equation f u (fixpoint_inside f u p) i)
        ∙ sym (ap (λ (z : Equation). z.operator) (greatest_equation f v (fixpoint_inside f v q) (sym e ∙ i)))

no_change : (o p : Operator) → o ≡ p → alternates o p ≡ 0
unfolding alternates
no_change least p e = ap (alternates least) (sym e)
no_change greatest p e = ap (alternates greatest) (sym e)

-- ---- depths

module _ (m : ℕ) (x : Input) (good : GoodFormula m x.formula) (kinds : OneKind x.formula) where
  -- along a chain from the equation of fixpoint u the operator never changes
  no_changes : (t u : ℕ) (js : List ℕ) → is_fixpoint (formula_node x.formula u) ≡ true → Chain x t (equation_number x.formula u) js
      → changes x.formula (equation_number x.formula u) js ≡ 0
  unfolding changes referred
  no_changes t u [] p c = refl
  no_changes t u (j ∷ js) p c =
      let i = equation_number x.formula u in
      go (λ v q. no_changes t v js q) (equation_node x.formula j (body_references_below m x good j i (number_below x.formula u p) c.0))
    where
      go : ((v : ℕ) → is_fixpoint (formula_node x.formula v) ≡ true → Chain x t (equation_number x.formula v) js → changes x.formula (equation_number x.formula v) js ≡ 0)
          → ((j ≡ 0) × (is_fixpoint (formula_node x.formula 0) ≡ false)) ⊎ ((v : ℕ) × (v < size x.formula) × (is_fixpoint (formula_node x.formula v) ≡ true) × (equation_number x.formula v ≡ j))
          → alternates (operator_at x.formula (equation_number x.formula u)) (operator_at x.formula j) + changes x.formula j js ≡ 0
      go rest (inl (e, n)) = let l = c.1 in absurd (omega arith)
      go rest (inr (v, l, q, e)) =
          let a : alternates (operator_at x.formula (equation_number x.formula u)) (operator_at x.formula j) ≡ 0 =
          no_change _ _ (same_operator x.formula u v p q (kinds u v p q) ∙ ap (operator_at x.formula) e) in
          let b : changes x.formula j js ≡ 0 =
          subst (λ (k : ℕ). Chain x t k js → changes x.formula k js ≡ 0) e (rest v q) c.3 in
          omega arith

  depth_most : (u : ℕ) → is_fixpoint (formula_node x.formula u) ≡ true → depth x (equation_number x.formula u) ≤ 1
  unfolding depth worth
  depth_most u p =
      let i = equation_number x.formula u in
      let (js, c, w) = chain_attained m x good i i (number_below x.formula u p) in
      omega (arith, no_changes i u js p c, one_most (has eqb i (referred x (last_of i js))))
    where
      one_most : (b : Bool) → one b ≤ 1
      one_most true = omega arith
      one_most false = omega arith

-- ---- the ranking

pub one-kind_sound : (x : Input) → input_refusal x ≡ Ok tt → OneKind x.formula → Sound by_depth x
unfolding by_depth
one-kind_sound x passed kinds =
    record {
      parity = λ i l. bit_parity (depth x i / 2) (equation_of x.formula i).operator;
      above = λ i j n.
          let good = (accepted x passed).formula in
          let a = depth_most (size x.actions) x good kinds n.outer n.outer_fixpoint in
          let b = depth_most (size x.actions) x good kinds n.inner n.inner_fixpoint in
          let d : depth x (equation_number x.formula n.outer) ≡ depth x i = ap (depth x) n.outer_number in
          let e : depth x (equation_number x.formula n.inner) ≡ depth x j = ap (depth x) n.inner_number in
          let s : least_bit (operator_at x.formula i) ≡ least_bit (operator_at x.formula j) =
          ap least_bit (ap (operator_at x.formula) (sym n.outer_number)
          ∙ same_operator x.formula n.outer n.inner n.outer_fixpoint n.inner_fixpoint (kinds n.outer n.inner n.outer_fixpoint n.inner_fixpoint)
          ∙ ap (operator_at x.formula) n.inner_number) in
          omega arith;
    }

-- For every input whose fixpoints are of one kind, and every room, limit and content of the slices: neither a false
-- pass nor a false alarm under the Rust's ranking
pub one-kind_exactly : (x : Input) (r : Room) (k : ℕ) (game work : List ℕ) → OneKind x.formula
    → VerdictExactly x (run by_depth x r k game work).answer (run by_depth x r k game work).game
one-kind_exactly x r k game work kinds d =
    let passed = accepted_input x r (length game) (length work) (done_passed by_depth x r k game work d) in
    verdict_exactly by_depth x r k game work (one-kind_sound x passed kinds) d

-- a formula without fixpoints is such a one
pub without_fixpoints : (f : List ℕ) → ((v : ℕ) → is_fixpoint (formula_node f v) ≡ false) → OneKind f
without_fixpoints f none u v p q = absurd (true≢false (sym p ∙ none u))
