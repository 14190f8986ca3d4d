-- The shape of a node of the formula, one law for each kind that the code tests. Assumes nothing.
use mathlib.Core.Path.{◌≡◌, refl, sym, ap, subst, ◌∙◌}
use mathlib.Core.List.{List}
use Prim.Native.Nat.{ℕ, suc, ◌+◌, ◌≤◌, ◌<◌}
use native.Mathlib.Decide.{ℕ_discrete}
use Rattle.std.specs.Prelude.{min}
use native.Mathlib.Omega.{arith}
use Rattle.rules.specs.Lists.{word}
use Rattle.rules.specs.Words.{Input}
use Rattle.rules.specs.Table.{size, kind, operand}
use Rattle.rules.specs.Actions.{Action, action_tree}
use Rattle.rules.specs.Formula.{Formula, formula_tree, equation_number}
use Rattle.tables.specs.Good.{GoodInput}
use Rattle.trees.proofs.Fixpoints.{fixpoint_kind}
use Rattle.trees.proofs.FormulaTrees.{truth_tree, falsity_tree, conjunction_tree, disjunction_tree, box_tree, diamond_tree, fixpoint_tree, reference_tree}
use Rattle.lent_input.specs.Inputs.{input_in}
use Rattle.node_kinds.specs.declared.FormulaKind.{FormulaKind}
use Rattle.node_kinds.specs.declared.FormulaKind.TheVariants.{Reference}
use Rattle.node_kinds.specs.Codes.{formula_code}
use Rattle.node_kinds.specs.declared.Shape.{Shape}
use Rattle.alike_nodes.specs.declared.FormulaNodes.{FormulaNodes}
use Rattle.alike_nodes.specs.Nodes.{Last, Numbered, Later, EquationNumbers, FormulaShown, NodeShown}

module _ (x : Input) (good : GoodInput x) (numbers : List ℕ) (v : ℕ) (h : v < size x.formula) where
  abbrev OfAction : Action → ℕ → Type 0
  OfAction a r = Last (action_tree x.labels x.actions) (size x.actions) a r

  abbrev Number : Formula → ℕ → Type 0
  Number t l = Later (formula_tree x) (size x.formula) v numbers t l

  abbrev Shows : (k l r : ℕ) → Type 0
  Shows k l r =
      FormulaShown (Later (formula_tree x) (size x.formula) v numbers) (Last (action_tree x.labels x.actions) (size x.actions)) (formula_tree x v) k l r

  to : (t : Formula) (k l r : ℕ) → formula_tree x v ≡ t
      → FormulaShown (Later (formula_tree x) (size x.formula) v numbers) (Last (action_tree x.labels x.actions) (size x.actions)) t k l r
      → Shows k l r
  to t k l r e s =
      subst (λ (f : Formula). FormulaShown (Later (formula_tree x) (size x.formula) v numbers) (Last (action_tree x.labels x.actions) (size x.actions)) f k l r) (sym e) s

  pub shape_leaf : (k : ℕ) → k ≡ kind x.formula v → k ≤ 1 → Shows k 0 0
  shape_leaf k e p = go (ℕ_discrete k 0)
    where
      go : Dec (k ≡ 0) → Shows k 0 0
      go (yes z) = to _ k 0 0 (truth_tree (size x.actions) x good.formula v h (sym e ∙ z)) (z, refl, refl)
      go (no d) = let z : k ≡ 1 = omega arith in to _ k 0 0 (falsity_tree (size x.actions) x good.formula v h (sym e ∙ z)) (z, refl, refl)

  -- ---- references

  module _ (equations : List ℕ) (listed : EquationNumbers x.formula equations) where
    pub shape_fixpoint : (k : ℕ) → k ≡ kind x.formula v → 6 ≤ k → k ≤ 7 → Shows 8 (word equations v) 0
    shape_fixpoint k e p q =
        to _ 8 (word equations v) 0 (fixpoint_tree (size x.actions) x good.formula v h (omega arith) (omega arith)) (refl, listed.number v h (omega arith) (omega arith), refl)

    pub referred_before : (k o : ℕ) → k ≡ kind x.formula v → 7 < k → o ≡ operand x.formula v → o < size x.formula
    referred_before k o e p i = omega (arith, i, ((good.formula.nodes v h).refers (omega arith)).0)

    pub shape_reference : (k o : ℕ) → k ≡ kind x.formula v → 7 < k → o ≡ operand x.formula v → Shows 8 (word equations o) 0
    shape_reference k o e p i =
        let z : kind x.formula v ≡ 8 = omega (arith, (good.formula.nodes v h).known) in
        let (a, t) = (good.formula.nodes v h).refers (omega arith) in
        let (c, d) = fixpoint_kind x.formula (operand x.formula v) t in
        to _ 8 (word equations o) 0 (reference_tree (size x.actions) x good.formula v h z)
        (refl, listed.number o (omega (arith, a, i)) (rw i c) (rw i d) ∙ ap (equation_number x.formula) i, refl)

  -- ---- operands

  pub next_below : (k : ℕ) → k ≡ kind x.formula v → 2 ≤ k → k ≤ 5 → v + 1 < size x.formula
  next_below k e p q = omega (arith, (good.formula.nodes v h).next (omega arith) (omega arith))

  pub right_below : (k o : ℕ) → k ≡ kind x.formula v → 2 ≤ k → k ≤ 3 → o ≡ operand x.formula v → (v < o) × (o < size x.formula)
  right_below k o e p q i = let (a, b) = (good.formula.nodes v h).right (omega arith) (omega arith) in (omega arith, omega arith)

  next : (k : ℕ) → k ≡ kind x.formula v → 2 ≤ k → k ≤ 5 → Number (formula_tree x (suc v)) (word numbers (v + 1))
  next k e p q =
      let z : v + 1 ≡ suc v = omega arith in
      record { node = v + 1; past = omega arith; below = next_below k e p q; carries = ap (formula_tree x) z; number = refl }

  right : (k o : ℕ) → k ≡ kind x.formula v → 2 ≤ k → k ≤ 3 → o ≡ operand x.formula v → Number (formula_tree x (operand x.formula v)) (word numbers o)
  right k o e p q i =
      let (a, b) = right_below k o e p q i in
      record { node = o; past = a; below = b; carries = ap (formula_tree x) i; number = refl }

  pub shape_two : (k o : ℕ) → k ≡ kind x.formula v → 2 ≤ k → k ≤ 3 → o ≡ operand x.formula v → Shows k (word numbers (v + 1)) (word numbers o)
  shape_two k o e p q i = go (ℕ_discrete k 2)
    where
      go : Dec (k ≡ 2) → Shows k (word numbers (v + 1)) (word numbers o)
      go (yes z) =
          to _ k (word numbers (v + 1)) (word numbers o) (conjunction_tree (size x.actions) x good.formula v h (sym e ∙ z)) (z, next k e p (omega arith), right k o e p q i)
      go (no d) =
          let z : k ≡ 3 = omega arith in
          to _ k (word numbers (v + 1)) (word numbers o) (disjunction_tree (size x.actions) x good.formula v h (sym e ∙ z)) (z, next k e p (omega arith), right k o e p q i)

  -- ---- modalities

  module _ (acts : List ℕ) (known : Numbered (action_tree x.labels x.actions) (size x.actions) 0 acts) where
    pub action_below : (k o : ℕ) → k ≡ kind x.formula v → 4 ≤ k → k ≤ 5 → o ≡ operand x.formula v → o < size x.actions
    action_below k o e p q i = omega (arith, i, (good.formula.nodes v h).action (omega arith) (omega arith))

    action : (k o : ℕ) → k ≡ kind x.formula v → 4 ≤ k → k ≤ 5 → o ≡ operand x.formula v
        → OfAction (action_tree x.labels x.actions (operand x.formula v)) (word acts o)
    action k o e p q i =
        subst (λ (u : ℕ). Last (action_tree x.labels x.actions) (size x.actions) (action_tree x.labels x.actions u) (word acts o)) i
        (known.number o (omega arith) (action_below k o e p q i))

    pub shape_modal : (k o : ℕ) → k ≡ kind x.formula v → 4 ≤ k → k ≤ 5 → o ≡ operand x.formula v → Shows k (word numbers (v + 1)) (word acts o)
    shape_modal k o e p q i = go (ℕ_discrete k 4)
      where
        go : Dec (k ≡ 4) → Shows k (word numbers (v + 1)) (word acts o)
        go (yes z) =
            to _ k (word numbers (v + 1)) (word acts o) (box_tree (size x.actions) x good.formula v h (sym e ∙ z)) (z, next k e (omega arith) q, action k o e p q i)
        go (no d) =
            let z : k ≡ 5 = omega arith in
            to _ k (word numbers (v + 1)) (word acts o) (diamond_tree (size x.actions) x good.formula v h (sym e ∙ z)) (z, next k e (omega arith) q, action k o e p q i)

-- ---- the same, as the code finds them

module _ (n : FormulaNodes) (numbers : List ℕ) (v : ℕ) (h : v < size n.input.formula.now) where
  abbrev InBody : FormulaKind → (l r : ℕ) → Type 0
  InBody k l r = NodeShown (input_in n.input) numbers v (record { kind = k; left = l; right = r })

  -- the kind that the code reads is the node's
  kind_read : (k : FormulaKind) → formula_code k ≡ min (kind n.input.formula.now v) 8 → formula_code k ≡ kind n.input.formula.now v
  kind_read k e = omega (arith, (n.input.good.formula.nodes v h).known)

  -- what is shown as a reference
  shown_as : (r : FormulaKind) (l : ℕ) → formula_code r ≡ 8 → Shows (input_in n.input) n.input.good numbers v h 8 l 0 → InBody r l 0
  shown_as r l z s = rw z s

  pub body_leaf : (k : FormulaKind) → formula_code k ≡ min (kind n.input.formula.now v) 8 → formula_code k ≤ 1 → InBody k 0 0
  body_leaf k e = shape_leaf (input_in n.input) n.input.good numbers v h (formula_code k) (kind_read k e)

  pub body_two : (k : FormulaKind) (o : ℕ) → formula_code k ≡ min (kind n.input.formula.now v) 8 → 2 ≤ formula_code k → formula_code k ≤ 3
      → o ≡ operand n.input.formula.now v → InBody k (word numbers (v + 1)) (word numbers o)
  body_two k o e = shape_two (input_in n.input) n.input.good numbers v h (formula_code k) o (kind_read k e)

  pub body_modal : (k : FormulaKind) (o : ℕ) → formula_code k ≡ min (kind n.input.formula.now v) 8 → 4 ≤ formula_code k → formula_code k ≤ 5
      → o ≡ operand n.input.formula.now v → InBody k (word numbers (v + 1)) (word n.acts.now o)
  body_modal k o e = shape_modal (input_in n.input) n.input.good numbers v h n.acts.now n.action_numbers (formula_code k) o (kind_read k e)

  pub body_fixpoint : (k : FormulaKind) (s : Shape FormulaKind) → formula_code k ≡ min (kind n.input.formula.now v) 8 → 6 ≤ formula_code k → formula_code k ≤ 7
      → s ≡ record { kind = Reference; left = word n.equations.now v; right = 0 } → NodeShown (input_in n.input) numbers v s
  body_fixpoint k s e p q z =
      subst (NodeShown (input_in n.input) numbers v) (sym z)
      (shape_fixpoint (input_in n.input) n.input.good numbers v h n.equations.now n.equation_numbers (formula_code k) (kind_read k e) p q)

  pub body_reference : (k : FormulaKind) (o : ℕ) → formula_code k ≡ min (kind n.input.formula.now v) 8 → formula_code k ≡ 8
      → o ≡ operand n.input.formula.now v → InBody k (word n.equations.now o) 0
  body_reference k o e z i =
      shown_as k (word n.equations.now o) z
      (shape_reference (input_in n.input) n.input.good numbers v h n.equations.now n.equation_numbers (formula_code k) o (kind_read k e)
      (omega arith) i)
