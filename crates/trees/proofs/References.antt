-- The references in a body: each is to an equation, only the words of the formula matter, and one law for each kind of
-- node on the largest value over them. Assumes nothing.
use mathlib.Core.Path.{◌≡◌, refl, ap, ap₂, ◌∙◌}
use mathlib.Core.Logic.{◌⊎◌, inl, inr}
use mathlib.Core.List.{List, [], ◌∷◌, ◌++◌, map}
use Prim.Native.Nat.{ℕ, zero, suc, ◌≤◌, ◌<◌, max}
use native.Mathlib.Decide.{ℕ_discrete}
use native.Mathlib.Omega.{arith}
use Rattle.rules.specs.Lists.{largest, In}
use Rattle.rules.specs.Words.{Input}
use Rattle.rules.specs.Table.{size, kind, operand, FormulaNode, truth_node, falsity_node, and_node, or_node, box_node, diamond_node, least_node, greatest_node, reference_node, no_formula_node, decode_formula, formula_node}
use Rattle.rules.specs.Formula.{Formula, equation_number, equation_count, equation_of, formula_of, formula_to, formula_tree, body_tree}
use Rattle.rules.specs.Depth.{references}
use Rattle.tables.specs.Good.{GoodFormula}
use Rattle.tables.proofs.Decode.{formula_at, formula_kinds}
use Rattle.lists.proofs.Members.{in_either}
use Rattle.trees.proofs.FormulaTrees.{truth_tree, falsity_tree, conjunction_tree, disjunction_tree, box_tree}
use Rattle.trees.proofs.FormulaTrees.{diamond_tree}
use Rattle.trees.proofs.Fixpoints.{fixpoint_at}
use Rattle.trees.proofs.Equations.{number_below, referred_below, body_below}
use Rattle.trees.proofs.Largest.{largest-map-append}

-- ---- only the words of the formula matter

node_words : (t u : ℕ → Formula) (x y : Input) (v : ℕ) (n : FormulaNode) → x.formula ≡ y.formula → ((w : ℕ) → references (t w) ≡ references (u w))
    → references (formula_of t x v n) ≡ references (formula_of u y v n)
unfolding formula_of references
node_words t u x y v truth_node e h = refl
node_words t u x y v falsity_node e h = refl
node_words t u x y v (and_node r) e h = ap₂ ◌++◌ (h (suc v)) (h r)
node_words t u x y v (or_node r) e h = ap₂ ◌++◌ (h (suc v)) (h r)
node_words t u x y v (box_node a) e h = h (suc v)
node_words t u x y v (diamond_node a) e h = h (suc v)
node_words t u x y v least_node e h = ap (λ (f : List ℕ). equation_number f v ∷ []) e
node_words t u x y v greatest_node e h = ap (λ (f : List ℕ). equation_number f v ∷ []) e
node_words t u x y v (reference_node r) e h = ap (λ (f : List ℕ). equation_number f r ∷ []) e
node_words t u x y v no_formula_node e h = refl

references_to : (d : ℕ) (x y : Input) (v : ℕ) → x.formula ≡ y.formula → references (formula_to d x v) ≡ references (formula_to d y v)
unfolding formula_to references
references_to zero x y v e = refl
references_to (suc d) x y v e =
    node_words (λ u. formula_to d x u) (λ u. formula_to d y u) x y v (formula_node x.formula v) e (λ w. references_to d x y w e)
    ∙ ap (λ (f : List ℕ). references (formula_of (λ u. formula_to d y u) y v (formula_node f v))) e

pub references_words : (x y : Input) (v : ℕ) → x.formula ≡ y.formula → references (formula_tree x v) ≡ references (formula_tree y v)
unfolding formula_tree
references_words x y v e = references_to (size x.formula) x y v e ∙ ap (λ (f : List ℕ). references (formula_to (size f) y v)) e

-- ---- each is to an equation

both_below : (n j : ℕ) (xs ys : List ℕ) → (In j xs → j < n) → (In j ys → j < n) → In j (xs ++ ys) → j < n
both_below n j xs ys p q m = go (in_either j xs ys m)
  where
    go : In j xs ⊎ In j ys → j < n
    go (inl a) = p a
    go (inr b) = q b

one_below : (n j k : ℕ) → k < n → In j (k ∷ []) → j < n
one_below n j k h (inl e) = omega arith
one_below n j k h (inr m) = absurd m

-- at a node of kind k with operand o
node_below : (n j : ℕ) (t : ℕ → Formula) (x : Input) (v o k : ℕ)
    → (2 ≤ k → k ≤ 5 → In j (references (t (suc v))) → j < n) → (2 ≤ k → k ≤ 3 → In j (references (t o)) → j < n)
    → (6 ≤ k → k ≤ 7 → equation_number x.formula v < n) → (8 ≤ k → equation_number x.formula o < n)
    → In j (references (formula_of t x v (decode_formula k o))) → j < n
unfolding formula_of references
node_below n j t x v o =
    formula_kinds o
    (λ k y. (2 ≤ k → k ≤ 5 → In j (references (t (suc v))) → j < n) → (2 ≤ k → k ≤ 3 → In j (references (t o)) → j < n)
    → (6 ≤ k → k ≤ 7 → equation_number x.formula v < n) → (8 ≤ k → equation_number x.formula o < n)
    → In j (references (formula_of t x v y)) → j < n)
    (λ a b c d m. absurd m)
    (λ a b c d m. absurd m)
    (λ a b c d. both (a (omega arith) (omega arith)) (b (omega arith) (omega arith)))
    (λ a b c d. both (a (omega arith) (omega arith)) (b (omega arith) (omega arith)))
    (λ a b c d. a (omega arith) (omega arith))
    (λ a b c d. a (omega arith) (omega arith))
    (λ a b c d. one_below n j (equation_number x.formula v) (c (omega arith) (omega arith)))
    (λ a b c d. one_below n j (equation_number x.formula v) (c (omega arith) (omega arith)))
    (λ a b c d. one_below n j (equation_number x.formula o) (d (omega arith)))
    (λ k h a b c d m. absurd m)
  where
    both : (In j (references (t (suc v))) → j < n) → (In j (references (t o)) → j < n)
        → In j (references (t (suc v)) ++ references (t o)) → j < n
    both = both_below n j (references (t (suc v))) (references (t o))

module _ (m : ℕ) (x : Input) (good : GoodFormula m x.formula) where
  below_to : (d j v : ℕ) → v < size x.formula → In j (references (formula_to d x v)) → j < equation_count x.formula
  unfolding formula_to references
  below_to zero j v h = λ i. absurd i
  below_to (suc d) j v h =
      let n = good.nodes v h in
      rw (formula_at x.formula v h)
      (node_below (equation_count x.formula) j (λ u. formula_to d x u) x v (operand x.formula v) (kind x.formula v)
      (λ p q. below_to d j (suc v) (n.next p (omega arith)))
      (λ p q. below_to d j (operand x.formula v) (n.right p q).1)
      (λ p q. number_below x.formula v (fixpoint_at x.formula v h p q))
      (λ p. referred_below m x.formula good v h p))

  pub references_below : (j v : ℕ) → v < size x.formula → In j (references (formula_tree x v)) → j < equation_count x.formula
  unfolding formula_tree
  references_below j v h i = below_to (size x.formula) j v h i

  -- the same in the body of an equation
  pub body_references_below : (j i : ℕ) → i < equation_count x.formula → In j (references (body_tree x (equation_of x.formula i))) → j < equation_count x.formula
  unfolding body_tree
  body_references_below j i h r = references_below j (equation_of x.formula i).body (body_below m x.formula good i h) r

  -- ---- the largest value of g over the references, by kinds

  module _ (g : ℕ → ℕ) (v : ℕ) (h : v < size x.formula) where
    pub leaf_largest : kind x.formula v ≤ 1 → largest (map g (references (formula_tree x v))) ≡ 0
    unfolding references largest
    leaf_largest p = go (ℕ_discrete (kind x.formula v) 0)
      where
        go : Dec (kind x.formula v ≡ 0) → largest (map g (references (formula_tree x v))) ≡ 0
        go (yes e) = rw (truth_tree m x good v h e)
        go (no d) = let e : kind x.formula v ≡ 1 = omega arith in rw (falsity_tree m x good v h e)

    pub two_largest : 2 ≤ kind x.formula v → kind x.formula v ≤ 3
        → largest (map g (references (formula_tree x v)))
        ≡ max (largest (map g (references (formula_tree x (suc v))))) (largest (map g (references (formula_tree x (operand x.formula v)))))
    unfolding references
    two_largest p q = go (ℕ_discrete (kind x.formula v) 2)
      where
        both : largest (map g (references (formula_tree x (suc v)) ++ references (formula_tree x (operand x.formula v))))
            ≡ max (largest (map g (references (formula_tree x (suc v))))) (largest (map g (references (formula_tree x (operand x.formula v)))))
        both = largest-map-append g (references (formula_tree x (suc v))) (references (formula_tree x (operand x.formula v)))

        go : Dec (kind x.formula v ≡ 2) → largest (map g (references (formula_tree x v)))
            ≡ max (largest (map g (references (formula_tree x (suc v))))) (largest (map g (references (formula_tree x (operand x.formula v)))))
        go (yes e) = ap (λ (b : Formula). largest (map g (references b))) (conjunction_tree m x good v h e) ∙ both
        go (no d) = ap (λ (b : Formula). largest (map g (references b))) (disjunction_tree m x good v h (omega arith)) ∙ both

    pub one-largest : 4 ≤ kind x.formula v → kind x.formula v ≤ 5
        → largest (map g (references (formula_tree x v))) ≡ largest (map g (references (formula_tree x (suc v))))
    unfolding references
    one-largest p q = go (ℕ_discrete (kind x.formula v) 4)
      where
        go : Dec (kind x.formula v ≡ 4) → largest (map g (references (formula_tree x v))) ≡ largest (map g (references (formula_tree x (suc v))))
        go (yes e) = ap (λ (b : Formula). largest (map g (references b))) (box_tree m x good v h e)
        go (no d) = ap (λ (b : Formula). largest (map g (references b))) (diamond_tree m x good v h (omega arith))
