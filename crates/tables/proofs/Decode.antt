-- Nodes by their kinds: how many children a node has and what its operand is, which nodes are fixpoints, and which
-- are references. Assumes nothing.
use Prim.Native.Nat.{ℕ, zero, suc, ◌≤◌, ◌<◌}
use native.Mathlib.Omega.{arith}
use native.Mathlib.Decide.{dec_lt, ℕ_discrete}
use mathlib.Core.Path.{◌≡◌, refl, sym, ap, ◌∙◌}
use mathlib.Core.Bool.{true, false, cond, ◌&&◌, true≢false}
use mathlib.Core.List.{List, [], ◌∷◌}
use mathlib.Core.Option.{none, some}
use lib.ListN.{length, get_or}
use lib.Dec.{eqb, ltb, leb}
use borrow.Author.Tests.{lt-ltb, le-ltb, lt-leb, le-leb, leb-true, eq-eqb, ne_eqb}
use Rattle.rules.specs.Table.{size, kind, operand, zero_operand, right_child, outside_name, not_judged, Shape}
use Rattle.rules.specs.Table.{ActionNode, true_node, false_node, multi_action_node, union_node, intersection_node}
use Rattle.rules.specs.Table.{negation_node, no_action_node}
use Rattle.rules.specs.Table.{decode_action, action_node, action_shape, action_children}
use Rattle.rules.specs.Table.{RegularNode, action_formula_node, sequence_node, choice_node, star_node, plus_node}
use Rattle.rules.specs.Table.{no_regular_node, decode_regular, regular_node, regular_shape, regular_children}
use Rattle.rules.specs.Table.{FormulaNode, truth_node, falsity_node, and_node, or_node, box_node, diamond_node, least_node}
use Rattle.rules.specs.Table.{greatest_node}
use Rattle.rules.specs.Table.{reference_node, no_formula_node, decode_formula, formula_node, formula_shape, formula_children}
use Rattle.rules.specs.Table.{fixpoint_of, reference_of}
use Rattle.rules.specs.Formula.{is_fixpoint}
use Rattle.lists.proofs.Tests.{and-true, and-false}

-- ---- laws that all tables share

-- what holds of each place with what the list has there
abbrev AllAt : {A : Type 0} → (ℕ → A → Type 0) → List A → Type 0
AllAt P [] = Unit {0}
AllAt P (x ∷ xs) = P 0 x × AllAt (λ i. P (suc i)) xs

-- it holds at every number, with what is read from the list there, if it holds past the list with the default
each_read : {A : Type 0} (d : A) (P : ℕ → A → Type 0) (xs : List A) → AllAt P xs → ((k : ℕ) → length xs ≤ k → P k d)
    → (k : ℕ) → P k (get_or xs k d)
each_read d P [] ps past zero = past 0 (omega arith)
each_read d P [] ps past (suc k) = past (suc k) (omega arith)
each_read d P (x ∷ xs) ps past zero = ps.0
each_read d P (x ∷ xs) ps past (suc k) =
    each_read d (λ i. P (suc i)) xs ps.1 (λ i l. past (suc i) (omega arith)) k

-- a shape by four ranges of kinds, one after the other; the operand of a kind past them is not judged
abbrev ranged : (a b c d : ℕ) (p q r s : Shape) → ℕ → Shape
ranged a b c d p q r s k =
    cond (ltb k a) p (cond (ltb k b) q (cond (ltb k c) r (cond (ltb k d) s (record { children = 0; rule = not_judged }))))

module _ (a b c d : ℕ) (p q r s : Shape) (k : ℕ) where
  range_1 : k < a → ranged a b c d p q r s k ≡ p
  range_1 h = rw (lt-ltb k a h)

  range_2 : a ≤ k → k < b → ranged a b c d p q r s k ≡ q
  range_2 h l = rw (le-ltb k a h, lt-ltb k b l)

  range_3 : a ≤ b → b ≤ k → k < c → ranged a b c d p q r s k ≡ r
  range_3 i h l = rw (le-ltb k a (omega arith), le-ltb k b h, lt-ltb k c l)

  range_4 : a ≤ b → b ≤ c → c ≤ k → k < d → ranged a b c d p q r s k ≡ s
  range_4 i j h l = rw (le-ltb k a (omega arith), le-ltb k b (omega arith), le-ltb k c h, lt-ltb k d l)

  range_past : a ≤ b → b ≤ c → c ≤ d → d ≤ k → ranged a b c d p q r s k ≡ record { children = 0; rule = not_judged }
  range_past i j m h =
      rw (le-ltb k a (omega arith), le-ltb k b (omega arith), le-ltb k c (omega arith), le-ltb k d h)

-- ---- action formulas

-- what holds of each kind with its node, and of all others with none, holds of every kind with the node that is
-- decoded from it
pub action_kinds : (o : ℕ) (P : ℕ → ActionNode → Type 0)
    → P 0 true_node → P 1 false_node → P 2 (multi_action_node o) → P 3 (union_node o) → P 4 (intersection_node o)
    → P 5 negation_node
    → ((k : ℕ) → 6 ≤ k → P k no_action_node) → (k : ℕ) → P k (decode_action k o)
unfolding decode_action
action_kinds o P a b c d e f past =
    each_read no_action_node P
    (true_node ∷ false_node ∷ multi_action_node o ∷ union_node o ∷ intersection_node o ∷ negation_node ∷ [])
    (a, (b, (c, (d, (e, (f, tt)))))) past

-- the shape of a node, by ranges of its kind
abbrev pub action_kind_shape : ℕ → Shape
action_kind_shape =
    ranged 2 3 5 6 (record { children = 0; rule = zero_operand }) (record { children = 0; rule = outside_name })
    (record { children = 2; rule = right_child }) (record { children = 1; rule = zero_operand })

action-kind-shape : (o k : ℕ) → action_shape (decode_action k o) ≡ action_kind_shape k
unfolding action_shape
action-kind-shape o =
    action_kinds o (λ k n. action_shape n ≡ action_kind_shape k) refl refl refl refl refl refl
    (λ k h. sym (range_past 2 3 5 6 _ _ _ _ k (omega arith) (omega arith) (omega arith) h))

module _ (acts : List ℕ) (v : ℕ) where
  pub action-at : v < size acts → action_node acts v ≡ decode_action (kind acts v) (operand acts v)
  unfolding action_node
  action-at h = rw (lt-ltb v (size acts) h)

  pub action_past : size acts ≤ v → action_node acts v ≡ no_action_node
  unfolding action_node
  action_past h = rw (le-ltb v (size acts) h)

  module _ (h : v < size acts) where
    pub action_of_kind : (k : ℕ) → kind acts v ≡ k → action_node acts v ≡ decode_action k (operand acts v)
    action_of_kind k e = action-at h ∙ ap (λ i. decode_action i (operand acts v)) e

    pub action-shape : action_shape (action_node acts v) ≡ action_kind_shape (kind acts v)
    action-shape = ap action_shape (action-at h) ∙ action-kind-shape (operand acts v) (kind acts v)

    pub action_constant : kind acts v ≤ 1 → action_shape (action_node acts v)
        ≡ record { children = 0; rule = zero_operand }
    action_constant l = action-shape ∙ range_1 2 3 5 6 _ _ _ _ (kind acts v) (omega arith)

    pub action_multi : kind acts v ≡ 2 → action_shape (action_node acts v) ≡ record { children = 0; rule = outside_name }
    action_multi e = action-shape ∙ rw e

    pub action_two : 3 ≤ kind acts v → kind acts v ≤ 4 → action_shape (action_node acts v)
        ≡ record { children = 2; rule = right_child }
    action_two a b = action-shape ∙ range_3 2 3 5 6 _ _ _ _ (kind acts v) (omega arith) a (omega arith)

    pub action_negation : kind acts v ≡ 5 → action_shape (action_node acts v)
        ≡ record { children = 1; rule = zero_operand }
    action_negation e = action-shape ∙ rw e

    pub action_unknown : 6 ≤ kind acts v → action_shape (action_node acts v) ≡ record { children = 0; rule = not_judged }
    action_unknown l =
        action-shape ∙ range_past 2 3 5 6 _ _ _ _ (kind acts v) (omega arith) (omega arith) (omega arith) l

    -- how many children, by ranges of the kind
    pub action_children_none : kind acts v ≤ 2 → action_children acts v ≡ 0
    action_children_none l = go (ℕ_discrete (kind acts v) 2)
      where
        go : Dec (kind acts v ≡ 2) → action_children acts v ≡ 0
        go (yes e) = ap (λ s. s.children) (action_multi e)
        go (no d) = ap (λ s. s.children) (action_constant (omega arith))

    pub action_children_two : 3 ≤ kind acts v → kind acts v ≤ 4 → action_children acts v ≡ 2
    action_children_two a b = ap (λ s. s.children) (action_two a b)

    pub action_children_one : kind acts v ≡ 5 → action_children acts v ≡ 1
    action_children_one e = ap (λ s. s.children) (action_negation e)

    pub action_children_unknown : 6 ≤ kind acts v → action_children acts v ≡ 0
    action_children_unknown l = ap (λ s. s.children) (action_unknown l)

-- ---- regular formulas

pub regular_kinds : (o : ℕ) (P : ℕ → RegularNode → Type 0)
    → P 0 (action_formula_node o) → P 1 (sequence_node o) → P 2 (choice_node o) → P 3 star_node → P 4 plus_node
    → ((k : ℕ) → 5 ≤ k → P k no_regular_node) → (k : ℕ) → P k (decode_regular k o)
unfolding decode_regular
regular_kinds o P a b c d e past =
    each_read no_regular_node P (action_formula_node o ∷ sequence_node o ∷ choice_node o ∷ star_node ∷ plus_node ∷ [])
    (a, (b, (c, (d, (e, tt))))) past

abbrev regular_kind_shape : ℕ → Shape
regular_kind_shape =
    ranged 1 3 5 5 (record { children = 0; rule = outside_name }) (record { children = 2; rule = right_child })
    (record { children = 1; rule = zero_operand }) (record { children = 0; rule = not_judged })

regular-kind-shape : (o k : ℕ) → regular_shape (decode_regular k o) ≡ regular_kind_shape k
unfolding regular_shape
regular-kind-shape o =
    regular_kinds o (λ k n. regular_shape n ≡ regular_kind_shape k) refl refl refl refl refl
    (λ k h. sym (range_past 1 3 5 5 _ _ _ _ k (omega arith) (omega arith) (omega arith) h))

module _ (regs : List ℕ) (v : ℕ) where
  pub regular_at : v < size regs → regular_node regs v ≡ decode_regular (kind regs v) (operand regs v)
  unfolding regular_node
  regular_at h = rw (lt-ltb v (size regs) h)

  module _ (h : v < size regs) where
    pub regular_of_kind : (k : ℕ) → kind regs v ≡ k → regular_node regs v ≡ decode_regular k (operand regs v)
    regular_of_kind k e = regular_at h ∙ ap (λ i. decode_regular i (operand regs v)) e

    regular-shape : regular_shape (regular_node regs v) ≡ regular_kind_shape (kind regs v)
    regular-shape = ap regular_shape (regular_at h) ∙ regular-kind-shape (operand regs v) (kind regs v)

    pub regular_leaf : kind regs v ≡ 0 → regular_shape (regular_node regs v) ≡ record { children = 0; rule = outside_name }
    regular_leaf e = regular-shape ∙ rw e

    pub regular_two : 1 ≤ kind regs v → kind regs v ≤ 2 → regular_shape (regular_node regs v)
        ≡ record { children = 2; rule = right_child }
    regular_two a b = regular-shape ∙ range_2 1 3 5 5 _ _ _ _ (kind regs v) a (omega arith)

    pub regular_one : 3 ≤ kind regs v → kind regs v ≤ 4 → regular_shape (regular_node regs v)
        ≡ record { children = 1; rule = zero_operand }
    regular_one a b = regular-shape ∙ range_3 1 3 5 5 _ _ _ _ (kind regs v) (omega arith) a (omega arith)

    pub regular_unknown : 5 ≤ kind regs v → regular_shape (regular_node regs v) ≡ record { children = 0; rule = not_judged }
    regular_unknown l =
        regular-shape ∙ range_past 1 3 5 5 _ _ _ _ (kind regs v) (omega arith) (omega arith) (omega arith) l

    -- how many children, by ranges of the kind
    pub regular_children_two : 1 ≤ kind regs v → kind regs v ≤ 2 → regular_children regs v ≡ 2
    regular_children_two a b = ap (λ s. s.children) (regular_two a b)

    pub regular_children_one : 3 ≤ kind regs v → kind regs v ≤ 4 → regular_children regs v ≡ 1
    regular_children_one a b = ap (λ s. s.children) (regular_one a b)

-- ---- the formula

pub formula_kinds : (o : ℕ) (P : ℕ → FormulaNode → Type 0)
    → P 0 truth_node → P 1 falsity_node → P 2 (and_node o) → P 3 (or_node o) → P 4 (box_node o) → P 5 (diamond_node o)
    → P 6 least_node → P 7 greatest_node → P 8 (reference_node o) → ((k : ℕ) → 9 ≤ k → P k no_formula_node)
    → (k : ℕ) → P k (decode_formula k o)
unfolding decode_formula
formula_kinds o P a b c d e f g h i past =
    each_read no_formula_node P
    (truth_node ∷ falsity_node ∷ and_node o ∷ or_node o ∷ box_node o ∷ diamond_node o ∷ least_node ∷ greatest_node
    ∷ reference_node o ∷ [])
    (a, (b, (c, (d, (e, (f, (g, (h, (i, tt))))))))) past

abbrev formula_kind_shape : ℕ → Shape
formula_kind_shape =
    ranged 2 4 6 8 (record { children = 0; rule = zero_operand }) (record { children = 2; rule = right_child })
    (record { children = 1; rule = outside_name }) (record { children = 1; rule = zero_operand })

formula-kind-shape : (o k : ℕ) → formula_shape (decode_formula k o) ≡ formula_kind_shape k
unfolding formula_shape
formula-kind-shape o =
    formula_kinds o (λ k n. formula_shape n ≡ formula_kind_shape k) refl refl refl refl refl refl refl refl refl
    (λ k h. sym (range_past 2 4 6 8 _ _ _ _ k (omega arith) (omega arith) (omega arith) (omega arith)))

-- a fixpoint exactly if the kind is 6 or 7
fixpoint_test : (o k : ℕ) → is_fixpoint (decode_formula k o) ≡ (leb 6 k && leb k 7)
unfolding is_fixpoint fixpoint_of
fixpoint_test o =
    formula_kinds o (λ k n. is_fixpoint n ≡ (leb 6 k && leb k 7)) refl refl refl refl refl refl refl refl refl
    (λ k h. sym (and-false (leb 6 k) (lt-leb k 7 (omega arith))))

-- a reference exactly if the kind is 8
referred : (o k : ℕ) → reference_of (decode_formula k o) ≡ cond (eqb k 8) (some o) none
unfolding reference_of
referred o =
    formula_kinds o (λ k n. reference_of n ≡ cond (eqb k 8) (some o) none) refl refl refl refl refl refl refl refl refl
    (λ k h. rw (ne_eqb k 8 (λ e. omega arith)))

module _ (f : List ℕ) (v : ℕ) where
  pub formula_at : v < size f → formula_node f v ≡ decode_formula (kind f v) (operand f v)
  unfolding formula_node
  formula_at h = rw (lt-ltb v (size f) h)

  pub formula_past : size f ≤ v → formula_node f v ≡ no_formula_node
  unfolding formula_node
  formula_past h = rw (le-ltb v (size f) h)

  module _ (h : v < size f) where
    pub formula_of_kind : (k : ℕ) → kind f v ≡ k → formula_node f v ≡ decode_formula k (operand f v)
    formula_of_kind k e = formula_at h ∙ ap (λ i. decode_formula i (operand f v)) e

    formula-shape : formula_shape (formula_node f v) ≡ formula_kind_shape (kind f v)
    formula-shape = ap formula_shape (formula_at h) ∙ formula-kind-shape (operand f v) (kind f v)

    pub formula_constant : kind f v ≤ 1 → formula_shape (formula_node f v) ≡ record { children = 0; rule = zero_operand }
    formula_constant l = formula-shape ∙ range_1 2 4 6 8 _ _ _ _ (kind f v) (omega arith)

    pub formula_two : 2 ≤ kind f v → kind f v ≤ 3 → formula_shape (formula_node f v)
        ≡ record { children = 2; rule = right_child }
    formula_two a b = formula-shape ∙ range_2 2 4 6 8 _ _ _ _ (kind f v) a (omega arith)

    pub formula_modal : 4 ≤ kind f v → kind f v ≤ 5 → formula_shape (formula_node f v)
        ≡ record { children = 1; rule = outside_name }
    formula_modal a b = formula-shape ∙ range_3 2 4 6 8 _ _ _ _ (kind f v) (omega arith) a (omega arith)

    pub fixpoint_shape : 6 ≤ kind f v → kind f v ≤ 7
        → formula_shape (formula_node f v) ≡ record { children = 1; rule = zero_operand }
    fixpoint_shape a b = formula-shape ∙ range_4 2 4 6 8 _ _ _ _ (kind f v) (omega arith) (omega arith) a (omega arith)

    pub formula_last : 8 ≤ kind f v → formula_shape (formula_node f v) ≡ record { children = 0; rule = not_judged }
    formula_last a = formula-shape ∙ range_past 2 4 6 8 _ _ _ _ (kind f v) (omega arith) (omega arith) (omega arith) a

    -- how many children, by ranges of the kind
    pub formula_children_none : kind f v ≤ 1 → formula_children f v ≡ 0
    formula_children_none l = ap (λ s. s.children) (formula_constant l)

    pub formula_children_two : 2 ≤ kind f v → kind f v ≤ 3 → formula_children f v ≡ 2
    formula_children_two a b = ap (λ s. s.children) (formula_two a b)

    pub formula_children_one : 4 ≤ kind f v → kind f v ≤ 7 → formula_children f v ≡ 1
    formula_children_one a b = go (dec_lt (kind f v) 6)
      where
        go : Dec (kind f v < 6) → formula_children f v ≡ 1
        go (yes l) = ap (λ s. s.children) (formula_modal a (omega arith))
        go (no l) = ap (λ s. s.children) (fixpoint_shape (omega arith) b)

    pub formula_children_reference : 8 ≤ kind f v → formula_children f v ≡ 0
    formula_children_reference a = ap (λ s. s.children) (formula_last a)

    -- it is a fixpoint exactly if its kind is 6 or 7
    tested : is_fixpoint (formula_node f v) ≡ (leb 6 (kind f v) && leb (kind f v) 7)
    tested = ap is_fixpoint (formula_at h) ∙ fixpoint_test (operand f v) (kind f v)

    pub fixpoint_yes : 6 ≤ kind f v → kind f v ≤ 7 → is_fixpoint (formula_node f v) ≡ true
    fixpoint_yes a b = tested ∙ rw (le-leb 6 (kind f v) a, le-leb (kind f v) 7 b)

    pub fixpoint_low : kind f v < 6 → is_fixpoint (formula_node f v) ≡ false
    fixpoint_low l = tested ∙ rw (lt-leb 6 (kind f v) l)

    pub fixpoint_high : 7 < kind f v → is_fixpoint (formula_node f v) ≡ false
    fixpoint_high l = tested ∙ and-false (leb 6 (kind f v)) (lt-leb (kind f v) 7 l)

    -- it is a reference exactly if its kind is 8
    pub reference_at : kind f v ≡ 8 → reference_of (formula_node f v) ≡ some (operand f v)
    reference_at e = ap reference_of (formula_at h) ∙ referred (operand f v) (kind f v) ∙ rw (eq-eqb (kind f v) 8 e)

    pub reference_none : (¬ (kind f v ≡ 8)) → reference_of (formula_node f v) ≡ none
    reference_none d = ap reference_of (formula_at h) ∙ referred (operand f v) (kind f v) ∙ rw (ne_eqb (kind f v) 8 d)

  pub fixpoint_past : size f ≤ v → is_fixpoint (formula_node f v) ≡ false
  unfolding is_fixpoint fixpoint_of
  fixpoint_past h = ap is_fixpoint (formula_past h)

  pub fixpoint_kind : is_fixpoint (formula_node f v) ≡ true → (v < size f) × (6 ≤ kind f v) × (kind f v ≤ 7)
  fixpoint_kind t = go (dec_lt v (size f))
    where
      go : Dec (v < size f) → (v < size f) × (6 ≤ kind f v) × (kind f v ≤ 7)
      go (yes h) =
          let (a, b) = and-true (leb 6 (kind f v)) (leb (kind f v) 7) (sym (tested h) ∙ t) in
          (h, leb-true 6 (kind f v) a, leb-true (kind f v) 7 b)
      go (no h) = absurd (true≢false (sym t ∙ fixpoint_past (omega arith)))
