-- Regular tables that are not refused: every tree is finished, a node's tree is made of its children's trees, and what
-- holds of the operand of every action formula holds of every leaf. Assumes nothing.
use mathlib.Core.Path.{◌≡◌, refl, sym, ap, ap₂, ◌∙◌, subst}
use mathlib.Core.Bool.{false, not, ◌||◌}
use mathlib.Core.List.{List}
use mathlib.Core.Option.{some}
use Prim.Native.Nat.{ℕ, zero, suc, ◌+◌, ◌*◌, ◌-◌, ◌≤◌, ◌<◌}
use native.Mathlib.Omega.{arith}
use native.Mathlib.Decide.{dec_lt}
use lib.ListN.{length}
use lib.Dec.{eqb, ltb}
use borrow.Author.Tests.{ltb-false, not-false, not-true}
use Rattle.rules.specs.Lists.{every}
use Rattle.rules.specs.Words.{most_nodes}
use Rattle.rules.specs.Table.{size, kind, operand, Shape, tree_end, is_not_end, on_row}
use Rattle.rules.specs.Table.{no_regular_node, decode_regular, regular_node, regular_shape, regular_children}
use Rattle.rules.specs.Refusal.{differ, wrong_operand, names_no_tree}
use Rattle.lists.proofs.Tests.{or-false}
use Rattle.lists.proofs.Tallies.{every-at}
use Rattle.tables.proofs.Choices.{differ_false}
use Rattle.tables.proofs.Accepted.{is-end}
use Rattle.tables.proofs.Decode.{regular_kinds, regular_at, regular_of_kind, regular_leaf, regular_two, regular_one}
use Rattle.tables.proofs.Decode.{regular_children_two, regular_children_one}
use Rattle.tables.proofs.Finished.{row_inside, only_child, two_children}
use Rattle.regular_rules.specs.Regular.{Regular, action, sequence, choice, star, plus, regular_of, regular_to, regular_tree}
use Rattle.regular_rules.specs.Regular.{RegularTreeEquation}
use Rattle.regular_rules.specs.Refusals.{bad_regular_operand, malformed}
use Rattle.regular_rules.specs.Good.{GoodRegularNode, GoodRegulars}
use Rattle.regular_rules.specs.Accepts.{Leaves}

-- ---- the tests of operands, one law for each rule

module _ (acts regs : List ℕ) (v : ℕ) (h : v < size regs) where
  regular_judged : (s : Shape) → regular_shape (regular_node regs v) ≡ s
      → bad_regular_operand acts regs v
      ≡ wrong_operand (names_no_tree acts) (operand regs v) (tree_end (regular_children regs) (size regs) (suc v)) s.rule
  unfolding bad_regular_operand
  regular_judged s e =
      ap (λ t. wrong_operand (names_no_tree acts) (operand regs v) (tree_end (regular_children regs) (size regs) (suc v)) t.rule) e

  pub regular_names : kind regs v ≡ 0 → bad_regular_operand acts regs v ≡ names_no_tree acts (operand regs v)
  unfolding wrong_operand
  regular_names e = regular_judged _ (regular_leaf regs v h e)

  pub regular_right : 1 ≤ kind regs v → kind regs v ≤ 2
      → bad_regular_operand acts regs v ≡ is_not_end (operand regs v) (tree_end (regular_children regs) (size regs) (suc v))
  unfolding wrong_operand
  regular_right a b = regular_judged _ (regular_two regs v h a b)

  pub regular_zero : 3 ≤ kind regs v → kind regs v ≤ 4 → bad_regular_operand acts regs v ≡ differ (operand regs v) 0
  unfolding wrong_operand
  regular_zero a b = regular_judged _ (regular_one regs v h a b)

-- ---- a table that is not malformed

module _ (acts regs : List ℕ) (fine : malformed acts regs ≡ false) where
  pub fine_parts : ((eqb (length regs) 0 || differ (length regs) (1 + 2 * size regs)) ≡ false) × (ltb most_nodes (size regs) ≡ false)
      × (not (every (λ v. not (ltb 4 (kind regs v) || bad_regular_operand acts regs v)) 0 (size regs)) ≡ false)
      × (not (on_row (regular_children regs) (size regs) (size regs)) ≡ false)
  unfolding malformed
  fine_parts =
      let (a, b) = or-false (eqb (length regs) 0 || differ (length regs) (1 + 2 * size regs)) _ fine in
      let (c, d) = or-false (ltb most_nodes (size regs)) _ b in
      let (e, f) = or-false (not (every (λ v. not (ltb 4 (kind regs v) || bad_regular_operand acts regs v)) 0 (size regs))) _ d in
      (a, c, e, f)

  module _ (v : ℕ) (h : v < size regs) where
    pub fine_node : (ltb 4 (kind regs v) ≡ false) × (bad_regular_operand acts regs v ≡ false)
    fine_node =
        or-false (ltb 4 (kind regs v)) (bad_regular_operand acts regs v)
        (not-true (ltb 4 (kind regs v) || bad_regular_operand acts regs v)
        (every-at (λ u. not (ltb 4 (kind regs u) || bad_regular_operand acts regs u)) 0 (size regs)
        (not-false (every (λ u. not (ltb 4 (kind regs u) || bad_regular_operand acts regs u)) 0 (size regs)) fine_parts.2) v (omega arith) (omega arith)))

    -- every tree is finished
    finished : (e : ℕ) × (tree_end (regular_children regs) (size regs) v ≡ some e) × (e ≤ size regs)
    finished =
        row_inside (regular_children regs) (size regs) (size regs) v
        (not-false (on_row (regular_children regs) (size regs) (size regs)) fine_parts.3) h

    right : 1 ≤ kind regs v → kind regs v ≤ 2 → (suc v < operand regs v) × (operand regs v < size regs)
    right a b =
        let (e, f, g) = finished in
        let (x, i, j, k, l) = two_children (regular_children regs) (size regs) v e f (regular_children_two regs v h a b) in
        let q : operand regs v ≡ x = is-end (operand regs v) _ x i (sym (regular_right acts regs v h a b) ∙ fine_node.1) in
        (omega arith, omega arith)

    next : 1 ≤ kind regs v → kind regs v ≤ 4 → Dec (kind regs v < 3) → suc v < size regs
    next a b (yes l) = let (p, q) = right a (omega arith) in omega arith
    next a b (no l) =
        let (e, f, g) = finished in
        only_child (regular_children regs) (size regs) v e f (regular_children_one regs v h (omega arith) b)

    good_node : GoodRegularNode regs v
    good_node =
        let k : kind regs v ≤ 4 = ltb-false 4 (kind regs v) fine_node.0 in
        record { known = k; next = λ a. next a k (dec_lt (kind regs v) 3); right = right }

    -- an action formula names one of the row's trees
    pub leaf_named : kind regs v ≡ 0 → names_no_tree acts (operand regs v) ≡ false
    leaf_named e = sym (regular_names acts regs v h e) ∙ fine_node.1

  pub good_regulars : GoodRegulars regs
  good_regulars =
      record {
        sized = differ_false (length regs) (1 + 2 * size regs)
            (or-false (eqb (length regs) 0) (differ (length regs) (1 + 2 * size regs)) fine_parts.0).1;
        few = ltb-false most_nodes (size regs) fine_parts.1;
        nodes = good_node;
      }

-- ---- trees

-- only the trees of the children that a kind has matter
regular_of_same : (t u : ℕ → Regular) (v o k : ℕ) → (1 ≤ k → t (suc v) ≡ u (suc v)) → (1 ≤ k → k ≤ 2 → t o ≡ u o)
    → regular_of t v (decode_regular k o) ≡ regular_of u v (decode_regular k o)
unfolding regular_of
regular_of_same t u v o =
    regular_kinds o (λ k n. (1 ≤ k → t (suc v) ≡ u (suc v)) → (1 ≤ k → k ≤ 2 → t o ≡ u o) → regular_of t v n ≡ regular_of u v n)
    (λ p q. refl)
    (λ p q. ap₂ sequence (p (omega arith)) (q (omega arith) (omega arith)))
    (λ p q. ap₂ choice (p (omega arith)) (q (omega arith) (omega arith)))
    (λ p q. ap star (p (omega arith)))
    (λ p q. ap plus (p (omega arith)))
    (λ k l p q. refl)

module _ (regs : List ℕ) (good : GoodRegulars regs) where
  regular_depth : (d e v : ℕ) → v < size regs → size regs - v ≤ d → size regs - v ≤ e → regular_to d regs v ≡ regular_to e regs v
  unfolding regular_to
  regular_depth zero e v h a b = absurd (omega arith)
  regular_depth (suc d) zero v h a b = absurd (omega arith)
  regular_depth (suc d) (suc e) v h a b =
      let n = good.nodes v h in
      rw (regular_at regs v h)
      (regular_of_same (λ u. regular_to d regs u) (λ u. regular_to e regs u) v (operand regs v) (kind regs v)
      (λ p. regular_depth d e (suc v) (n.next p) (omega arith) (omega arith))
      (λ p q. let r = n.right p q in regular_depth d e (operand regs v) r.1 (omega arith) (omega arith)))

  module _ (v : ℕ) (h : v < size regs) where
    -- a node's tree is made of the trees of its children
    pub regular-tree : RegularTreeEquation regs v
    unfolding regular_tree regular_to
    regular-tree = regular_depth (size regs) (suc (size regs)) v h (omega arith) (omega arith)

    tree_of_kind : (k : ℕ) → kind regs v ≡ k → regular_tree regs v ≡ regular_of (regular_tree regs) v (decode_regular k (operand regs v))
    tree_of_kind k e = regular-tree ∙ ap (regular_of (regular_tree regs) v) (regular_of_kind regs v h k e)

    pub action_tree : kind regs v ≡ 0 → regular_tree regs v ≡ action (operand regs v)
    unfolding regular_of decode_regular
    action_tree e = tree_of_kind 0 e

    pub sequence_tree : kind regs v ≡ 1 → regular_tree regs v ≡ sequence (regular_tree regs (suc v)) (regular_tree regs (operand regs v))
    unfolding regular_of decode_regular
    sequence_tree e = tree_of_kind 1 e

    pub choice_tree : kind regs v ≡ 2 → regular_tree regs v ≡ choice (regular_tree regs (suc v)) (regular_tree regs (operand regs v))
    unfolding regular_of decode_regular
    choice_tree e = tree_of_kind 2 e

    pub star_tree : kind regs v ≡ 3 → regular_tree regs v ≡ star (regular_tree regs (suc v))
    unfolding regular_of decode_regular
    star_tree e = tree_of_kind 3 e

    pub plus_tree : kind regs v ≡ 4 → regular_tree regs v ≡ plus (regular_tree regs (suc v))
    unfolding regular_of decode_regular
    plus_tree e = tree_of_kind 4 e

    -- the node is of one of the five kinds
    pub regulars_known : ¬ (regular_node regs v ≡ no_regular_node)
    regulars_known e =
        regular_kinds (operand regs v) (λ k n. k ≤ 4 → n ≡ no_regular_node → ⊥)
        (λ l i. cc)
        (λ l i. cc)
        (λ l i. cc)
        (λ l i. cc)
        (λ l i. cc)
        (λ k g l i. omega arith) (kind regs v) (good.nodes v h).known (sym (regular_at regs v h) ∙ e)

  -- ---- leaves

  module _ (fit : ℕ → Type 0) (leaf : (v : ℕ) → v < size regs → kind regs v ≡ 0 → fit (operand regs v)) where
    leaves_to : (d v : ℕ) → v < size regs → size regs - v ≤ d → Leaves fit (regular_tree regs v)
    leaves_to zero v h l = absurd (omega arith)
    leaves_to (suc d) v h l = go (leaves_to d) (kind regs v) refl
      where
        n : GoodRegularNode regs v
        n = good.nodes v h

        Later : Type 0
        Later = (u : ℕ) → u < size regs → size regs - u ≤ d → Leaves fit (regular_tree regs u)

        left : Later → 1 ≤ kind regs v → Leaves fit (regular_tree regs (suc v))
        left later a = later (suc v) (n.next a) (omega arith)

        right_leaves : Later → 1 ≤ kind regs v → kind regs v ≤ 2 → Leaves fit (regular_tree regs (operand regs v))
        right_leaves later a b = let r = n.right a b in later (operand regs v) r.1 (omega arith)

        go : Later → (k : ℕ) → kind regs v ≡ k → Leaves fit (regular_tree regs v)
        go later =
            regular_kinds 0 (λ k m. kind regs v ≡ k → Leaves fit (regular_tree regs v))
            (λ e. subst (Leaves fit) (sym (action_tree v h e)) (leaf v h e))
            (λ e. subst (Leaves fit) (sym (sequence_tree v h e)) (left later (omega arith), right_leaves later (omega arith) (omega arith)))
            (λ e. subst (Leaves fit) (sym (choice_tree v h e)) (left later (omega arith), right_leaves later (omega arith) (omega arith)))
            (λ e. subst (Leaves fit) (sym (star_tree v h e)) (left later (omega arith)))
            (λ e. subst (Leaves fit) (sym (plus_tree v h e)) (left later (omega arith)))
            (λ k g e. let l = n.known in absurd (omega arith))

    pub regular_leaves : (v : ℕ) → v < size regs → Leaves fit (regular_tree regs v)
    regular_leaves v h = leaves_to (size regs) v h (omega arith)
