-- What holds of an input that is not refused: the words are as the functions that read them ask. Assumes nothing.
use Prim.Native.Nat.{ℕ, zero, suc, ◌+◌, ◌*◌, ◌-◌, ◌≤◌, ◌<◌}
use native.Mathlib.Omega.{arith}
use native.Mathlib.Decide.{dec_lt, ℕ_discrete}
use mathlib.Core.Path.{◌≡◌, refl, sym, ap, ◌∙◌}
use mathlib.Core.Bool.{true, false, not, ◌&&◌}
use mathlib.Core.List.{List}
use mathlib.Core.Option.{Option, none, some}
use lib.ListN.{length}
use lib.Dec.{eqb, ltb, leb}
use borrow.Author.Tests.{ltb-true, ltb-false, leb-false, eqb-true, not-false, lt-ltb}
use Rattle.std.specs.declared.result.Result.TheVariants.{Ok}
use Rattle.rules.specs.Lists.{word, sum_words}
use Rattle.rules.specs.declared.Room.{Room}
use Rattle.rules.specs.Words.{Input, most_labels, most_actions, game_length, work_length}
use Rattle.rules.specs.Answers.{fault_if}
use Rattle.rules.specs.Labels.{label_count, action_count, label_at}
use Rattle.rules.specs.System.{state_count, transition_count, initial_state, transition_label, transition_target}
use Rattle.rules.specs.Table.{size, kind, operand, action_children, formula_node, formula_children, reference_of, tree_end}
use Rattle.rules.specs.Table.{is_not_end, is_before_end, on_row}
use Rattle.rules.specs.Formula.{is_fixpoint}
use Rattle.rules.specs.Refusal.{outside, differ, fault_from, bad_label, too_large, bad_action_operand, names_no_root, bad_formula_operand, wrong_end, encloses, wrong_reference}
use Rattle.rules.specs.Refusal.{refusal1, refusal2, refusal11, refusal12, refusal13, refusal21, refusal22, refusal23, refusal24, refusal25, refusal26, refusal31, refusal32, refusal33, refusal34}
use Rattle.rules.specs.Refusal.{refusal41, refusal42, refusal43, refusal44, refusal45, input_refusal, refusal}
use Rattle.tables.specs.Good.{GoodLabels, GoodSystem, GoodActionNode, GoodActions, GoodFormulaNode, GoodFormula, GoodInput}
use Rattle.tables.proofs.Faults.{passed_not_fault, if_passed, from_passed, first_passed, lower_both}
use Rattle.tables.proofs.Ends.{end_bounds}
use Rattle.tables.proofs.Decode.{action_children_two, action_children_one, formula_children_two, formula_children_one}
use Rattle.tables.proofs.Operands.{action_label, action_right, formula_right, formula_action, reference_test}
use Rattle.tables.proofs.Finished.{row_inside, tree_inside, only_child, two_children}
use Rattle.lists.proofs.Tests.{or-false, and-true}
use Rattle.tables.proofs.Choices.{differ_false, outside_false}

-- ---- labels

module _ (ls : List ℕ) (r11 : refusal11 ls ≡ Ok tt) (r12 : refusal12 ls ≡ Ok tt) (r13 : refusal13 ls ≡ Ok tt) where
  label_sized : length ls ≡ 2 + 2 * action_count ls
  unfolding refusal11
  label_sized = differ_false (length ls) (2 + 2 * action_count ls) (or-false (ltb (length ls) 2) (differ (length ls) (2 + 2 * action_count ls)) (if_passed 11 0 _ r11)).1

  label_limits : (label_count ls ≤ 4_096) × (action_count ls ≤ 16_384)
  unfolding refusal12
  label_limits =
      let (a, b) = or-false (ltb most_labels (label_count ls)) (ltb most_actions (action_count ls)) (if_passed 12 0 _ r12) in
      (ltb-false 4_096 (label_count ls) a, ltb-false 16_384 (action_count ls) b)

  label_word : (w : ℕ) → 2 ≤ w → w < 2 + action_count ls → (word ls w < label_count ls) × (2 < w → word ls (w - 1) ≤ word ls w)
  unfolding refusal13 bad_label
  label_word w a b =
      let (p, q) = or-false (leb (label_count ls) (word ls w)) (ltb 2 w && ltb (word ls w) (word ls (w - 1))) (from_passed 13 2 (2 + action_count ls) (bad_label ls) r13 w a b) in
      (leb-false (label_count ls) (word ls w) p, λ l. ltb-false (word ls w) (word ls (w - 1)) (sym (ap (λ t. t && ltb (word ls w) (word ls (w - 1))) (lt-ltb 2 w l)) ∙ q))

  label_step : (p : ℕ) → suc p < action_count ls → label_at ls p ≤ label_at ls (suc p)
  label_step p l =
      let (a, b) = label_word (2 + suc p) (omega arith) (omega arith) in
      let i : 2 + suc p - 1 ≡ 2 + p = omega arith in
      rw i at (b (omega arith))

  label_order : (p q : ℕ) → p ≤ q → q < action_count ls → label_at ls p ≤ label_at ls q
  label_order p zero a b = let e : p ≡ 0 = omega arith in rw e (omega arith)
  label_order p (suc q) a b = go (label_order p q) (ℕ_discrete p (suc q))
    where
      go : (p ≤ q → q < action_count ls → label_at ls p ≤ label_at ls q) → Dec (p ≡ suc q) → label_at ls p ≤ label_at ls (suc q)
      go before (yes e) = rw e (omega arith)
      go before (no d) =
          let x = before (omega arith) (omega arith) in
          let y = label_step q b in
          omega arith

  pub good_labels : GoodLabels ls
  good_labels =
      record {
        sized = label_sized;
        few = label_limits.0;
        small = label_limits.1;
        below = λ p l. (label_word (2 + p) (omega arith) (omega arith)).0;
        order = label_order;
      }

-- ---- the system

pub good_system : (ls ss : List ℕ) → refusal21 ss ≡ Ok tt → refusal22 ss ≡ Ok tt → refusal23 ss ≡ Ok tt → refusal24 ss ≡ Ok tt → refusal25 ls ss ≡ Ok tt → refusal26 ss ≡ Ok tt
    → GoodSystem (label_count ls) ss
unfolding refusal21 refusal22 refusal23 refusal24 refusal25 refusal26 too_large
good_system ls ss r21 r22 r23 r24 r25 r26 =
    let (a, b) = or-false (outside 1 65_535 (state_count ss)) (ltb 262_144 (transition_count ss)) (if_passed 22 0 _ r22) in
    let (c, d) = outside_false 1 65_535 (state_count ss) a in
    record {
      sized = differ_false (length ss) (3 + state_count ss + 2 * transition_count ss)
          (or-false (ltb (length ss) 3) (differ (length ss) (3 + state_count ss + 2 * transition_count ss)) (if_passed 21 0 _ r21)).1;
      some = c;
      states = d;
      moves = ltb-false 262_144 (transition_count ss) b;
      initial = leb-false (state_count ss) (initial_state ss) (if_passed 23 2 _ r23);
      total = differ_false (sum_words ss 3 (state_count ss)) (transition_count ss) (if_passed 24 1 _ r24);
      labels = λ t l.
          leb-false (label_count ls) (transition_label ss t)
          (from_passed 25 (3 + state_count ss) (3 + state_count ss + transition_count ss) (too_large ss (label_count ls)) r25 (3 + state_count ss + t) (omega arith) (omega arith));
      targets = λ t l.
          leb-false (state_count ss) (transition_target ss t)
          (from_passed 26 (3 + state_count ss + transition_count ss) (3 + state_count ss + 2 * transition_count ss) (too_large ss (state_count ss)) r26
          (3 + state_count ss + transition_count ss + t) (omega arith) (omega arith));
    }

-- ---- right children: the operand is the end of the first child's tree

pub is-end : (r : ℕ) (o : Option ℕ) (x : ℕ) → o ≡ some x → is_not_end r o ≡ false → r ≡ x
unfolding is_not_end
is-end r o x e h = eqb-true r x (not-false (eqb r x) (ap (is_not_end r) (sym e) ∙ h))

-- ---- action formulas

module _ (ls acts : List ℕ) (r33 : refusal33 acts ≡ Ok tt) (r34 : refusal34 ls acts ≡ Ok tt) where
  pub actions_known : (v : ℕ) → v < size acts → kind acts v ≤ 5
  unfolding refusal33
  actions_known v h = ltb-false 5 (kind acts v) (from_passed 33 0 (size acts) (λ u. ltb 5 (kind acts u)) r33 v (omega arith) h)

  actions_operand : (v : ℕ) → v < size acts → bad_action_operand ls acts v ≡ false
  unfolding refusal34
  actions_operand v h =
      let (a, b) = lower_both (fault_from 34 0 (size acts) (bad_action_operand ls acts)) (fault_if 34 (size acts) (not (on_row (action_children acts) (size acts) (size acts)))) r34 in
      from_passed 34 0 (size acts) (bad_action_operand ls acts) a v (omega arith) h

  -- every tree is finished
  pub actions_row : on_row (action_children acts) (size acts) (size acts) ≡ true
  unfolding refusal34
  actions_row =
      let (a, b) = lower_both (fault_from 34 0 (size acts) (bad_action_operand ls acts)) (fault_if 34 (size acts) (not (on_row (action_children acts) (size acts) (size acts)))) r34 in
      not-false (on_row (action_children acts) (size acts) (size acts)) (if_passed 34 (size acts) _ b)

  pub actions_finished : (v : ℕ) → v < size acts → (e : ℕ) × (tree_end (action_children acts) (size acts) v ≡ some e) × (e ≤ size acts)
  actions_finished v h = row_inside (action_children acts) (size acts) (size acts) v actions_row h

  -- the right child stands where the left child's tree ends, and ends where the node's tree ends
  pub actions_right : (v : ℕ) → v < size acts → 3 ≤ kind acts v → kind acts v ≤ 4
      → (tree_end (action_children acts) (size acts) (suc v) ≡ some (operand acts v))
      × (tree_end (action_children acts) (size acts) v ≡ tree_end (action_children acts) (size acts) (operand acts v))
      × (suc v < operand acts v)
      × (operand acts v < size acts)
  actions_right v h a b =
      let (e, f, g) = actions_finished v h in
      let (x, i, j, k, l) = two_children (action_children acts) (size acts) v e f (action_children_two acts v h a b) in
      let q : operand acts v ≡ x = is-end (operand acts v) _ x i (sym (action_right ls acts v h a b) ∙ actions_operand v h) in
      (i ∙ ap some (sym q), f ∙ sym j ∙ ap (tree_end (action_children acts) (size acts)) (sym q), omega arith, omega arith)

  good_action_next : (v : ℕ) → v < size acts → 3 ≤ kind acts v → Dec (kind acts v ≡ 5) → suc v < size acts
  good_action_next v h a (yes k) =
      let (e, f, g) = actions_finished v h in
      only_child (action_children acts) (size acts) v e f (action_children_one acts v h k)
  good_action_next v h a (no d) =
      let k = actions_known v h in
      let (i, j, x, y) = actions_right v h a (omega arith) in
      omega arith

  pub good_action_node : (v : ℕ) → v < size acts → GoodActionNode (label_count ls) acts v
  good_action_node v h =
      record {
        known = actions_known v h;
        label = λ a b. leb-false (label_count ls) (operand acts v) (sym (action_label ls acts v h (omega arith)) ∙ actions_operand v h);
        next = λ a. good_action_next v h a (ℕ_discrete (kind acts v) 5);
        right = λ a b. let (i, j, x, y) = actions_right v h a b in (x, y);
      }

  pub good_actions : refusal31 acts ≡ Ok tt → refusal32 acts ≡ Ok tt → GoodActions (label_count ls) acts
  unfolding refusal31 refusal32
  good_actions r31 r32 =
      record {
        sized = differ_false (length acts) (1 + 2 * size acts) (or-false (eqb (length acts) 0) (differ (length acts) (1 + 2 * size acts)) (if_passed 31 0 _ r31)).1;
        few = ltb-false 1_024 (size acts) (if_passed 32 0 _ r32);
        nodes = good_action_node;
      }

-- ---- the formula

module _ (children : ℕ → ℕ) (m : ℕ) (f : List ℕ) (r43 : refusal43 f ≡ Ok tt) (r44 : refusal44 (names_no_root children m) f ≡ Ok tt) where
  pub formula_known : (v : ℕ) → v < size f → kind f v ≤ 8
  unfolding refusal43
  formula_known v h = ltb-false 8 (kind f v) (from_passed 43 0 (size f) (λ u. ltb 8 (kind f u)) r43 v (omega arith) h)

  formula_operand : (v : ℕ) → v < size f → bad_formula_operand (names_no_root children m) f v ≡ false
  unfolding refusal44
  formula_operand v h =
      let (a, b) = lower_both (fault_from 44 0 (size f) (bad_formula_operand (names_no_root children m) f))
      (wrong_end (size f) (tree_end (formula_children f) (size f) 0)) r44 in
      from_passed 44 0 (size f) (bad_formula_operand (names_no_root children m) f) a v (omega arith) h

  -- the tree of node 0 is the whole table
  pub formula_whole : tree_end (formula_children f) (size f) 0 ≡ some (size f)
  unfolding refusal44 wrong_end
  formula_whole =
      let (a, b) = lower_both (fault_from 44 0 (size f) (bad_formula_operand (names_no_root children m) f))
      (wrong_end (size f) (tree_end (formula_children f) (size f) 0)) r44 in
      go (tree_end (formula_children f) (size f) 0) refl b
    where
      go : (o : Option ℕ) → tree_end (formula_children f) (size f) 0 ≡ o → wrong_end (size f) o ≡ Ok tt → o ≡ some (size f)
      go none i h = absurd (passed_not_fault (sym h))
      go (some e) i h =
          let l = ltb-false e (size f) (if_passed 44 e _ h) in
          let (p, q, r) = end_bounds (formula_children f) (size f) 0 e i in
          let same : e ≡ size f = omega arith in
          ap some same

  -- every tree is finished
  pub formula_finished : (v : ℕ) → v < size f → (e : ℕ) × (tree_end (formula_children f) (size f) v ≡ some e) × (e ≤ size f)
  formula_finished v h = tree_inside (formula_children f) (size f) 0 (size f) v formula_whole (omega arith) h

  -- the right child stands where the left child's tree ends, and ends where the node's tree ends
  pub formula_right_child : (v : ℕ) → v < size f → 2 ≤ kind f v → kind f v ≤ 3
      → (tree_end (formula_children f) (size f) (suc v) ≡ some (operand f v))
      × (tree_end (formula_children f) (size f) v ≡ tree_end (formula_children f) (size f) (operand f v))
      × (suc v < operand f v)
      × (operand f v < size f)
  formula_right_child v h a b =
      let (e, c, g) = formula_finished v h in
      let (x, i, j, k, l) = two_children (formula_children f) (size f) v e c (formula_children_two f v h a b) in
      let q : operand f v ≡ x = is-end (operand f v) _ x i
      (sym (formula_right (names_no_root children m) f v h a b) ∙ formula_operand v h) in
      (i ∙ ap some (sym q), c ∙ sym j ∙ ap (tree_end (formula_children f) (size f)) (sym q), omega arith, omega arith)

  good_formula_next : (v : ℕ) → v < size f → 2 ≤ kind f v → kind f v ≤ 7 → Dec (kind f v < 4) → suc v < size f
  good_formula_next v h a b (yes k) =
      let (i, j, x, y) = formula_right_child v h a (omega arith) in
      omega arith
  good_formula_next v h a b (no d) =
      let (e, c, g) = formula_finished v h in
      only_child (formula_children f) (size f) v e c (formula_children_one f v h (omega arith) b)

  -- what a box or a diamond names is one of the row's trees
  pub formula_names : (v : ℕ) → v < size f → 4 ≤ kind f v → kind f v ≤ 5
      → (operand f v < m) × (on_row children m (operand f v) ≡ true)
  unfolding names_no_root
  formula_names v h a b =
      let (p, q) = or-false (leb m (operand f v))
      (not (on_row children m (operand f v)))
      (sym (formula_action (names_no_root children m) f v h a b) ∙ formula_operand v h) in
      (leb-false m (operand f v) p, not-false (on_row children m (operand f v)) q)

  module _ (r45 : refusal45 f ≡ Ok tt) where
    -- the fixpoint of a reference encloses it
    pub formula_refers : (v : ℕ) → v < size f → 8 ≤ kind f v
        → (is_fixpoint (formula_node f (operand f v)) ≡ true) × (operand f v < v) × (is_before_end v (tree_end (formula_children f) (size f) (operand f v)) ≡ true)
    unfolding refusal45 encloses
    formula_refers v h a =
        let k = formula_known v h in
        let t = from_passed 45 0 (size f) (λ u. wrong_reference f u (reference_of (formula_node f u))) r45 v (omega arith)
        h in
        let (p, q) = and-true (is_fixpoint (formula_node f (operand f v))) (encloses f (operand f v) v)
        (not-false (is_fixpoint (formula_node f (operand f v)) && encloses f (operand f v) v) (sym (reference_test f v h (omega arith)) ∙ t)) in
        let (i, j) = and-true (ltb (operand f v) v) (is_before_end v (tree_end (formula_children f) (size f) (operand f v))) q in
        (p, ltb-true (operand f v) v i, j)

    pub good_formula_node : (v : ℕ) → v < size f → GoodFormulaNode m f v
    good_formula_node v h =
        record {
          known = formula_known v h;
          next = λ a b. good_formula_next v h a b (dec_lt (kind f v) 4);
          right = λ a b. let (i, j, x, y) = formula_right_child v h a b in (x, y);
          action = λ a b. (formula_names v h a b).0;
          refers = λ a. let (i, j, k) = formula_refers v h a in (j, i);
        }

    pub good_formula : refusal41 f ≡ Ok tt → refusal42 f ≡ Ok tt → GoodFormula m f
    unfolding refusal41 refusal42
    good_formula r41 r42 =
        let (a, b) = outside_false 1 1_024 (size f) (if_passed 42 0 _ r42) in
        record {
          sized = differ_false (length f) (1 + 2 * size f) (or-false (eqb (length f) 0) (differ (length f) (1 + 2 * size f)) (if_passed 41 0 _ r41)).1;
          some = a;
          few = b;
          nodes = good_formula_node;
        }

-- ---- the whole

pub accepted : (x : Input) → input_refusal x ≡ Ok tt → GoodInput x
unfolding input_refusal
accepted x h =
    record {
      labels = good_labels x.labels (first_passed _ h 0) (first_passed _ h 1) (first_passed _ h 2);
      system = good_system x.labels x.system (first_passed _ h 3) (first_passed _ h 4) (first_passed _ h 5) (first_passed _ h 6) (first_passed _ h 7) (first_passed _ h 8);
      actions = good_actions x.labels x.actions (first_passed _ h 11) (first_passed _ h 12) (first_passed _ h 9) (first_passed _ h 10);
      formula = good_formula (action_children x.actions) (size x.actions) x.formula (first_passed _ h 15) (first_passed _ h 16) (first_passed _ h 17) (first_passed _ h 13) (first_passed _ h 14);
    }

module _ (x : Input) (r : Room) (game work : ℕ) (h : refusal x r game work ≡ Ok tt) where
  pub accepted_input : input_refusal x ≡ Ok tt
  unfolding refusal
  accepted_input = first_passed _ h 2

  pub accepted_words : GoodInput x
  accepted_words = accepted x accepted_input

  pub accepted_room : (1 ≤ r.vertices) × (r.vertices ≤ 1_048_576) × (1 ≤ r.edges) × (r.edges ≤ 4_194_304)
  unfolding refusal refusal1
  accepted_room =
      let (a, b) = or-false (outside 1 1_048_576 r.vertices) (outside 1 4_194_304 r.edges) (if_passed 1 0 _ (first_passed _ h 0)) in
      let (p, q) = outside_false 1 1_048_576 r.vertices a in
      let (s, t) = outside_false 1 4_194_304 r.edges b in
      (p, q, s, t)

  pub accepted_lengths : (game ≡ game_length r) × (work ≡ work_length r)
  unfolding refusal refusal2
  accepted_lengths =
      let (a, b) = or-false (differ game (game_length r)) (differ work (work_length r)) (if_passed 2 0 _ (first_passed _ h 1)) in
      (differ_false game (game_length r) a, differ_false work (work_length r) b)
