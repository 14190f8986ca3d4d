-- Good labels, or action formulas that name equal labels, are refused as the others are: the other words decide.
-- Assumes nothing.
use mathlib.Core.Path.{◌≡◌, sym, ap, ap₂, ◌∙◌}
use mathlib.Core.Bool.{false, not, ◌&&◌, ◌||◌}
use mathlib.Core.List.{List, [], ◌∷◌}
use Prim.Native.Nat.{ℕ, suc, ◌+◌, ◌*◌, ◌-◌, ◌≤◌, ◌<◌}
use native.Mathlib.Decide.{dec_lt, ℕ_discrete}
use native.Mathlib.Omega.{arith}
use lib.Dec.{ltb, leb}
use lib.ListN.{length}
use borrow.Author.Tests.{ne_eqb, le-ltb, lt-leb}
use Rattle.std.specs.declared.result.Result.TheVariants.{Ok}
use Rattle.rules.specs.Lists.{word}
use Rattle.rules.specs.declared.Room.{Room}
use Rattle.rules.specs.Words.{Input, most_nodes}
use Rattle.rules.specs.Answers.{fault_if, first_fault}
use Rattle.rules.specs.Labels.{label_count, action_count, label_at}
use Rattle.rules.specs.System.{state_count, transition_count}
use Rattle.rules.specs.Table.{size, kind, operand, action_node, action_shape, action_children, tree_end, on_row}
use Rattle.rules.specs.Refusal.{fault_from, lower_fault, refusal1, refusal2, refusal11, refusal12, bad_label, refusal13}
use Rattle.rules.specs.Refusal.{refusal21, refusal22, refusal23, refusal24, too_large, refusal25, refusal26}
use Rattle.rules.specs.Refusal.{refusal31, refusal32, refusal33, wrong_operand, bad_action_operand, refusal34, refusal41}
use Rattle.rules.specs.Refusal.{refusal42, refusal43}
use Rattle.rules.specs.Refusal.{names_no_tree, names_no_root, refusal44, refusal45}
use Rattle.rules.specs.Refusal.{input_refusal, refusal}
use Rattle.tables.specs.Good.{GoodLabels, GoodActions}
use Rattle.tables.proofs.Faults.{if-false, from_none, from_same}
use Rattle.tables.proofs.Decode.{action_kind_shape, action-shape, action_past}
use Rattle.tables.proofs.Operands.{action_label}
use Rattle.arena.specs.Reworded.{reworded, SameActions}
use Rattle.lists.proofs.Tests.{or-none, and-false}
use Rattle.tables.proofs.Choices.{differ_no}

-- ---- labels

module _ (ls : List ℕ) (good : GoodLabels ls) where
  passed_11 : refusal11 ls ≡ Ok tt
  unfolding refusal11
  passed_11 =
      let s = good.sized in
      if-false 11 0 (or-none (le-ltb (length ls) 2 (omega arith)) (differ_no s))

  passed_12 : refusal12 ls ≡ Ok tt
  unfolding refusal12
  passed_12 =
      if-false 12 0 (or-none (le-ltb 4_096 (label_count ls) good.few) (le-ltb 16_384 (action_count ls) good.small))

  labels_right : (w : ℕ) → leb (label_count ls) (word ls w) ≡ false → (ltb 2 w && ltb (word ls w) (word ls (w - 1))) ≡ false → bad_label ls w ≡ false
  unfolding bad_label
  labels_right w p q = or-none p q

  passed_13 : refusal13 ls ≡ Ok tt
  unfolding refusal13
  passed_13 = from_none 13 2 (2 + action_count ls) (bad_label ls) right
    where
      at : (w : ℕ) → 2 ≤ w → label_at ls (w - 2) ≡ word ls w
      at w a = ap (word ls) (let e : 2 + (w - 2) ≡ w = omega arith in e)

      small : (w : ℕ) → 2 ≤ w → w < 2 + action_count ls → leb (label_count ls) (word ls w) ≡ false
      small w a b = let k = good.below (w - 2) (omega arith) in let e = at w a in lt-leb (label_count ls) (word ls w) (omega arith)

      rises : (w : ℕ) → 2 ≤ w → w < 2 + action_count ls → Dec (2 < w) → (ltb 2 w && ltb (word ls w) (word ls (w - 1))) ≡ false
      rises w a b (yes h) =
          let k = good.order (w - 1 - 2) (w - 2) (omega arith) (omega arith) in
          let e = at w a in
          let f = at (w - 1) (omega arith) in
          and-false (ltb 2 w) (le-ltb (word ls w) (word ls (w - 1)) (omega arith))
      rises w a b (no h) = rw (le-ltb 2 w (omega arith))

      right : (w : ℕ) → 2 ≤ w → w < 2 + action_count ls → bad_label ls w ≡ false
      right w a b = labels_right w (small w a b) (rises w a b (dec_lt 2 w))

-- good labels, as many of them, are not refused either, and the rest is judged by their number
pub relabelled_refusal : (x : Input) (ls' : List ℕ) → GoodLabels x.labels → GoodLabels ls' → label_count ls' ≡ label_count x.labels
    → (r : Room) (game work : ℕ) → refusal (reworded x ls' x.actions) r game work ≡ refusal x r game work
unfolding refusal input_refusal refusal25 refusal34 bad_action_operand
relabelled_refusal x ls' good good' e r game work i =
    first_fault
    (refusal1 r ∷ refusal2 r game work
    ∷ first_fault
    (p11 i ∷ p12 i ∷ p13 i
    ∷ refusal21 x.system ∷ refusal22 x.system ∷ refusal23 x.system ∷ refusal24 x.system
    ∷ fault_from 25 (3 + state_count x.system) (3 + state_count x.system + transition_count x.system) (too_large x.system (e i)) ∷ refusal26 x.system
    ∷ refusal31 x.actions ∷ refusal32 x.actions ∷ refusal33 x.actions ∷ p34 i
    ∷ refusal41 x.formula ∷ refusal42 x.formula ∷ refusal43 x.formula
    ∷ refusal44 (names_no_tree x.actions) x.formula ∷ refusal45 x.formula
    ∷ [])
    ∷ [])
  where
    p11 : refusal11 ls' ≡ refusal11 x.labels
    p11 = passed_11 ls' good' ∙ sym (passed_11 x.labels good)

    p12 : refusal12 ls' ≡ refusal12 x.labels
    p12 = passed_12 ls' good' ∙ sym (passed_12 x.labels good)

    p13 : refusal13 ls' ≡ refusal13 x.labels
    p13 = passed_13 ls' good' ∙ sym (passed_13 x.labels good)

    p34 : refusal34 ls' x.actions ≡ refusal34 x.labels x.actions
    p34 =
        ap
        (λ (n : ℕ).
        lower_fault
        (fault_from 34 0 (size x.actions)
        (λ v. wrong_operand (leb n) (operand x.actions v)
        (tree_end (action_children x.actions) (size x.actions) (suc v))
        (action_shape (action_node x.actions v)).rule))
        (fault_if 34 (size x.actions) (not (on_row (action_children x.actions) (size x.actions) (size x.actions)))))
        e

-- ---- action formulas

module _ (ls acts acts' : List ℕ) (good : GoodActions (label_count ls) acts) (good' : GoodActions (label_count ls) acts') (same : SameActions ls ls acts acts') where
  shape_same : (v : ℕ) → action_shape (action_node acts' v) ≡ action_shape (action_node acts v)
  shape_same v = go (dec_lt v (size acts))
    where
      go : Dec (v < size acts) → action_shape (action_node acts' v) ≡ action_shape (action_node acts v)
      go (yes h) =
          action-shape acts' v (let e = same.sizes in omega arith)
          ∙ ap action_kind_shape (same.kinds v h)
          ∙ sym (action-shape acts v h)
      go (no h) =
          ap action_shape (action_past acts' v (let e = same.sizes in omega arith)
          ∙ sym (action_past acts v (omega arith)))

  children_path : action_children acts' ≡ action_children acts
  children_path i v = (shape_same v i).children

  same_31 : refusal31 acts' ≡ refusal31 acts
  same_31 = passed acts' good'.sized ∙ sym (passed acts good.sized)
    where
      passed : (ws : List ℕ) → length ws ≡ 1 + 2 * size ws → refusal31 ws ≡ Ok tt
      passed ws e =
          unfold refusal31 in
          if-false 31 0 (or-none (ne_eqb (length ws) 0 (λ z. omega arith)) (differ_no e))

  same_32 : refusal32 acts' ≡ refusal32 acts
  unfolding refusal32
  same_32 = ap (λ (n : ℕ). fault_if 32 0 (ltb most_nodes n)) same.sizes

  same_33 : refusal33 acts' ≡ refusal33 acts
  unfolding refusal33
  same_33 =
      ap (λ (n : ℕ). fault_from 33 0 n (λ v. ltb 5 (kind acts' v))) same.sizes
      ∙ from_same 33 0 (size acts) (λ v. ltb 5 (kind acts' v)) (λ v. ltb 5 (kind acts v)) (λ v a b. ap (ltb 5) (same.kinds v b))

  -- a label that is one is right, whichever it is
  operands_same : (v : ℕ) → v < size acts → bad_action_operand ls acts' v ≡ bad_action_operand ls acts v
  unfolding bad_action_operand
  operands_same v h = go (ℕ_discrete (kind acts v) 2)
    where
      inside : v < size acts'
      inside = let e = same.sizes in omega arith

      right : (ws : List ℕ) → v < size ws → kind ws v ≡ 2 → GoodActions (label_count ls) ws → bad_action_operand ls ws v
          ≡ false
      right ws l e g =
          action_label ls ws v l e
          ∙ lt-leb (label_count ls) (operand ws v) ((g.nodes v l).label (omega arith) (omega arith))

      go : Dec (kind acts v ≡ 2) → bad_action_operand ls acts' v ≡ bad_action_operand ls acts v
      go (yes e) = right acts' inside (same.kinds v h ∙ e) good' ∙ sym (right acts h e good)
      go (no d) =
          λ i.
          wrong_operand (leb (label_count ls)) (same.operands v h d i)
          (tree_end (children_path i) (same.sizes i) (suc v))
          (shape_same v i).rule

  same_34 : refusal34 ls acts' ≡ refusal34 ls acts
  unfolding refusal34
  same_34 =
      ap₂ lower_fault
      (ap (λ (n : ℕ). fault_from 34 0 n (bad_action_operand ls acts')) same.sizes
      ∙ from_same 34 0 (size acts) (bad_action_operand ls acts') (bad_action_operand ls acts) (λ v a b. operands_same v b))
      (ap₂ (λ (c : ℕ → ℕ) (n : ℕ). fault_if 34 n (not (on_row c n n))) children_path same.sizes)

  same_names : (a : ℕ) → names_no_tree acts' a ≡ names_no_tree acts a
  unfolding names_no_root
  same_names a = ap₂ (λ (c : ℕ → ℕ) (n : ℕ). leb n a || not (on_row c n a)) children_path same.sizes

  same_44 : (f : List ℕ) → refusal44 (names_no_tree acts') f ≡ refusal44 (names_no_tree acts) f
  same_44 f i = refusal44 (λ a. same_names a i) f

-- action formulas that differ in the names of equal labels are refused alike
pub renamed_refusal : (x : Input) (acts' : List ℕ) → GoodActions (label_count x.labels) x.actions → GoodActions (label_count x.labels) acts'
    → SameActions x.labels x.labels x.actions acts'
    → (r : Room) (game work : ℕ) → refusal (reworded x x.labels acts') r game work ≡ refusal x r game work
unfolding refusal input_refusal
renamed_refusal x acts' good good' same r game work i =
    first_fault
    (refusal1 r ∷ refusal2 r game work
    ∷ first_fault
    (refusal11 x.labels ∷ refusal12 x.labels ∷ refusal13 x.labels
    ∷ refusal21 x.system ∷ refusal22 x.system ∷ refusal23 x.system ∷ refusal24 x.system
    ∷ refusal25 x.labels x.system ∷ refusal26 x.system
    ∷ same_31 x.labels x.actions acts' good good' same i ∷ same_32 x.labels x.actions acts' good good' same i
    ∷ same_33 x.labels x.actions acts' good good' same i ∷ same_34 x.labels x.actions acts' good good' same i
    ∷ refusal41 x.formula ∷ refusal42 x.formula ∷ refusal43 x.formula ∷ same_44 x.labels x.actions acts' good good' same x.formula i ∷ refusal45 x.formula
    ∷ [])
    ∷ [])
