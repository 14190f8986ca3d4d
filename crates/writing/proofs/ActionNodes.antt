-- Where the nodes of an action formula stand in the words: its tree ends just past them, each of them passes 33 and 34,
-- and the words read as the formula.
-- Assumes nothing.
use mathlib.Core.Path.{◌≡◌, refl, ap, ap₂, ◌∙◌}
use mathlib.Core.Bool.{false, not}
use mathlib.Core.List.{List, ◌++◌}
use mathlib.Core.Option.{Option, some}
use Prim.Native.Nat.{ℕ, suc, ◌+◌, ◌≤◌, ◌<◌}
use native.Mathlib.Omega.{arith}
use lib.ListN.{length, length-append}
use borrow.Author.Tests.{eq-eqb, lt-leb}
use Rattle.rules.specs.Labels.{label_count, multiset}
use Rattle.rules.specs.Table.{size, kind, operand, action_children, tree_end, is_not_end}
use Rattle.rules.specs.Actions.{union, intersection, negation, multi_action, action_tree}
use Rattle.rules.specs.Refusal.{bad_action_operand}
use Rattle.tables.specs.Good.{GoodActions}
use Rattle.tables.specs.Ends.{tree_after}
use Rattle.tables.proofs.Ends.{end_leaf, end_one, end_two}
use Rattle.tables.proofs.Decode.{action_children_none, action_children_one, action_children_two}
use Rattle.tables.proofs.Operands.{action_zero, action_label, action_right, action_negated}
use Rattle.trees.proofs.ActionTrees.{any_tree, never_tree, multi_tree, union_tree, intersection_tree, negation_tree}
use Rattle.writing.specs.ActionSyntax.{ActionSyntax, true_action, false_action, label_action, union_action, intersection_action, negation_action, action_size, write_action, LabelsBelow, read_action}
use Rattle.writing.specs.Nodes.{Holds}
use Rattle.writing.proofs.Nodes.{holds_split, leaf_nodes, one_nodes, two_nodes}
use Rattle.tables.proofs.Choices.{differ_no}

-- as many nodes are written
pub action_length : (t : ActionSyntax) (v : ℕ) → length (write_action t v) ≡ action_size t
unfolding write_action action_size
action_length true_action v = refl
action_length false_action v = refl
action_length (label_action l) v = refl
action_length (union_action a b) v =
    ap suc (length-append (write_action a (suc v)) (write_action b (suc v + action_size a)) ∙ ap₂ ◌+◌ (action_length a (suc v)) (action_length b (suc v + action_size a)))
action_length (intersection_action a b) v =
    ap suc (length-append (write_action a (suc v)) (write_action b (suc v + action_size a)) ∙ ap₂ ◌+◌ (action_length a (suc v)) (action_length b (suc v + action_size a)))
action_length (negation_action a) v = ap suc (action_length a (suc v))

pub action_some : (t : ActionSyntax) → 1 ≤ action_size t
unfolding action_size
action_some true_action = omega arith
action_some false_action = omega arith
action_some (label_action l) = omega arith
action_some (union_action a b) = omega arith
action_some (intersection_action a b) = omega arith
action_some (negation_action a) = omega arith

-- the two operands of a union or an intersection, one after the other
pub holds_two : (acts : List ℕ) (a b : ActionSyntax) (v : ℕ) → Holds (write_action a (suc v) ++ write_action b (suc v + action_size a)) acts (suc v)
    → Holds (write_action a (suc v)) acts (suc v) × Holds (write_action b (suc v + action_size a)) acts (suc v + action_size a)
holds_two acts a b v h = holds_split (write_action a (suc v)) (write_action b (suc v + action_size a)) acts (suc v) (action_size a) (action_length a (suc v)) h

pub right_end : (r e : ℕ) (o : Option ℕ) → o ≡ some e → r ≡ e → is_not_end r o ≡ false
unfolding is_not_end
right_end r e o i j = ap (is_not_end r) i ∙ ap not (eq-eqb r e j)

module _ (acts : List ℕ) where
  -- ---- where its tree ends

  two_end : (v x y : ℕ) → v < size acts → action_children acts v ≡ 2 → tree_end (action_children acts) (size acts) (suc v) ≡ some x
      → tree_end (action_children acts) (size acts) x ≡ some y → tree_end (action_children acts) (size acts) v ≡ some y
  unfolding tree_after
  two_end v x y h c p q = end_two (action_children acts) (size acts) v h c ∙ ap (tree_after (action_children acts) (size acts)) p ∙ q

  pub action_ends : (t : ActionSyntax) (v : ℕ) → Holds (write_action t v) acts v → v + action_size t ≤ size acts
      → tree_end (action_children acts) (size acts) v ≡ some (v + action_size t)
  unfolding write_action action_size
  action_ends true_action v (k, o, h) l =
      end_leaf (action_children acts) (size acts) v (omega arith) (action_children_none acts v (omega arith) (omega arith)) ∙ ap some (omega arith)
  action_ends false_action v (k, o, h) l =
      end_leaf (action_children acts) (size acts) v (omega arith) (action_children_none acts v (omega arith) (omega arith)) ∙ ap some (omega arith)
  action_ends (label_action m) v (k, o, h) l =
      end_leaf (action_children acts) (size acts) v (omega arith) (action_children_none acts v (omega arith) (omega arith)) ∙ ap some (omega arith)
  action_ends (union_action a b) v (k, o, h) l =
      let (p, q) = holds_two acts a b v h in
      two_end v (suc v + action_size a) (v + suc (action_size a + action_size b)) (omega arith) (action_children_two acts v (omega arith) (omega arith) (omega arith))
      (action_ends a (suc v) p (omega arith)) (action_ends b (suc v + action_size a) q (omega arith) ∙ ap some (omega arith))
  action_ends (intersection_action a b) v (k, o, h) l =
      let (p, q) = holds_two acts a b v h in
      two_end v (suc v + action_size a) (v + suc (action_size a + action_size b)) (omega arith) (action_children_two acts v (omega arith) (omega arith) (omega arith))
      (action_ends a (suc v) p (omega arith)) (action_ends b (suc v + action_size a) q (omega arith) ∙ ap some (omega arith))
  action_ends (negation_action a) v (k, o, h) l =
      end_one (action_children acts) (size acts) v (omega arith) (action_children_one acts v (omega arith) k)
      ∙ action_ends a (suc v) h (omega arith)
      ∙ ap some (omega arith)

  -- ---- its nodes are as they should be

  -- node u passes
  abbrev pub Fine : List ℕ → ℕ → Type 0
  Fine ls u = (kind acts u ≤ 5) × (bad_action_operand ls acts u ≡ false)

  module _ (ls : List ℕ) where
    fine_zero : (v : ℕ) → v < size acts → kind acts v ≤ 1 → operand acts v ≡ 0 → Fine ls v
    fine_zero v h k o = (omega arith, action_zero ls acts v h k ∙ differ_no o)

    fine_right : (a : ActionSyntax) (v : ℕ) → v < size acts → 3 ≤ kind acts v → kind acts v ≤ 4 → operand acts v ≡ suc v + action_size a
        → Holds (write_action a (suc v)) acts (suc v) → suc v + action_size a ≤ size acts → Fine ls v
    fine_right a v h i j o p l =
        (omega arith, action_right ls acts v h i j ∙ right_end (operand acts v) (suc v + action_size a) _ (action_ends a (suc v) p l) o)

    -- a node with two subtrees, where the nodes of each are as they should be
    fine_both : (a b : ActionSyntax) (v u : ℕ)
        → Holds (write_action a (suc v) ++ write_action b (suc v + action_size a)) acts (suc v)
        → v + suc (action_size a + action_size b) ≤ size acts → 3 ≤ kind acts v → kind acts v ≤ 4
        → operand acts v ≡ suc v + action_size a
        → (Holds (write_action a (suc v)) acts (suc v) → suc v ≤ u → u < suc v + action_size a → Fine ls u)
        → (Holds (write_action b (suc v + action_size a)) acts (suc v + action_size a)
        → suc v + action_size a ≤ u → u < suc v + action_size a + action_size b → Fine ls u)
        → v ≤ u → u < v + suc (action_size a + action_size b) → Fine ls u
    fine_both a b v u h l i j o left right =
        let (p, q) = holds_two acts a b v h in
        two_nodes (Fine ls) v u (fine_right a v (omega arith) i j o p (omega arith)) (action_size a) (action_size b) (left p) (right q)

    pub action_fine : (t : ActionSyntax) (v : ℕ) → Holds (write_action t v) acts v → v + action_size t ≤ size acts → LabelsBelow (label_count ls) t
        → (u : ℕ) → v ≤ u → u < v + action_size t → Fine ls u
    unfolding write_action action_size
    action_fine true_action v (k, o, h) l below u = leaf_nodes (Fine ls) v u (fine_zero v (omega arith) (omega arith) o)
    action_fine false_action v (k, o, h) l below u = leaf_nodes (Fine ls) v u (fine_zero v (omega arith) (omega arith) o)
    action_fine (label_action m) v (k, o, h) l below u =
        leaf_nodes (Fine ls) v u (omega arith, action_label ls acts v (omega arith) k ∙ lt-leb (label_count ls) (operand acts v) (omega arith))
    action_fine (union_action a b) v (k, o, h) l below u =
        fine_both a b v u h l (omega arith) (omega arith) o (λ p. action_fine a (suc v) p (omega arith) below.0 u)
        (λ q. action_fine b (suc v + action_size a) q (omega arith) below.1 u)
    action_fine (intersection_action a b) v (k, o, h) l below u =
        fine_both a b v u h l (omega arith) (omega arith) o (λ p. action_fine a (suc v) p (omega arith) below.0 u)
        (λ q. action_fine b (suc v + action_size a) q (omega arith) below.1 u)
    action_fine (negation_action a) v (k, o, h) l below u =
        one_nodes (Fine ls) v u (omega arith, action_negated ls acts v (omega arith) k ∙ differ_no o) (action_size a)
        (λ i j. action_fine a (suc v) h (omega arith) below u i j)

    -- ---- the words read as the formula

    module _ (good : GoodActions (label_count ls) acts) where
      pub action_reads : (t : ActionSyntax) (v : ℕ) → Holds (write_action t v) acts v → v + action_size t ≤ size acts → action_tree ls acts v ≡ read_action ls t
      unfolding write_action action_size read_action
      action_reads true_action v (k, o, h) l = any_tree (label_count ls) acts good ls v (omega arith) k
      action_reads false_action v (k, o, h) l = never_tree (label_count ls) acts good ls v (omega arith) k
      action_reads (label_action m) v (k, o, h) l =
          multi_tree (label_count ls) acts good ls v (omega arith) k ∙ ap (λ (j : ℕ). multi_action (multiset ls j)) o
      action_reads (union_action a b) v (k, o, h) l =
          let (p, q) = holds_two acts a b v h in
          union_tree (label_count ls) acts good ls v (omega arith) k
          ∙ ap₂ union (action_reads a (suc v) p (omega arith)) (ap (action_tree ls acts) o ∙ action_reads b (suc v + action_size a) q (omega arith))
      action_reads (intersection_action a b) v (k, o, h) l =
          let (p, q) = holds_two acts a b v h in
          intersection_tree (label_count ls) acts good ls v (omega arith) k
          ∙ ap₂ intersection (action_reads a (suc v) p (omega arith)) (ap (action_tree ls acts) o ∙ action_reads b (suc v + action_size a) q (omega arith))
      action_reads (negation_action a) v (k, o, h) l =
          negation_tree (label_count ls) acts good ls v (omega arith) k ∙ ap negation (action_reads a (suc v) h (omega arith))
