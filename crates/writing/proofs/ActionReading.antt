-- Accepted words of action formulas are the writing of a row, and a row is written in its own way. Assumes nothing.
use mathlib.Core.Path.{◌≡◌, refl, sym, ap, ap₂, ◌∙◌, subst}
use mathlib.Core.Bool.{true, false, not}
use mathlib.Core.List.{List, [], ◌∷◌, ◌++◌}
use mathlib.Core.Option.{some, some-injective}
use Prim.Native.Nat.{ℕ, zero, suc, ◌+◌, ◌-◌, ◌≤◌, ◌<◌}
use native.Mathlib.Decide.{dec_lt}
use native.Mathlib.Omega.{arith}
use borrow.Author.Tests.{eqb-true}
use Rattle.std.specs.declared.result.Result.TheVariants.{Ok}
use Rattle.rules.specs.Labels.{label_count}
use Rattle.rules.specs.Answers.{fault_if}
use Rattle.rules.specs.Table.{size, kind, operand, ActionNode, true_node, false_node, multi_action_node, union_node, intersection_node, negation_node, no_action_node, decode_action}
use Rattle.rules.specs.Table.{action_children, tree_end, on_row}
use Rattle.rules.specs.Refusal.{fault_from, bad_action_operand, refusal33, refusal34}
use Rattle.tables.specs.Ends.{on_row_from}
use Rattle.tables.proofs.Ends.{end_bounds, end_leaf, end_one, end_number_some, row_done, row_step}
use Rattle.tables.proofs.Decode.{action_kinds, action_children_none, action_children_one}
use Rattle.tables.proofs.Operands.{action_zero, action_negated}
use Rattle.tables.proofs.Faults.{from_passed, lower_both}
use Rattle.tables.proofs.Accepted.{actions_known, actions_finished, actions_right, good_action_node}
use Rattle.writing.specs.ActionSyntax.{ActionSyntax, true_action, false_action, label_action, union_action, intersection_action, negation_action, action_size, write_action, row_size, write_row, LabelsBelow, RowLabelsBelow}
use Rattle.writing.specs.Nodes.{Holds}
use Rattle.writing.proofs.Nodes.{holds_split, holds_join}
use Rattle.writing.proofs.ActionNodes.{action_length, action_some, holds_two}
use Rattle.tables.proofs.Choices.{differ_false}

-- ---- accepted words

-- a formula whose nodes stand from node v up to e
pub record ActionFrom (labels : ℕ) (acts : List ℕ) (v e : ℕ) : Type 0 where
  pub tree : ActionSyntax
  pub below : LabelsBelow labels tree
  pub ends : v + action_size tree ≡ e
  pub holds : Holds (write_action tree v) acts v

-- a row whose nodes stand from node v up to e
pub record RowFrom (labels : ℕ) (acts : List ℕ) (v e : ℕ) : Type 0 where
  pub row : List ActionSyntax
  pub below : RowLabelsBelow labels row
  pub ends : v + row_size row ≡ e
  pub holds : Holds (write_row row v) acts v

module _ (ls acts : List ℕ) (r33 : refusal33 acts ≡ Ok tt) (r34 : refusal34 ls acts ≡ Ok tt) where
  right_operand : (v : ℕ) → v < size acts → bad_action_operand ls acts v ≡ false
  unfolding refusal34
  right_operand v h =
      let (a, b) = lower_both (fault_from 34 0 (size acts) (bad_action_operand ls acts)) (fault_if 34 (size acts) (not (on_row (action_children acts) (size acts) (size acts)))) r34 in
      from_passed 34 0 (size acts) (bad_action_operand ls acts) a v (omega arith) h

  module _ (v e : ℕ) (h : tree_end (action_children acts) (size acts) v ≡ some e) where
    inside : v < size acts
    inside = (end_bounds (action_children acts) (size acts) v e h).0

    leaf_end : kind acts v ≤ 2 → v + 1 ≡ e
    leaf_end k =
        let i = some-injective (suc v) e (sym (end_leaf (action_children acts) (size acts) v inside (action_children_none acts v inside k)) ∙ h) in
        omega arith

    zero-operand : kind acts v ≤ 1 → operand acts v ≡ 0
    zero-operand k = differ_false (operand acts v) 0 (sym (action_zero ls acts v inside k) ∙ right_operand v inside)

    from_true : kind acts v ≡ 0 → ActionFrom (label_count ls) acts v e
    unfolding write_action action_size
    from_true k = record { tree = true_action; below = tt; ends = leaf_end (omega arith); holds = (k, zero-operand (omega arith), tt) }

    from_false : kind acts v ≡ 1 → ActionFrom (label_count ls) acts v e
    unfolding write_action action_size
    from_false k = record { tree = false_action; below = tt; ends = leaf_end (omega arith); holds = (k, zero-operand (omega arith), tt) }

    from_label : kind acts v ≡ 2 → ActionFrom (label_count ls) acts v e
    unfolding write_action action_size
    from_label k =
        record {
          tree = label_action (operand acts v);
          below = (good_action_node ls acts r33 r34 v inside).label (omega arith) (omega arith);
          ends = leaf_end (omega arith);
          holds = (k, refl, tt);
        }

    from_negation : kind acts v ≡ 5 → ActionFrom (label_count ls) acts (suc v) e → ActionFrom (label_count ls) acts v e
    unfolding write_action action_size
    from_negation k a =
        record {
          tree = negation_action a.tree;
          below = a.below;
          ends = omega (arith, a.ends);
          holds = (k, differ_false (operand acts v) 0 (sym (action_negated ls acts v inside k) ∙ right_operand v inside), a.holds);
        }

    -- the nodes of the two operands of a union or an intersection
    both_hold : (a : ActionFrom (label_count ls) acts (suc v) (operand acts v)) (b : ActionFrom (label_count ls) acts (operand acts v) e)
        → Holds (write_action a.tree (suc v) ++ write_action b.tree (suc v + action_size a.tree)) acts (suc v)
    both_hold a b =
        holds_join (write_action a.tree (suc v)) (write_action b.tree (suc v + action_size a.tree)) acts (suc v) (action_size a.tree) (action_length a.tree (suc v))
        a.holds (subst (λ (u : ℕ). Holds (write_action b.tree u) acts u) (sym a.ends) b.holds)

    from_union : kind acts v ≡ 3 → ActionFrom (label_count ls) acts (suc v) (operand acts v) → ActionFrom (label_count ls) acts (operand acts v) e
        → ActionFrom (label_count ls) acts v e
    unfolding write_action action_size
    from_union k a b =
        record {
          tree = union_action a.tree b.tree;
          below = (a.below, b.below);
          ends = omega (arith, a.ends, b.ends);
          holds = (k, sym a.ends, both_hold a b);
        }

    from_intersection : kind acts v ≡ 4 → ActionFrom (label_count ls) acts (suc v) (operand acts v) → ActionFrom (label_count ls) acts (operand acts v) e
        → ActionFrom (label_count ls) acts v e
    unfolding write_action action_size
    from_intersection k a b =
        record {
          tree = intersection_action a.tree b.tree;
          below = (a.below, b.below);
          ends = omega (arith, a.ends, b.ends);
          holds = (k, sym a.ends, both_hold a b);
        }

  -- the tree of node v, given those of later nodes
  pub action_from : (d v e : ℕ) → size acts - v ≤ d → tree_end (action_children acts) (size acts) v ≡ some e → ActionFrom (label_count ls) acts v e
  action_from zero v e l h = let i = inside v e h in absurd (omega arith)
  action_from (suc d) v e l h =
      by_kind (action_from d) (kind acts v) refl
    where
      i : v < size acts
      i = inside v e h

      k : kind acts v ≤ 5
      k = actions_known ls acts r33 r34 v i

      Later : Type 0
      Later = (u f : ℕ) → size acts - u ≤ d → tree_end (action_children acts) (size acts) u ≡ some f → ActionFrom (label_count ls) acts u f

      left : Later → 3 ≤ kind acts v → kind acts v ≤ 4 → ActionFrom (label_count ls) acts (suc v) (operand acts v)
      left later a b =
          let (p, q, x, y) = actions_right ls acts r33 r34 v i a b in
          later (suc v) (operand acts v) (omega arith) p

      right : Later → 3 ≤ kind acts v → kind acts v ≤ 4 → ActionFrom (label_count ls) acts (operand acts v) e
      right later a b =
          let (p, q, x, y) = actions_right ls acts r33 r34 v i a b in
          later (operand acts v) e (omega arith) (sym q ∙ h)

      only : Later → kind acts v ≡ 5 → ActionFrom (label_count ls) acts (suc v) e
      only later z =
          later (suc v) e (omega arith)
          (sym (end_one (action_children acts) (size acts) v i (action_children_one acts v i z)) ∙ h)

      two : Later → (ActionFrom (label_count ls) acts (suc v) (operand acts v)
          → ActionFrom (label_count ls) acts (operand acts v) e
          → ActionFrom (label_count ls) acts v e) → 3 ≤ kind acts v → kind acts v ≤ 4
          → ActionFrom (label_count ls) acts v e
      two later join a b = join (left later a b) (right later a b)

      by_kind : Later → (j : ℕ) → kind acts v ≡ j → ActionFrom (label_count ls) acts v e
      by_kind later =
          action_kinds 0 (λ j n. kind acts v ≡ j → ActionFrom (label_count ls) acts v e)
          (λ z. from_true v e h z)
          (λ z. from_false v e h z)
          (λ z. from_label v e h z)
          (λ z. two later (from_union v e h z) (omega arith) (omega arith))
          (λ z. two later (from_intersection v e h z) (omega arith) (omega arith))
          (λ z. from_negation v e h z (only later z))
          (λ j g z. absurd (omega (arith, k)))

  -- the first tree of a row, then the rest
  row_join : (u e : ℕ) → ActionFrom (label_count ls) acts u e → RowFrom (label_count ls) acts e (size acts) → RowFrom (label_count ls) acts u (size acts)
  unfolding write_row row_size
  row_join u e a r =
      record {
        row = a.tree ∷ r.row;
        below = (a.below, r.below);
        ends = omega (arith, a.ends, r.ends);
        holds = holds_join (write_action a.tree u) (write_row r.row (u + action_size a.tree)) acts u (action_size a.tree) (action_length a.tree u) a.holds
            (subst (λ (w : ℕ). Holds (write_row r.row w) acts w) (sym a.ends) r.holds);
      }

  row-none : (u : ℕ) → u ≡ size acts → RowFrom (label_count ls) acts u (size acts)
  unfolding write_row row_size
  row-none u e = record { row = []; below = tt; ends = omega arith; holds = tt }

  -- the row from node u on
  pub row_from : (d u : ℕ) → size acts - u ≤ d → on_row_from (action_children acts) (size acts) u (size acts) ≡ true → RowFrom (label_count ls) acts u (size acts)
  row_from zero u l on = row-none u (eqb-true u (size acts) (sym (row_done (action_children acts) (size acts) u (size acts) (omega arith)) ∙ on))
  row_from (suc d) u l on = go (row_from d) (dec_lt u (size acts))
    where
      go : ((w : ℕ) → size acts - w ≤ d → on_row_from (action_children acts) (size acts) w (size acts) ≡ true → RowFrom (label_count ls) acts w (size acts))
          → Dec (u < size acts) → RowFrom (label_count ls) acts u (size acts)
      go later (no k) = row-none u (eqb-true u (size acts) (sym (row_done (action_children acts) (size acts) u (size acts) (omega arith)) ∙ on))
      go later (yes k) =
          let (e, p, q) = actions_finished ls acts r33 r34 u k in
          let (x, y, z) = end_bounds (action_children acts) (size acts) u e p in
          row_join u e (action_from (size acts) u e (omega arith) p)
          (later e (omega arith)
          (sym (row_step (action_children acts) (size acts) u (size acts) k (omega arith)
          ∙ ap (λ (w : ℕ). on_row_from (action_children acts) (size acts) w (size acts)) (end_number_some (action_children acts) (size acts) u e p))
          ∙ on))

-- ---- a row is written in its own way

-- the tree that stands at node v, read to a depth
syntax_of : (ℕ → ActionSyntax) → (v : ℕ) → ActionNode → ActionSyntax
syntax_of tree v true_node = true_action
syntax_of tree v false_node = false_action
syntax_of tree v (multi_action_node l) = label_action l
syntax_of tree v (union_node r) = union_action (tree (suc v)) (tree r)
syntax_of tree v (intersection_node r) = intersection_action (tree (suc v)) (tree r)
syntax_of tree v negation_node = negation_action (tree (suc v))
syntax_of tree v no_action_node = false_action

syntax_to : (depth : ℕ) → List ℕ → ℕ → ActionSyntax
syntax_to zero acts v = false_action
syntax_to (suc d) acts v = syntax_of (λ u. syntax_to d acts u) v (decode_action (kind acts v) (operand acts v))

syntax_step : (d : ℕ) (acts : List ℕ) (v k o : ℕ) → kind acts v ≡ k → operand acts v ≡ o
    → syntax_to (suc d) acts v ≡ syntax_of (λ u. syntax_to d acts u) v (decode_action k o)
unfolding syntax_to
syntax_step d acts v k o p q = ap₂ (λ (i j : ℕ). syntax_of (λ u. syntax_to d acts u) v (decode_action i j)) p q

-- the tree whose nodes stand there is what is read
syntax_reads : (t : ActionSyntax) (d : ℕ) (acts : List ℕ) (v : ℕ) → Holds (write_action t v) acts v → action_size t ≤ d → syntax_to d acts v ≡ t
unfolding write_action action_size syntax_of decode_action
syntax_reads t zero acts v h l = let s = action_some t in absurd (omega arith)
syntax_reads true_action (suc d) acts v (k, o, h) l = syntax_step d acts v 0 0 k o
syntax_reads false_action (suc d) acts v (k, o, h) l = syntax_step d acts v 1 0 k o
syntax_reads (label_action m) (suc d) acts v (k, o, h) l = syntax_step d acts v 2 m k o
syntax_reads (union_action a b) (suc d) acts v (k, o, h) l =
    let (p, q) = holds_two acts a b v h in
    syntax_step d acts v 3 (suc v + action_size a) k o
    ∙ ap₂ union_action (syntax_reads a d acts (suc v) p (omega arith)) (syntax_reads b d acts (suc v + action_size a) q (omega arith))
syntax_reads (intersection_action a b) (suc d) acts v (k, o, h) l =
    let (p, q) = holds_two acts a b v h in
    syntax_step d acts v 4 (suc v + action_size a) k o
    ∙ ap₂ intersection_action (syntax_reads a d acts (suc v) p (omega arith)) (syntax_reads b d acts (suc v + action_size a) q (omega arith))
syntax_reads (negation_action a) (suc d) acts v (k, o, h) l = syntax_step d acts v 5 0 k o ∙ ap negation_action (syntax_reads a d acts (suc v) h (omega arith))

-- two rows whose nodes are the same are the same
pub row_same : (row other : List ActionSyntax) (acts : List ℕ) (v : ℕ) → Holds (write_row row v) acts v → Holds (write_row other v) acts v → row_size row ≡ row_size other → row ≡ other
unfolding write_row row_size
row_same [] [] acts v h i l = refl
row_same [] (u ∷ us) acts v h i l = let s = action_some u in absurd (omega arith)
row_same (t ∷ ts) [] acts v h i l = let s = action_some t in absurd (omega arith)
row_same (t ∷ ts) (u ∷ us) acts v h i l =
    let (p, q) = holds_split (write_action t v) (write_row ts (v + action_size t)) acts v (action_size t) (action_length t v) h in
    let (x, y) = holds_split (write_action u v) (write_row us (v + action_size u)) acts v (action_size u) (action_length u v) i in
    let e : t ≡ u = sym (syntax_reads t (action_size t + action_size u) acts v p (omega arith)) ∙ syntax_reads u (action_size t + action_size u) acts v x (omega arith) in
    let s : action_size u ≡ action_size t = ap action_size (sym e) in
    ap₂ ◌∷◌ e (row_same ts us acts (v + action_size t) q (subst (λ (n : ℕ). Holds (write_row us (v + n)) acts (v + n)) s y) (omega arith))
