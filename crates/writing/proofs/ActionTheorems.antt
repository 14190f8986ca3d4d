-- Words are trees, for action formulas: the words of every row within the limits are accepted and read as the row; all
-- accepted words are the words of a row, and of one only. Assumes nothing.
use mathlib.Core.Path.{◌≡◌, sym, ap, ◌∙◌, subst}
use mathlib.Core.Bool.{true, false, not, ◌||◌}
use mathlib.Core.List.{List}
use Prim.Native.Nat.{ℕ, ◌+◌, ◌*◌, ◌≤◌, ◌<◌}
use native.Mathlib.Omega.{arith}
use lib.ListN.{length, get_or}
use lib.Dec.{eqb, ltb}
use borrow.Author.Tests.{eq-eqb, ne_eqb, le-ltb}
use Rattle.std.specs.declared.result.Result.TheVariants.{Ok}
use Rattle.rules.specs.Words.{most_nodes}
use Rattle.rules.specs.Labels.{label_count}
use Rattle.rules.specs.Answers.{fault_if}
use Rattle.rules.specs.Table.{size, kind, action_children, on_row}
use Rattle.rules.specs.Actions.{action_tree}
use Rattle.rules.specs.Refusal.{differ, bad_action_operand, refusal31, refusal32, refusal33, refusal34}
use Rattle.tables.specs.Good.{GoodActions}
use Rattle.tables.specs.Ends.{on_row_from}
use Rattle.tables.proofs.Ends.{row-start}
use Rattle.tables.proofs.Faults.{if-false, from_none, lower_passed}
use Rattle.tables.proofs.Accepted.{good_actions, actions_row}
use Rattle.writing.specs.ActionSyntax.{ActionSyntax, true_action, write_action, row_size, write_row, row_words, first_node, RowFits, ActionsAccepted, read_action}
use Rattle.writing.specs.Nodes.{Holds}
use Rattle.writing.proofs.Nodes.{table-size, table_length, table_holds, table_only}
use Rattle.writing.proofs.ActionNodes.{action_reads}
use Rattle.writing.proofs.ActionRows.{row_length, first_inside, first_below, row_tree, row_fine, row-end, row_first, row_only}
use Rattle.writing.proofs.ActionReading.{row_from, row_same}

-- a length that is as it should be
pub right_length : (l n : ℕ) → l ≡ 1 + 2 * n → (eqb l 0 || differ l (1 + 2 * n)) ≡ false
unfolding differ
right_length l n e = rw (ne_eqb l 0 (λ i. omega arith), eq-eqb l (1 + 2 * n) e)

module _ (row : List ActionSyntax) where
  pub row_words_size : size (row_words row) ≡ row_size row
  unfolding row_words
  row_words_size = table-size (write_row row 0) ∙ row_length row 0

  pub row_words_length : length (row_words row) ≡ 1 + 2 * size (row_words row)
  unfolding row_words
  row_words_length = table_length (write_row row 0) ∙ ap (λ (n : ℕ). 1 + 2 * n) (sym (table-size (write_row row 0)))

  pub row_words_hold : Holds (write_row row 0) (row_words row) 0
  unfolding row_words
  row_words_hold = table_holds (write_row row 0)

  whole : 0 + row_size row ≡ size (row_words row)
  whole = omega (arith, row_words_size)

  -- one comes to the first node of each tree, and to no other node
  pub first-nodes : (i : ℕ) → i < length row → (first_node row i < size (row_words row)) × (on_row (action_children (row_words row)) (size (row_words row)) (first_node row i) ≡ true)
  first-nodes i h =
      let e : first_node row i ≡ 0 + first_node row i = omega arith in
      let a = first_below row i h in
      let b = row_words_size in (
        omega arith,
        row-start (action_children (row_words row)) (size (row_words row)) (first_node row i)
            ∙ ap (on_row_from (action_children (row_words row)) (size (row_words row)) 0) e
            ∙ row_first (row_words row) row i 0 row_words_hold whole h,
      )

  pub only_first_nodes : (v : ℕ) → v < size (row_words row) → on_row (action_children (row_words row)) (size (row_words row)) v ≡ true
      → (i : ℕ) × (i < length row) × (v ≡ first_node row i)
  only_first_nodes v h on =
      let (i, l, e) = row_only (row_words row) row 0 v row_words_hold whole (omega arith) h
      (sym (row-start (action_children (row_words row)) (size (row_words row)) v) ∙ on) in
      (i, l, omega arith)

  module _ (ls : List ℕ) (fits : RowFits (label_count ls) row) where
    row_passes : (v : ℕ) → v < size (row_words row) → (kind (row_words row) v ≤ 5) × (bad_action_operand ls (row_words row) v ≡ false)
    row_passes v h =
        let b = row_words_size in
        row_fine (row_words row) ls row 0 row_words_hold (omega arith) fits.below v (omega arith) (omega arith)

    passes_33 : refusal33 (row_words row) ≡ Ok tt
    unfolding refusal33
    passes_33 = from_none 33 0 (size (row_words row)) (λ v. ltb 5 (kind (row_words row) v)) (λ v a b. le-ltb 5 (kind (row_words row) v) (row_passes v b).0)

    passes_34 : refusal34 ls (row_words row) ≡ Ok tt
    unfolding refusal34
    passes_34 =
        lower_passed (fault_if 34 (size (row_words row)) (not (on_row (action_children (row_words row)) (size (row_words row)) (size (row_words row)))))
        (from_none 34 0 (size (row_words row)) (bad_action_operand ls (row_words row)) (λ v a b. (row_passes v b).1))
        ∙ if-false 34 (size (row_words row))
        (ap not (row-start (action_children (row_words row)) (size (row_words row)) (size (row_words row)) ∙ row-end (row_words row) row 0 row_words_hold whole))

    -- the words of a row within the limits are accepted
    pub written_row_accepted : ActionsAccepted ls (row_words row)
    unfolding refusal31 refusal32
    written_row_accepted =
        record {
          long = if-false 31 0 (right_length (length (row_words row)) (size (row_words row)) row_words_length);
          few = if-false 32 0 (le-ltb most_nodes (size (row_words row)) (omega (arith, fits.few, row_words_size)));
          kinds = passes_33;
          operands = passes_34;
        }

    pub written_row_good : GoodActions (label_count ls) (row_words row)
    written_row_good = let a = written_row_accepted in good_actions ls (row_words row) a.kinds a.operands a.long a.few

    -- and at the first node of each tree they read as the tree
    pub written_row_reads : (i : ℕ) → i < length row → action_tree ls (row_words row) (first_node row i) ≡ read_action ls (get_or row i true_action)
    written_row_reads i h =
        let e : 0 + first_node row i ≡ first_node row i = omega arith in
        let a = first_inside row i h in
        let b = row_words_size in
        action_reads (row_words row) ls written_row_good (get_or row i true_action) (first_node row i)
        (subst (λ (u : ℕ). Holds (write_action (get_or row i true_action) u) (row_words row) u) e (row_tree (row_words row) row i 0 row_words_hold h)) (omega arith)

-- accepted words are the words of a row within the limits
pub accepted_words_are_a_row : (ls acts : List ℕ) → ActionsAccepted ls acts → (row : List ActionSyntax) × RowFits (label_count ls) row × (acts ≡ row_words row)
unfolding row_words
accepted_words_are_a_row ls acts a =
    let good = good_actions ls acts a.kinds a.operands a.long a.few in
    let r = row_from ls acts a.kinds a.operands (size acts) 0 (omega arith)
    (sym (row-start (action_children acts) (size acts) (size acts)) ∙ actions_row ls acts a.kinds a.operands) in (
      r.row,
      record { below = r.below; few = limit good.few r.ends },
      table_only (write_row r.row 0) acts good.sized (omega (arith, r.ends, row_length r.row 0)) r.holds,
    )
  where
    limit : {n m : ℕ} → n ≤ 1_024 → 0 + m ≡ n → m ≤ most_nodes
    limit p q = omega arith

-- and of no other row
pub one-row : (row other : List ActionSyntax) → row_words row ≡ row_words other → row ≡ other
one-row row other e =
    row_same row other (row_words row) 0 (row_words_hold row) (subst (λ (ws : List ℕ). Holds (write_row other 0) ws 0) (sym e) (row_words_hold other))
    (sym (row_words_size row) ∙ ap size e ∙ row_words_size other)
