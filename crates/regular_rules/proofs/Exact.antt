-- Refusals of an expansion are exact: it is refused with fault n at place p exactly if that is the first fault, in the
-- order of the numbers that the request gives and then of places; it is not refused exactly if there is no fault.
-- Assumes nothing.
use mathlib.Core.Path.{◌≡◌, refl, sym, ap, ◌∙◌}
use mathlib.Core.Bool.{Bool, true, false, not, ◌||◌}
use mathlib.Core.List.{List, [], ◌∷◌, ◌++◌}
use mathlib.Core.Logic.{◌⊎◌, inl, inr, ◌↔◌}
use Prim.Native.Nat.{ℕ, suc, ◌+◌, ◌*◌, ◌≤◌, ◌<◌}
use native.Mathlib.Omega.{arith}
use lib.ListN.{length}
use lib.Dec.{eqb, ltb}
use borrow.Author.Tests.{ltb-true, eqb-true, not-true, not-false, lt-ltb, eq-eqb}
use Rattle.std.specs.declared.result.Result.TheVariants.{Ok}
use Rattle.rules.specs.Lists.{In, every, position}
use Rattle.rules.specs.Words.{most_nodes}
use Rattle.rules.specs.Answers.{Check, fault}
use Rattle.rules.specs.Labels.{label_count}
use Rattle.rules.specs.Table.{size, kind, operand, action_children, regular_children, tree_end, on_row}
use Rattle.rules.specs.Refusal.{differ, refusal11, refusal12, refusal13, refusal31, refusal32, refusal33, refusal34}
use Rattle.rules.specs.Refusal.{refusal41, refusal42, refusal43, refusal44, refusal45}
use Rattle.rules.specs.Rows.{Root}
use Rattle.rules.specs.Faulty.{FaultyLabels, FaultyActions, FaultyFormula}
use Rattle.lists.proofs.Tests.{or_left, or_right, or-true}
use Rattle.lists.proofs.Tallies.{every-at, every-not}
use Rattle.tables.proofs.Choices.{differ_true, differ_yes}
use Rattle.tables.proofs.Decode.{regular_kinds}
use Rattle.tables.proofs.Rows.{row_stops, row_unfinished}
use Rattle.tables.proofs.Order.{Finds, Sound, Each, Some, Rising, each_map, each_append, some_left, some_right}
use Rattle.tables.proofs.Order.{if_numbered, from_numbered, lower_numbered, if_sound, if_finds}
use Rattle.tables.proofs.Order.{first_exact, passed_exact, none_or_first}
use Rattle.tables.proofs.FaultyWords.{label_checks, label_sound, label_finds}
use Rattle.tables.proofs.FaultyTables.{action_checks, action_sound, action_finds}
use Rattle.tables.proofs.FaultyTables.{formula_checks, formula_sound, formula_finds, end_numbered}
use Rattle.tables.proofs.FaultyTables.{not_end, not_end_yes, no_root, past_no_root, inner_no_root, two_bounds}
use Rattle.regular_rules.specs.Refusals.{RegularInput, table_length, refusal_out, bad_regular_operand, malformed}
use Rattle.regular_rules.specs.Refusals.{refusal61, expanded_size, refusal62, expansion_refusal}
use Rattle.regular_rules.specs.Faulty.{Malformed, no_regular_words, wrong_regular_words, many_regular_nodes}
use Rattle.regular_rules.specs.Faulty.{regular_kind_too_large, regular_no_action, regular_no_root, regular_not_right}
use Rattle.regular_rules.specs.Faulty.{regular_not_zero, regular_unfinished}
use Rattle.regular_rules.specs.Faulty.{FaultyExpansion, wrong_out, wrong_labels, wrong_actions, wrong_regulars}
use Rattle.regular_rules.specs.Faulty.{wrong_formula, too_many_nodes, expansion_turn, FirstFaultyExpansion}
use Rattle.regular_rules.proofs.Regulars.{regular_names, regular_right, regular_zero}
use Rattle.regular_rules.proofs.Theorems.{expansion_checks, expansion_whole}

-- ---- 61

module _ (acts regs : List ℕ) where
  -- the four tests of `malformed`
  abbrev wrong_words : Bool
  wrong_words = eqb (length regs) 0 || differ (length regs) (1 + 2 * size regs)

  abbrev many_nodes : Bool
  many_nodes = ltb most_nodes (size regs)

  abbrev bad_node : ℕ → Bool
  bad_node v = ltb 4 (kind regs v) || bad_regular_operand acts regs v

  abbrev bad_nodes : Bool
  bad_nodes = not (every (λ v. not (bad_node v)) 0 (size regs))

  abbrev unfinished : Bool
  unfinished = not (on_row (regular_children regs) (size regs) (size regs))

  malformed_parts : malformed acts regs ≡ (wrong_words || (many_nodes || (bad_nodes || unfinished)))
  unfolding malformed
  malformed_parts = refl

  -- ---- what is found is a fault

  words_sound : wrong_words ≡ true → Malformed acts regs
  words_sound e = go (or-true (eqb (length regs) 0) (differ (length regs) (1 + 2 * size regs)) e)
    where
      go : (eqb (length regs) 0 ≡ true) ⊎ (differ (length regs) (1 + 2 * size regs) ≡ true) → Malformed acts regs
      go (inl i) = no_regular_words (eqb-true (length regs) 0 i)
      go (inr i) = wrong_regular_words (differ_true (length regs) (1 + 2 * size regs) i)

  operand_sound : (v : ℕ) → v < size regs → bad_regular_operand acts regs v ≡ true → Malformed acts regs
  operand_sound v h e = by_kind (kind regs v) refl
    where
      names : kind regs v ≡ 0 → (size acts ≤ operand regs v) ⊎ (¬ Root (action_children acts) (size acts) (operand regs v))
          → Malformed acts regs
      names k (inl l) = regular_no_action v h k l
      names k (inr d) = regular_no_root v h k d

      right : In (kind regs v) (1 ∷ 2 ∷ []) → Malformed acts regs
      right m =
          let (a, b) = two_bounds 1 2 (kind regs v) refl m in
          let (x, i, d) = not_end (operand regs v) (tree_end (regular_children regs) (size regs) (suc v))
          (sym (regular_right acts regs v h a b) ∙ e) in
          regular_not_right v x h m i d

      zero-operand : In (kind regs v) (3 ∷ 4 ∷ []) → Malformed acts regs
      zero-operand m =
          let (a, b) = two_bounds 3 4 (kind regs v) refl m in
          regular_not_zero v h m (differ_true (operand regs v) 0 (sym (regular_zero acts regs v h a b) ∙ e))

      by_kind : (j : ℕ) → kind regs v ≡ j → Malformed acts regs
      by_kind =
          regular_kinds 0 (λ j n. kind regs v ≡ j → Malformed acts regs)
          (λ k. names k (no_root (action_children acts) (size acts) (operand regs v) (sym (regular_names acts regs v h k) ∙ e)))
          (λ k. right (inl k))
          (λ k. right (inr (inl k)))
          (λ k. zero-operand (inl k))
          (λ k. zero-operand (inr (inl k)))
          (λ j l k. regular_kind_too_large v h (omega arith))

  nodes_sound : bad_nodes ≡ true → Malformed acts regs
  nodes_sound e =
      let (v, a, l, i) = every-not (λ u. not (bad_node u)) 0 (size regs) (not-true (every (λ u. not (bad_node u)) 0 (size regs)) e) in
      go v (omega arith) (or-true (ltb 4 (kind regs v)) (bad_regular_operand acts regs v) (not-false (bad_node v) i))
    where
      go : (v : ℕ) → v < size regs → (ltb 4 (kind regs v) ≡ true) ⊎ (bad_regular_operand acts regs v ≡ true) → Malformed acts regs
      go v h (inl i) = regular_kind_too_large v h (ltb-true 4 (kind regs v) i)
      go v h (inr i) = operand_sound v h i

  row_sound : unfinished ≡ true → Malformed acts regs
  row_sound e =
      let (v, h, i) = row_stops (regular_children regs) (size regs) (not-true (on_row (regular_children regs) (size regs) (size regs)) e) in
      regular_unfinished v h i

  malformed_sound : malformed acts regs ≡ true → Malformed acts regs
  malformed_sound e = first (or-true wrong_words (many_nodes || (bad_nodes || unfinished)) (sym malformed_parts ∙ e))
    where
      third : (bad_nodes ≡ true) ⊎ (unfinished ≡ true) → Malformed acts regs
      third (inl i) = nodes_sound i
      third (inr i) = row_sound i

      second : (many_nodes ≡ true) ⊎ ((bad_nodes || unfinished) ≡ true) → Malformed acts regs
      second (inl i) = many_regular_nodes (ltb-true most_nodes (size regs) i)
      second (inr i) = third (or-true bad_nodes unfinished i)

      first : (wrong_words ≡ true) ⊎ ((many_nodes || (bad_nodes || unfinished)) ≡ true) → Malformed acts regs
      first (inl i) = words_sound i
      first (inr i) = second (or-true many_nodes (bad_nodes || unfinished) i)

  -- ---- every fault is found

  words_found : wrong_words ≡ true → malformed acts regs ≡ true
  words_found e = malformed_parts ∙ or_left (many_nodes || (bad_nodes || unfinished)) e

  later_found : (many_nodes || (bad_nodes || unfinished)) ≡ true → malformed acts regs ≡ true
  later_found e = malformed_parts ∙ or_right wrong_words e

  node_found : (v : ℕ) → v < size regs → bad_node v ≡ true → malformed acts regs ≡ true
  node_found v h e = later_found (or_right many_nodes (or_left unfinished (go (every (λ u. not (bad_node u)) 0 (size regs)) refl)))
    where
      go : (b : Bool) → every (λ u. not (bad_node u)) 0 (size regs) ≡ b → not b ≡ true
      go true i = sym (ap not e) ∙ every-at (λ u. not (bad_node u)) 0 (size regs) i v (omega arith) (omega arith)
      go false i = refl

  operand_found : (v : ℕ) → v < size regs → bad_regular_operand acts regs v ≡ true → malformed acts regs ≡ true
  operand_found v h e = node_found v h (or_right (ltb 4 (kind regs v)) e)

  malformed_finds : Malformed acts regs → malformed acts regs ≡ true
  malformed_finds (no_regular_words i) = words_found (or_left (differ (length regs) (1 + 2 * size regs)) (eq-eqb (length regs) 0 i))
  malformed_finds (wrong_regular_words d) = words_found (or_right (eqb (length regs) 0) (differ_yes d))
  malformed_finds (many_regular_nodes l) = later_found (or_left (bad_nodes || unfinished) (lt-ltb most_nodes (size regs) l))
  malformed_finds (regular_kind_too_large v h l) = node_found v h (or_left (bad_regular_operand acts regs v) (lt-ltb 4 (kind regs v) l))
  malformed_finds (regular_no_action v h k l) =
      operand_found v h (regular_names acts regs v h k ∙ past_no_root (action_children acts) (size acts) (operand regs v) l)
  malformed_finds (regular_no_root v h k d) =
      operand_found v h (regular_names acts regs v h k ∙ inner_no_root (action_children acts) (size acts) (operand regs v) d)
  malformed_finds (regular_not_right v e h m i d) =
      let (a, b) = two_bounds 1 2 (kind regs v) refl m in
      operand_found v h (regular_right acts regs v h a b ∙ not_end_yes (operand regs v) e (tree_end (regular_children regs) (size regs) (suc v)) i d)
  malformed_finds (regular_not_zero v h m d) =
      let (a, b) = two_bounds 3 4 (kind regs v) refl m in
      operand_found v h (regular_zero acts regs v h a b ∙ differ_yes d)
  malformed_finds (regular_unfinished v h i) =
      later_found (or_right many_nodes (or_right bad_nodes (ap not (row_unfinished (regular_children regs) (size regs) v h i))))

  pub malformed_exactly : malformed acts regs ≡ true ↔ Malformed acts regs
  malformed_exactly = (malformed_sound, malformed_finds)

-- ---- all refusals, in the order of the request

module _ (x : RegularInput) (out : ℕ) where
  abbrev F : ℕ → ℕ → Type 0
  F = FaultyExpansion x out

  abbrev outs : List Check
  outs = refusal_out out ∷ []

  abbrev labels : List Check
  labels = label_checks x.labels

  abbrev actions : List Check
  actions = action_checks x.labels x.actions

  abbrev regulars : List Check
  regulars = refusal61 x.actions x.regulars ∷ []

  abbrev formulas : List Check
  formulas = formula_checks (regular_children x.regulars) (size x.regulars) x.formula

  abbrev sizes : List Check
  sizes = refusal62 x.regulars x.formula ∷ []

  abbrev checks : List Check
  checks = expansion_checks x out

  sound : Each (Sound F) checks
  unfolding refusal_out refusal61 refusal62
  sound =
      each_append (Sound F) outs (labels ++ (actions ++ (regulars ++ (formulas ++ sizes))))
      (if_sound F 2 0 _ (λ e. wrong_out (differ_true out table_length e)), tt)
      (each_append (Sound F) labels (actions ++ (regulars ++ (formulas ++ sizes)))
      (each_map (Sound (FaultyLabels x.labels)) (Sound F) (λ c h n p e. wrong_labels (h n p e)) labels (label_sound x.labels))
      (each_append (Sound F) actions (regulars ++ (formulas ++ sizes))
      (each_map (Sound (FaultyActions (label_count x.labels) x.actions)) (Sound F) (λ c h n p e. wrong_actions (h n p e)) actions (action_sound x.labels x.actions))
      (each_append (Sound F) regulars (formulas ++ sizes)
      (if_sound F 61 0 _ (λ e. wrong_regulars (malformed_sound x.actions x.regulars e)), tt)
      (each_append (Sound F) formulas sizes
      (each_map (Sound (FaultyFormula (regular_children x.regulars) (size x.regulars) x.formula)) (Sound F) (λ c h n p e. wrong_formula (h n p e)) formulas
      (formula_sound (regular_children x.regulars) (size x.regulars) x.formula))
      (if_sound F 62 0 _ (λ e. too_many_nodes (ltb-true most_nodes (expanded_size x.regulars x.formula) e)), tt)))))

  -- what is found by the checks after the first, after those of the labels, after those of the action formulas
  after_outs : {n q : ℕ} → Some (Finds n q) (labels ++ (actions ++ (regulars ++ (formulas ++ sizes)))) → Some (Finds n q) checks
  after_outs {n} {q} h = some_right (Finds n q) outs (labels ++ (actions ++ (regulars ++ (formulas ++ sizes)))) h

  after_labels : {n q : ℕ} → Some (Finds n q) (actions ++ (regulars ++ (formulas ++ sizes))) → Some (Finds n q) checks
  after_labels {n} {q} h = after_outs (some_right (Finds n q) labels (actions ++ (regulars ++ (formulas ++ sizes))) h)

  after_actions : {n q : ℕ} → Some (Finds n q) (regulars ++ (formulas ++ sizes)) → Some (Finds n q) checks
  after_actions {n} {q} h = after_labels (some_right (Finds n q) actions (regulars ++ (formulas ++ sizes)) h)

  finds : (n q : ℕ) → FaultyExpansion x out n q → Some (Finds n q) checks
  unfolding refusal_out refusal61 refusal62
  finds n q (wrong_out d) = inl (if_finds 2 0 _ (differ_yes d))
  finds n q (wrong_labels h) =
      after_outs (some_left (Finds n q) labels (actions ++ (regulars ++ (formulas ++ sizes))) (label_finds x.labels h))
  finds n q (wrong_actions h) =
      after_labels (some_left (Finds n q) actions (regulars ++ (formulas ++ sizes)) (action_finds x.labels x.actions h))
  finds n q (wrong_regulars m) = after_actions (inl (if_finds 61 0 _ (malformed_finds x.actions x.regulars m)))
  finds n q (wrong_formula h) =
      after_actions
      (inr (some_left (Finds n q) formulas sizes (formula_finds (regular_children x.regulars) (size x.regulars) x.formula h)))
  finds n q (too_many_nodes l) =
      after_actions (inr (some_right (Finds 62 0) formulas sizes (inl (if_finds 62 0 _ (lt-ltb most_nodes (expanded_size x.regulars x.formula) l)))))

  -- ---- the numbers come in the order of the request

  -- of the formula and of the result, after 61
  formulas_rise : Rising expansion_turn (suc (expansion_turn 61)) (formulas ++ sizes)
  unfolding expansion_turn position refusal41 refusal42 refusal43 refusal44 refusal45 refusal62
  formulas_rise = (
    41,
    omega arith,
    if_numbered 41 0 _,
    (
      42,
      omega arith,
      if_numbered 42 0 _,
      (
        43,
        omega arith,
        from_numbered 43 _ _ _,
        (
          44,
          omega arith,
          lower_numbered 44 _ _ (from_numbered 44 _ _ _) (end_numbered (regular_children x.regulars) (size x.regulars) x.formula _),
          (
            45,
            omega arith,
            from_numbered 45 _ _ _,
            (62, omega arith, if_numbered 62 0 _, tt),
          ),
        ),
      ),
    ),
  )

  -- of the action formulas and of the regular formulas, after 13
  actions_rise : Rising expansion_turn (suc (expansion_turn 13)) (actions ++ (regulars ++ (formulas ++ sizes)))
  unfolding expansion_turn position refusal31 refusal32 refusal33 refusal34 refusal61
  actions_rise = (
    31,
    omega arith,
    if_numbered 31 0 _,
    (
      32,
      omega arith,
      if_numbered 32 0 _,
      (
        33,
        omega arith,
        from_numbered 33 _ _ _,
        (
          34,
          omega arith,
          lower_numbered 34 _ _ (from_numbered 34 _ _ _) (if_numbered 34 _ _),
          (61, omega arith, if_numbered 61 0 _, formulas_rise),
        ),
      ),
    ),
  )

  rising : Rising expansion_turn 0 checks
  unfolding expansion_turn position refusal_out refusal11 refusal12 refusal13
  rising = (
    2,
    omega arith,
    if_numbered 2 0 _,
    (
      11,
      omega arith,
      if_numbered 11 0 _,
      (
        12,
        omega arith,
        if_numbered 12 0 _,
        (13, omega arith, from_numbered 13 _ _ _, actions_rise),
      ),
    ),
  )

  pub expansion_exact : (n p : ℕ) → expansion_refusal x out ≡ fault n p ↔ FirstFaultyExpansion x out n p
  expansion_exact n p = rw (expansion_whole x out) (first_exact expansion_turn F checks sound finds rising n p)

  pub expansion_passed : expansion_refusal x out ≡ Ok tt ↔ ((n p : ℕ) → ¬ FaultyExpansion x out n p)
  expansion_passed = rw (expansion_whole x out) (passed_exact expansion_turn F checks sound finds rising)

  -- there is no fault or a first one
  pub expansion_none_or_first : ((n p : ℕ) → ¬ FaultyExpansion x out n p) ⊎ ((n : ℕ) × (p : ℕ) × FirstFaultyExpansion x out n p)
  expansion_none_or_first = none_or_first expansion_turn F checks sound finds rising
