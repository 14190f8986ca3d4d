-- The checks of the action formulas and of the formula find exactly the faults of document 01. Assumes nothing.
use Prim.Native.Nat.{ℕ, suc, ◌+◌, ◌*◌, ◌≤◌, ◌<◌}
use native.Mathlib.Omega.{arith}
use native.Mathlib.Decide.{ℕ_discrete}
use mathlib.Core.Path.{◌≡◌, refl, sym, ap, ◌∙◌}
use mathlib.Core.Bool.{Bool, true, false, not, ◌&&◌, ◌||◌, true≢false, false≢true}
use mathlib.Core.List.{List, [], ◌∷◌}
use mathlib.Core.Logic.{◌⊎◌, inl, inr}
use mathlib.Core.Option.{Option, none, some}
use lib.ListN.{length}
use lib.Dec.{eqb, ltb, leb}
use borrow.Author.Tests.{ltb-true, leb-true, eqb-true, eqb-false, not-true, lt-ltb, le-leb, eq-eqb, ne_eqb}
use Rattle.rules.specs.Answers.{Check}
use Rattle.rules.specs.Answers.{fault_if}
use Rattle.rules.specs.Lists.{In}
use Rattle.rules.specs.Words.{most_nodes}
use Rattle.rules.specs.Labels.{label_count}
use Rattle.rules.specs.Table.{size, kind, operand, action_children, formula_node, formula_children, reference_of, tree_end}
use Rattle.rules.specs.Table.{is_not_end, is_before_end, on_row}
use Rattle.rules.specs.Formula.{is_fixpoint}
use Rattle.rules.specs.Refusal.{outside, differ, bad_action_operand, names_no_root, bad_formula_operand, wrong_end, encloses}
use Rattle.rules.specs.Refusal as rules
use Rattle.rules.specs.Refusal.{refusal31, refusal32, refusal33, refusal34, refusal41, refusal42, refusal43, refusal44, refusal45}
use Rattle.rules.specs.Rows.{Root}
use Rattle.rules.specs.Faulty.{FaultyActions, no_action_words, wrong_action_words, many_action_nodes, action_kind_too_large, action_not_zero, action_no_label, action_not_right, action_unfinished}
use Rattle.rules.specs.Faulty.{EnclosingFixpoint, FaultyFormula, no_formula_words, wrong_formula_words, no_formula_nodes, many_formula_nodes, formula_kind_too_large, formula_not_zero, formula_not_right}
use Rattle.rules.specs.Faulty.{formula_no_action, formula_no_root, formula_unfinished, formula_left_over, wrong_reference}
use Rattle.tables.proofs.Decode.{action_kinds, formula_kinds, fixpoint_yes, fixpoint_kind}
use Rattle.tables.proofs.Operands.{action_zero, action_label, action_right, action_negated, action_other}
use Rattle.tables.proofs.Operands.{formula_zero, formula_right, formula_action, formula_fixpoint, formula_other}
use Rattle.tables.proofs.Operands.{reference_other, reference_test}
use Rattle.tables.proofs.Order.{Numbered, Finds, Sound, Each, Some, if_numbered, from_numbered, if_finds, from_finds, lower_finds_left, lower_finds_right, if_sound, from_sound, lower_sound}
use Rattle.tables.proofs.Rows.{root_row, row_stops, row_unfinished}
use Rattle.lists.proofs.Tests.{or_left, or_right, or-true, and-true}
use Rattle.tables.proofs.Choices.{differ_true, differ_yes, outside_true, below_outside, above_outside}

-- ---- tests against an end

pub not_end : (r : ℕ) (o : Option ℕ) → is_not_end r o ≡ true → (e : ℕ) × (o ≡ some e) × (¬ (r ≡ e))
unfolding is_not_end
not_end r none h = absurd (false≢true h)
not_end r (some e) h = (e, refl, eqb-false r e (not-true (eqb r e) h))

pub not_end_yes : (r e : ℕ) (o : Option ℕ) → o ≡ some e → (¬ (r ≡ e)) → is_not_end r o ≡ true
unfolding is_not_end
not_end_yes r e o i d = rw i (ap not (ne_eqb r e d))

before_end : (v : ℕ) (o : Option ℕ) → is_before_end v o ≡ true → (e : ℕ) × (o ≡ some e) × (v < e)
unfolding is_before_end
before_end v none h = absurd (false≢true h)
before_end v (some e) h = (e, refl, ltb-true v e h)

before_end_yes : (v e : ℕ) (o : Option ℕ) → o ≡ some e → v < e → is_before_end v o ≡ true
unfolding is_before_end
before_end_yes v e o i l = rw i (lt-ltb v e l)

-- a test whose truth is absurd
not_so : (t : Bool) → (¬ (t ≡ true)) → not t ≡ true
not_so true d = absurd (d refl)
not_so false d = refl

-- ---- tests of what an operand names

module _ (children : ℕ → ℕ) (m a : ℕ) where
  pub no_root : names_no_root children m a ≡ true → (m ≤ a) ⊎ (¬ Root children m a)
  unfolding names_no_root
  no_root e = go (or-true (leb m a) (not (on_row children m a)) e)
    where
      go : (leb m a ≡ true) ⊎ (not (on_row children m a) ≡ true) → (m ≤ a) ⊎ (¬ Root children m a)
      go (inl i) = inl (leb-true m a i)
      go (inr i) = inr (λ r. true≢false (sym ((root_row children m a).1 r) ∙ not-true (on_row children m a) i))

  pub past_no_root : m ≤ a → names_no_root children m a ≡ true
  unfolding names_no_root
  past_no_root l = or_left (not (on_row children m a)) (le-leb m a l)

  pub inner_no_root : (¬ Root children m a) → names_no_root children m a ≡ true
  unfolding names_no_root
  inner_no_root d = or_right (leb m a) (not_so (on_row children m a) (λ t. d ((root_row children m a).0 t)))

-- a kind that is one of two neighbours
pub two_bounds : (a b k : ℕ) → b ≡ suc a → In k (a ∷ b ∷ []) → (a ≤ k) × (k ≤ b)
two_bounds a b k s (inl e) = (omega arith, omega arith)
two_bounds a b k s (inr (inl e)) = (omega arith, omega arith)
two_bounds a b k s (inr (inr z)) = absurd z

-- ---- action formulas

module _ (ls acts : List ℕ) where
  abbrev pub action_checks : List Check
  action_checks = refusal31 acts ∷ refusal32 acts ∷ refusal33 acts ∷ refusal34 ls acts ∷ []

  abbrev F : ℕ → ℕ → Type 0
  F = FaultyActions (label_count ls) acts

  action_length : (eqb (length acts) 0 || differ (length acts) (1 + 2 * size acts)) ≡ true → F 31 0
  action_length e = go (or-true (eqb (length acts) 0) (differ (length acts) (1 + 2 * size acts)) e)
    where
      go : (eqb (length acts) 0 ≡ true) ⊎ (differ (length acts) (1 + 2 * size acts) ≡ true) → F 31 0
      go (inl i) = no_action_words (eqb-true (length acts) 0 i)
      go (inr i) = wrong_action_words (differ_true (length acts) (1 + 2 * size acts) i)

  action_operands : (v : ℕ) → v < size acts → bad_action_operand ls acts v ≡ true → F 34 v
  action_operands v h e = by_kind (kind acts v) refl
    where
      not-zero : In (kind acts v) (0 ∷ 1 ∷ 5 ∷ []) → bad_action_operand ls acts v ≡ differ (operand acts v) 0 → F 34 v
      not-zero m i = action_not_zero v h m (differ_true (operand acts v) 0 (sym i ∙ e))

      right : In (kind acts v) (3 ∷ 4 ∷ []) → 3 ≤ kind acts v → kind acts v ≤ 4 → F 34 v
      right m a b =
          let (x, i, d) =
          not_end (operand acts v) (tree_end (action_children acts) (size acts) (suc v))
          (sym (action_right ls acts v h a b) ∙ e)
          in
          action_not_right v x h m i d

      by_kind : (j : ℕ) → kind acts v ≡ j → F 34 v
      by_kind =
          action_kinds 0 (λ j n. kind acts v ≡ j → F 34 v)
          (λ k. not-zero (inl k) (action_zero ls acts v h (omega arith)))
          (λ k. not-zero (inr (inl k)) (action_zero ls acts v h (omega arith)))
          (λ k. action_no_label v h k (leb-true (label_count ls) (operand acts v) (sym (action_label ls acts v h k) ∙ e)))
          (λ k. right (inl k) (omega arith) (omega arith))
          (λ k. right (inr (inl k)) (omega arith) (omega arith))
          (λ k. not-zero (inr (inr (inl k))) (action_negated ls acts v h k))
          (λ j l k. absurd (false≢true (sym (action_other ls acts v h (omega arith)) ∙ e)))

  action_row : not (on_row (action_children acts) (size acts) (size acts)) ≡ true → F 34 (size acts)
  action_row e =
      let (v, h, i) = row_stops (action_children acts) (size acts) (not-true (on_row (action_children acts) (size acts) (size acts)) e) in
      action_unfinished v h i

  pub action_sound : Each (Sound (FaultyActions (label_count ls) acts)) action_checks
  unfolding refusal31 refusal32 refusal33 refusal34
  action_sound = (
    if_sound F 31 0 _ action_length,
    (
      if_sound F 32 0 _ (λ e. many_action_nodes (ltb-true most_nodes (size acts) e)),
      (
        from_sound F 33 0 (size acts) (λ v. ltb 5 (kind acts v)) (λ v a b e. action_kind_too_large v b (ltb-true 5 (kind acts v) e)),
        (
          lower_sound F 34 _ _ (from_numbered 34 0 (size acts) (bad_action_operand ls acts)) (if_numbered 34 (size acts) _)
              (from_sound F 34 0 (size acts) (bad_action_operand ls acts) (λ v a b e. action_operands v b e))
              (if_sound F 34 (size acts) _ action_row),
          tt,
        ),
      ),
    ),
  )

  zero_bad : (v : ℕ) → v < size acts → In (kind acts v) (0 ∷ 1 ∷ 5 ∷ []) → (¬ (operand acts v ≡ 0)) → bad_action_operand ls acts v ≡ true
  zero_bad v h (inl k) d = action_zero ls acts v h (omega arith) ∙ differ_yes d
  zero_bad v h (inr (inl k)) d = action_zero ls acts v h (omega arith) ∙ differ_yes d
  zero_bad v h (inr (inr (inl k))) d = action_negated ls acts v h k ∙ differ_yes d
  zero_bad v h (inr (inr (inr z))) d = absurd z

  right_bad : (v e : ℕ) → v < size acts → In (kind acts v) (3 ∷ 4 ∷ []) → tree_end (action_children acts) (size acts) (suc v) ≡ some e → (¬ (operand acts v ≡ e))
      → bad_action_operand ls acts v ≡ true
  right_bad v e h m i d =
      let (a, b) = two_bounds 3 4 (kind acts v) refl m in
      action_right ls acts v h a b ∙ not_end_yes (operand acts v) e (tree_end (action_children acts) (size acts) (suc v)) i d

  operand_finds : (v : ℕ) → v < size acts → bad_action_operand ls acts v ≡ true → Finds 34 v (refusal34 ls acts)
  unfolding refusal34
  operand_finds v h e = lower_finds_left 34 v _ _ (from_finds 34 0 (size acts) (bad_action_operand ls acts) v (omega arith) h e)

  row_finds : on_row (action_children acts) (size acts) (size acts) ≡ false → Finds 34 (size acts) (refusal34 ls acts)
  unfolding refusal34
  row_finds e = lower_finds_right 34 (size acts) _ _ (from_numbered 34 0 (size acts) (bad_action_operand ls acts)) (if_finds 34 (size acts) _ (ap not e))

  pub action_finds : {n q : ℕ} → FaultyActions (label_count ls) acts n q → Some (Finds n q) action_checks
  unfolding refusal31 refusal32 refusal33
  action_finds (no_action_words i) = inl (if_finds 31 0 _ (or_left (differ (length acts) (1 + 2 * size acts)) (eq-eqb (length acts) 0 i)))
  action_finds (wrong_action_words d) =
      inl (if_finds 31 0 _ (or_right (eqb (length acts) 0) (differ_yes d)))
  action_finds (many_action_nodes l) = inr (inl (if_finds 32 0 _ (lt-ltb most_nodes (size acts) l)))
  action_finds (action_kind_too_large v h l) = inr (inr (inl (from_finds 33 0 (size acts) (λ u. ltb 5 (kind acts u)) v (omega arith) h (lt-ltb 5 (kind acts v) l))))
  action_finds (action_not_zero v h m d) = inr (inr (inr (inl (operand_finds v h (zero_bad v h m d)))))
  action_finds (action_no_label v h k l) = inr (inr (inr (inl (operand_finds v h (action_label ls acts v h k ∙ le-leb (label_count ls) (operand acts v) l)))))
  action_finds (action_not_right v e h m i d) = inr (inr (inr (inl (operand_finds v h (right_bad v e h m i d)))))
  action_finds (action_unfinished v h i) = inr (inr (inr (inl (row_finds (row_unfinished (action_children acts) (size acts) v h i)))))

-- ---- the formula

module _ (children : ℕ → ℕ) (named : ℕ) (f : List ℕ) where
  abbrev pub formula_checks : List Check
  formula_checks = refusal41 f ∷ refusal42 f ∷ refusal43 f ∷ refusal44 (names_no_root children named) f ∷ refusal45 f ∷ []

  abbrev G : ℕ → ℕ → Type 0
  G = FaultyFormula children named f

  formula_length : (eqb (length f) 0 || differ (length f) (1 + 2 * size f)) ≡ true → G 41 0
  formula_length e = go (or-true (eqb (length f) 0) (differ (length f) (1 + 2 * size f)) e)
    where
      go : (eqb (length f) 0 ≡ true) ⊎ (differ (length f) (1 + 2 * size f) ≡ true) → G 41 0
      go (inl i) = no_formula_words (eqb-true (length f) 0 i)
      go (inr i) = wrong_formula_words (differ_true (length f) (1 + 2 * size f) i)

  formula-size : outside 1 most_nodes (size f) ≡ true → G 42 0
  formula-size e = go (outside_true 1 most_nodes (size f) e)
    where
      go : (size f < 1) ⊎ (most_nodes < size f) → G 42 0
      go (inl l) = no_formula_nodes l
      go (inr l) = many_formula_nodes l

  formula_operands : (v : ℕ) → v < size f → bad_formula_operand (names_no_root children named) f v ≡ true → G 44 v
  formula_operands v h e = by_kind (kind f v) refl
    where
      not-zero : In (kind f v) (0 ∷ 1 ∷ 6 ∷ 7 ∷ []) → bad_formula_operand (names_no_root children named) f v ≡ differ (operand f v) 0
          → G 44 v
      not-zero m i = formula_not_zero v h m (differ_true (operand f v) 0 (sym i ∙ e))

      right : In (kind f v) (2 ∷ 3 ∷ []) → 2 ≤ kind f v → kind f v ≤ 3 → G 44 v
      right m a b =
          let (x, i, d) =
          not_end (operand f v) (tree_end (formula_children f) (size f) (suc v))
          (sym (formula_right (names_no_root children named) f v h a b) ∙ e)
          in
          formula_not_right v x h m i d

      which : In (kind f v) (4 ∷ 5 ∷ []) → (named ≤ operand f v) ⊎ (¬ Root children named (operand f v)) → G 44 v
      which m (inl l) = formula_no_action v h m l
      which m (inr d) = formula_no_root v h m d

      action : In (kind f v) (4 ∷ 5 ∷ []) → 4 ≤ kind f v → kind f v ≤ 5 → G 44 v
      action m a b =
          which m (no_root children named (operand f v) (sym (formula_action (names_no_root children named) f v h a b) ∙ e))

      by_kind : (j : ℕ) → kind f v ≡ j → G 44 v
      by_kind =
          formula_kinds 0 (λ j n. kind f v ≡ j → G 44 v)
          (λ k. not-zero (inl k) (formula_zero (names_no_root children named) f v h (omega arith)))
          (λ k. not-zero (inr (inl k)) (formula_zero (names_no_root children named) f v h (omega arith)))
          (λ k. right (inl k) (omega arith) (omega arith))
          (λ k. right (inr (inl k)) (omega arith) (omega arith))
          (λ k. action (inl k) (omega arith) (omega arith))
          (λ k. action (inr (inl k)) (omega arith) (omega arith))
          (λ k. not-zero (inr (inr (inl k))) (formula_fixpoint (names_no_root children named) f v h (omega arith) (omega arith)))
          (λ k. not-zero (inr (inr (inr (inl k))))
          (formula_fixpoint (names_no_root children named) f v h (omega arith) (omega arith)))
          (λ k. absurd (false≢true (sym (formula_other (names_no_root children named) f v h (omega arith)) ∙ e)))
          (λ j l k. absurd (false≢true (sym (formula_other (names_no_root children named) f v h (omega arith)) ∙ e)))

  end_sound : (o : Option ℕ) → tree_end (formula_children f) (size f) 0 ≡ o → Sound G (wrong_end (size f) o)
  unfolding wrong_end fault_if
  end_sound none i = if_sound G 44 (size f) true (λ t. formula_unfinished i)
  end_sound (some e) i = if_sound G 44 e (ltb e (size f)) (λ t. formula_left_over e i (ltb-true e (size f) t))

  pub end_numbered : (o : Option ℕ) → Numbered 44 (wrong_end (size f) o)
  unfolding wrong_end fault_if
  end_numbered none = if_numbered 44 (size f) true
  end_numbered (some e) = if_numbered 44 e (ltb e (size f))

  -- ---- references

  enclosing_yes : (u v : ℕ) → v < size f → EnclosingFixpoint f u v → (is_fixpoint (formula_node f u) && encloses f u v) ≡ true
  unfolding encloses
  enclosing_yes u v h r =
      let a : is_fixpoint (formula_node f u) ≡ true = fix r.fixpoint in
      let b : ltb u v ≡ true = lt-ltb u v r.before in
      let c : is_before_end v (tree_end (formula_children f) (size f) u) ≡ true = before_end_yes v r.past _ r.ends r.inside in
      rw (a, b, c)
    where
      inside : u < size f
      inside = let l = r.before in omega arith

      fix : In (kind f u) (6 ∷ 7 ∷ []) → is_fixpoint (formula_node f u) ≡ true
      fix (inl k) = fixpoint_yes f u inside (omega arith) (omega arith)
      fix (inr (inl k)) = fixpoint_yes f u inside (omega arith) (omega arith)
      fix (inr (inr z)) = absurd z

  yes_enclosing : (u v : ℕ) → (is_fixpoint (formula_node f u) && encloses f u v) ≡ true → EnclosingFixpoint f u v
  unfolding encloses
  yes_enclosing u v e =
      let (a, b) = and-true (is_fixpoint (formula_node f u)) (encloses f u v) e in
      let (c, d) = and-true (ltb u v) (is_before_end v (tree_end (formula_children f) (size f) u)) b in
      let (x, i, l) = before_end v (tree_end (formula_children f) (size f) u) d in
      let (p, q, s) = fixpoint_kind f u a in
      record { fixpoint = fix q s (ℕ_discrete (kind f u) 6); before = ltb-true u v c; past = x; ends = i; inside = l }
    where
      fix : 6 ≤ kind f u → kind f u ≤ 7 → Dec (kind f u ≡ 6) → In (kind f u) (6 ∷ 7 ∷ [])
      fix a b (yes k) = inl k
      fix a b (no k) = let o : kind f u ≡ 7 = omega arith in inr (inl o)

  references : (v : ℕ) → v < size f → rules.wrong_reference f v (reference_of (formula_node f v)) ≡ true → G 45 v
  references v h e = go (ℕ_discrete (kind f v) 8)
    where
      go : Dec (kind f v ≡ 8) → G 45 v
      go (no d) = absurd (false≢true (sym (reference_other f v h d) ∙ e))
      go (yes o) =
          wrong_reference v h o
          (λ r. true≢false
          (sym (enclosing_yes (operand f v) v h r)
          ∙ not-true (is_fixpoint (formula_node f (operand f v)) && encloses f (operand f v) v) (sym (reference_test f v h o) ∙ e)))

  pub formula_sound : Each (Sound (FaultyFormula children named f)) formula_checks
  unfolding refusal41 refusal42 refusal43 refusal44 refusal45
  formula_sound = (
    if_sound G 41 0 _ formula_length,
    (
      if_sound G 42 0 _ formula-size,
      (
        from_sound G 43 0 (size f) (λ v. ltb 8 (kind f v)) (λ v a b e. formula_kind_too_large v b (ltb-true 8 (kind f v) e)),
        (
          lower_sound G 44 _ _ (from_numbered 44 0 (size f) (bad_formula_operand (names_no_root children named) f))
              (end_numbered (tree_end (formula_children f) (size f) 0))
              (from_sound G 44 0 (size f) (bad_formula_operand (names_no_root children named) f) (λ v a b e. formula_operands v b e))
              (end_sound (tree_end (formula_children f) (size f) 0) refl),
          (
            from_sound G 45 0 (size f) (λ v. rules.wrong_reference f v (reference_of (formula_node f v)))
                (λ v a b e. references v b e),
            tt,
          ),
        ),
      ),
    ),
  )

  not_zero_bad : (v : ℕ) → v < size f → In (kind f v) (0 ∷ 1 ∷ 6 ∷ 7 ∷ []) → (¬ (operand f v ≡ 0))
      → bad_formula_operand (names_no_root children named) f v ≡ true
  not_zero_bad v h (inl k) d = formula_zero (names_no_root children named) f v h (omega arith) ∙ differ_yes d
  not_zero_bad v h (inr (inl k)) d = formula_zero (names_no_root children named) f v h (omega arith) ∙ differ_yes d
  not_zero_bad v h (inr (inr (inl k))) d =
      formula_fixpoint (names_no_root children named) f v h (omega arith) (omega arith) ∙ differ_yes d
  not_zero_bad v h (inr (inr (inr (inl k)))) d =
      formula_fixpoint (names_no_root children named) f v h (omega arith) (omega arith) ∙ differ_yes d
  not_zero_bad v h (inr (inr (inr (inr z)))) d = absurd z

  not_right_bad : (v e : ℕ) → v < size f → In (kind f v) (2 ∷ 3 ∷ []) → tree_end (formula_children f) (size f) (suc v)
      ≡ some e → (¬ (operand f v ≡ e)) → bad_formula_operand (names_no_root children named) f v ≡ true
  not_right_bad v e h m i d =
      let (a, b) = two_bounds 2 3 (kind f v) refl m in
      formula_right (names_no_root children named) f v h a b
      ∙ not_end_yes (operand f v) e (tree_end (formula_children f) (size f) (suc v)) i d

  no_action_bad : (v : ℕ) → v < size f → In (kind f v) (4 ∷ 5 ∷ []) → named ≤ operand f v
      → bad_formula_operand (names_no_root children named) f v ≡ true
  no_action_bad v h m l =
      let (a, b) = two_bounds 4 5 (kind f v) refl m in
      formula_action (names_no_root children named) f v h a b ∙ past_no_root children named (operand f v) l

  no_root_bad : (v : ℕ) → v < size f → In (kind f v) (4 ∷ 5 ∷ [])
      → (¬ Root children named (operand f v)) → bad_formula_operand (names_no_root children named) f v ≡ true
  no_root_bad v h m d =
      let (a, b) = two_bounds 4 5 (kind f v) refl m in
      formula_action (names_no_root children named) f v h a b ∙ inner_no_root children named (operand f v) d

  operand_found : (v : ℕ) → v < size f → bad_formula_operand (names_no_root children named) f v ≡ true
      → Finds 44 v (refusal44 (names_no_root children named) f)
  unfolding refusal44
  operand_found v h e =
      lower_finds_left 44 v _ _ (from_finds 44 0 (size f) (bad_formula_operand (names_no_root children named) f) v (omega arith) h e)

  end_finds : (q : ℕ) (o : Option ℕ) → tree_end (formula_children f) (size f) 0 ≡ o → Finds 44 q (wrong_end (size f) o)
      → Finds 44 q (refusal44 (names_no_root children named) f)
  unfolding refusal44
  end_finds q o i h =
      lower_finds_right 44 q _ _ (from_numbered 44 0 (size f) (bad_formula_operand (names_no_root children named) f)) (rw i h)

  unfinished_finds : Finds 44 (size f) (wrong_end (size f) none)
  unfolding wrong_end
  unfinished_finds = (size f, refl, omega arith)

  left_over_finds : (e : ℕ) → e < size f → Finds 44 e (wrong_end (size f) (some e))
  unfolding wrong_end
  left_over_finds e l = if_finds 44 e _ (lt-ltb e (size f) l)

  reference_bad : (v : ℕ) → v < size f → kind f v ≡ 8 → (¬ EnclosingFixpoint f (operand f v) v)
      → rules.wrong_reference f v (reference_of (formula_node f v)) ≡ true
  reference_bad v h k d =
      reference_test f v h k ∙ not_so (is_fixpoint (formula_node f (operand f v)) && encloses f (operand f v) v) (λ t. d (yes_enclosing (operand f v) v t))

  pub formula_finds : {n q : ℕ} → FaultyFormula children named f n q → Some (Finds n q) formula_checks
  unfolding refusal41 refusal42 refusal43 refusal45
  formula_finds (no_formula_words i) = inl (if_finds 41 0 _ (or_left (differ (length f) (1 + 2 * size f)) (eq-eqb (length f) 0 i)))
  formula_finds (wrong_formula_words d) =
      inl (if_finds 41 0 _ (or_right (eqb (length f) 0) (differ_yes d)))
  formula_finds (no_formula_nodes l) = inr (inl (if_finds 42 0 _ (below_outside most_nodes l)))
  formula_finds (many_formula_nodes l) = inr (inl (if_finds 42 0 _ (above_outside 1 l)))
  formula_finds (formula_kind_too_large v h l) = inr (inr (inl (from_finds 43 0 (size f) (λ u. ltb 8 (kind f u)) v (omega arith) h (lt-ltb 8 (kind f v) l))))
  formula_finds (formula_not_zero v h m d) = inr (inr (inr (inl (operand_found v h (not_zero_bad v h m d)))))
  formula_finds (formula_not_right v e h m i d) = inr (inr (inr (inl (operand_found v h (not_right_bad v e h m i d)))))
  formula_finds (formula_no_action v h m l) = inr (inr (inr (inl (operand_found v h (no_action_bad v h m l)))))
  formula_finds (formula_no_root v h m d) = inr (inr (inr (inl (operand_found v h (no_root_bad v h m d)))))
  formula_finds (formula_unfinished i) = inr (inr (inr (inl (end_finds (size f) none i unfinished_finds))))
  formula_finds (formula_left_over e i l) = inr (inr (inr (inl (end_finds e (some e) i (left_over_finds e l)))))
  formula_finds (wrong_reference v h k d) =
      inr (inr (inr (inr (inl
      (from_finds 45 0 (size f) (λ u. rules.wrong_reference f u (reference_of (formula_node f u))) v (omega arith) h
      (reference_bad v h k d))))))
