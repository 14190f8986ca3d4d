-- Accepted words of a formula are the writing of a closed formula, and a formula is written in its own way. Assumes
-- nothing.
use mathlib.Core.Path.{◌≡◌, refl, sym, ap, ap₂, ◌∙◌, subst}
use mathlib.Core.Bool.{true, false, cond, true≢false, false≢true}
use mathlib.Core.Logic.{inl, inr}
use mathlib.Core.List.{List, [], ◌∷◌, ◌++◌}
use mathlib.Core.Option.{Option, none, some, some-injective}
use Prim.Native.Nat.{ℕ, zero, suc, ◌+◌, ◌-◌, ◌≤◌, ◌<◌}
use native.Mathlib.Decide.{dec_lt, ℕ_discrete}
use native.Mathlib.Omega.{arith}
use lib.ListN.{length, get_or}
use lib.Dec.{eqb, ltb}
use borrow.Author.Tests.{ltb-true, lt-ltb, le-ltb}
use Rattle.std.specs.declared.result.Result.TheVariants.{Ok}
use Rattle.rules.specs.Lists.{In, position}
use Rattle.rules.specs.Table.{size, kind, operand, decode_formula}
use Rattle.rules.specs.Table.{on_row, formula_node, formula_children, tree_end, is_before_end}
use Rattle.rules.specs.Formula.{is_fixpoint}
use Rattle.rules.specs.Refusal.{fault_from, names_no_root, bad_formula_operand, wrong_end, refusal43, refusal44, refusal45}
use Rattle.lists.specs.Shapes.{Falling}
use Rattle.lists.proofs.Members.{position_below, position_at, position-of}
use Rattle.lists.proofs.Shapes.{falling_above, falling_distinct}
use Rattle.lists.proofs.Equalities.{number_equality}
use Rattle.tables.proofs.Ends.{end_bounds, end_leaf, end_one}
use Rattle.tables.proofs.Finished.{tree_inside}
use Rattle.tables.proofs.Decode.{formula_at, formula_kinds, formula_children_none, formula_children_one, formula_children_reference}
use Rattle.tables.proofs.Decode.{fixpoint_low}
use Rattle.tables.proofs.Operands.{formula_zero, formula_fixpoint}
use Rattle.tables.proofs.Faults.{from_passed, lower_both}
use Rattle.tables.proofs.Accepted.{formula_known, formula_right_child, formula_names, formula_refers}
use Rattle.writing.specs.ActionSyntax.{ActionSyntax, action_size, first_node}
use Rattle.writing.specs.FormulaSyntax.{FormulaOver, FormulaSyntax, Fits, formula_words, words_over, true_formula, false_formula, and_formula, or_formula, box_formula, diamond_formula, least_formula, greatest_formula, reference_formula, write_over}
use Rattle.writing.specs.FormulaSyntax.{formula_size, Names}
use Rattle.writing.specs.FormulaReading.{Complete, syntax_of, syntax_to, syntax_at, formula_syntax, renamed}
use Rattle.writing.specs.Nodes.{table_words, Holds}
use Rattle.writing.proofs.Nodes.{holds_join, table-size, table_holds}
use Rattle.writing.proofs.ActionNodes.{action_some}
use Rattle.writing.proofs.FormulaNodes.{formula_some, written_length, holds_both}
use Rattle.tables.proofs.Choices.{differ_false}

-- ---- accepted words

before_inner : (v w : ℕ) (o : Option ℕ) → v ≤ w → is_before_end w o ≡ true → is_before_end v o ≡ true
unfolding is_before_end
before_inner v w none l h = absurd (false≢true h)
before_inner v w (some e) l h = let a = ltb-true w e h in lt-ltb v e (omega arith)

before_end : (w e : ℕ) (o : Option ℕ) → o ≡ some e → is_before_end w o ≡ true → w < e
unfolding is_before_end
before_end w e o i h = ltb-true w e (ap (is_before_end w) (sym i) ∙ h)

-- a formula whose nodes stand from node v up to e
pub record FormulaFrom {M : Type 0} (operand_of : M → ℕ) (fit : M → Type 0) (f around : List ℕ) (v e : ℕ) : Type 0 where
  pub tree : FormulaOver M
  pub names : Fits fit (length around) tree
  pub ends : v + formula_size tree ≡ e
  pub holds : Holds (write_over operand_of tree around v) f v

module _ (f : List ℕ) where
  pub complete_next : (around : List ℕ) (v : ℕ) → is_fixpoint (formula_node f v) ≡ false → Complete f around v → Complete f around (suc v)
  complete_next around v n c u p l b = go (ℕ_discrete u v)
    where
      go : Dec (u ≡ v) → In u around
      go (yes e) = absurd (true≢false (sym p ∙ ap (λ (w : ℕ). is_fixpoint (formula_node f w)) e ∙ n))
      go (no d) = c u p (omega arith) (before_inner v (suc v) _ (omega arith) b)

  pub complete_more : (around : List ℕ) (v : ℕ) → Complete f around v → Complete f (v ∷ around) (suc v)
  complete_more around v c u p l b = go (ℕ_discrete u v)
    where
      go : Dec (u ≡ v) → In u (v ∷ around)
      go (yes e) = inl e
      go (no d) = inr (c u p (omega arith) (before_inner v (suc v) _ (omega arith) b))

  -- past the first operand, whose tree ends at r
  pub complete_right : (around : List ℕ) (v r : ℕ) → is_fixpoint (formula_node f v) ≡ false → tree_end (formula_children f) (size f) (suc v) ≡ some r
      → Complete f around v → Complete f around r
  complete_right around v r n t c u p l b = go (dec_lt u v) (ℕ_discrete u v)
    where
      go : Dec (u < v) → Dec (u ≡ v) → In u around
      go (yes a) d = let (x, y, z) = end_bounds (formula_children f) (size f) (suc v) r t in c u p a (before_inner v r _ (omega arith) b)
      go (no a) (yes e) = absurd (true≢false (sym p ∙ ap (λ (w : ℕ). is_fixpoint (formula_node f w)) e ∙ n))
      go (no a) (no d) =
          let (x, q, s) = tree_inside (formula_children f) (size f) (suc v) r u t (omega arith) l in
          let i = before_end r x _ q b in
          absurd (omega arith)

-- words that pass 43, 44 and 45, where something fit is named by the first node of every tree that a modality may name
module _ {M : Type 0} (operand_of : M → ℕ) (fit : M → Type 0) (children : ℕ → ℕ) (m : ℕ)
    (names : (a : ℕ) → a < m → on_row children m a ≡ true → (i : M) × fit i × (a ≡ operand_of i)) (f : List ℕ)
    (r43 : refusal43 f ≡ Ok tt) (r44 : refusal44 (names_no_root children m) f ≡ Ok tt) (r45 : refusal45 f ≡ Ok tt) where
  right_operand : (v : ℕ) → v < size f → bad_formula_operand (names_no_root children m) f v ≡ false
  unfolding refusal44
  right_operand v h =
      let (a, b) = lower_both (fault_from 44 0 (size f) (bad_formula_operand (names_no_root children m) f))
      (wrong_end (size f) (tree_end (formula_children f) (size f) 0)) r44 in
      from_passed 44 0 (size f) (bad_formula_operand (names_no_root children m) f) a v (omega arith) h

  module _ (around : List ℕ) (v e : ℕ) (h : tree_end (formula_children f) (size f) v ≡ some e) where
    inside : v < size f
    inside = (end_bounds (formula_children f) (size f) v e h).0

    leaf_end : formula_children f v ≡ 0 → v + 1 ≡ e
    leaf_end c =
        let i = some-injective (suc v) e (sym (end_leaf (formula_children f) (size f) v inside c) ∙ h) in
        omega arith

    zero-operand : kind f v ≤ 1 → operand f v ≡ 0
    zero-operand k =
        differ_false (operand f v) 0
        (sym (formula_zero (names_no_root children m) f v inside k) ∙ right_operand v inside)

    zero_fixpoint : 6 ≤ kind f v → kind f v ≤ 7 → operand f v ≡ 0
    zero_fixpoint a b =
        differ_false (operand f v) 0
        (sym (formula_fixpoint (names_no_root children m) f v inside a b) ∙ right_operand v inside)

    from_true : kind f v ≡ 0 → FormulaFrom operand_of fit f around v e
    unfolding write_over formula_size
    from_true k =
        record {
          tree = true_formula;
          names = tt;
          ends = leaf_end (formula_children_none f v inside (omega arith));
          holds = (k, zero-operand (omega arith), tt);
        }

    from_false : kind f v ≡ 1 → FormulaFrom operand_of fit f around v e
    unfolding write_over formula_size
    from_false k =
        record {
          tree = false_formula;
          names = tt;
          ends = leaf_end (formula_children_none f v inside (omega arith));
          holds = (k, zero-operand (omega arith), tt);
        }

    from_reference : kind f v ≡ 8 → Complete f around v → FormulaFrom operand_of fit f around v e
    unfolding write_over formula_size
    from_reference k c =
        let (p, q, r) = formula_refers children m f r43 r44 r45 v inside (omega arith) in
        let m = c (operand f v) p q r in
        record {
          tree = reference_formula (position eqb (operand f v) around);
          names = position_below number_equality (operand f v) around m;
          ends = leaf_end (formula_children_reference f v inside (omega arith));
          holds = (k, sym (position_at number_equality (operand f v) around 0 m), tt);
        }

    from-least : kind f v ≡ 6 → FormulaFrom operand_of fit f (v ∷ around) (suc v) e → FormulaFrom operand_of fit f around v e
    unfolding write_over formula_size
    from-least k a =
        record {
          tree = least_formula a.tree;
          names = a.names;
          ends = omega (arith, a.ends);
          holds = (k, zero_fixpoint (omega arith) (omega arith), a.holds);
        }

    from_greatest : kind f v ≡ 7 → FormulaFrom operand_of fit f (v ∷ around) (suc v) e → FormulaFrom operand_of fit f around v e
    unfolding write_over formula_size
    from_greatest k a =
        record {
          tree = greatest_formula a.tree;
          names = a.names;
          ends = omega (arith, a.ends);
          holds = (k, zero_fixpoint (omega arith) (omega arith), a.holds);
        }

    -- what it names
    named : 4 ≤ kind f v → kind f v ≤ 5 → (i : M) × fit i × (operand f v ≡ operand_of i)
    named a b =
        let (p, q) = formula_names children m f r43 r44 v inside a b in
        names (operand f v) p q

    from_box : kind f v ≡ 4 → FormulaFrom operand_of fit f around (suc v) e → FormulaFrom operand_of fit f around v e
    unfolding write_over formula_size
    from_box k a =
        let (i, l, o) = named (omega arith) (omega arith) in
        record { tree = box_formula i a.tree; names = (l, a.names); ends = omega (arith, a.ends); holds = (k, o, a.holds) }

    from_diamond : kind f v ≡ 5 → FormulaFrom operand_of fit f around (suc v) e → FormulaFrom operand_of fit f around v e
    unfolding write_over formula_size
    from_diamond k a =
        let (i, l, o) = named (omega arith) (omega arith) in
        record { tree = diamond_formula i a.tree; names = (l, a.names); ends = omega (arith, a.ends); holds = (k, o, a.holds) }

    -- the nodes of the two operands of "and" or "or"
    both_hold : (a : FormulaFrom operand_of fit f around (suc v) (operand f v)) (b : FormulaFrom operand_of fit f around (operand f v) e)
        → Holds (write_over operand_of a.tree around (suc v) ++ write_over operand_of b.tree around (suc v + formula_size a.tree)) f (suc v)
    both_hold a b =
        holds_join (write_over operand_of a.tree around (suc v)) (write_over operand_of b.tree around (suc v + formula_size a.tree)) f (suc v) (formula_size a.tree)
        (written_length operand_of a.tree around (suc v)) a.holds (subst (λ (u : ℕ). Holds (write_over operand_of b.tree around u) f u) (sym a.ends) b.holds)

    from_and : kind f v ≡ 2 → FormulaFrom operand_of fit f around (suc v) (operand f v) → FormulaFrom operand_of fit f around (operand f v) e → FormulaFrom operand_of fit f around v e
    unfolding write_over formula_size
    from_and k a b =
        record {
          tree = and_formula a.tree b.tree;
          names = (a.names, b.names);
          ends = omega (arith, a.ends, b.ends);
          holds = (k, sym a.ends, both_hold a b);
        }

    from_or : kind f v ≡ 3 → FormulaFrom operand_of fit f around (suc v) (operand f v) → FormulaFrom operand_of fit f around (operand f v) e → FormulaFrom operand_of fit f around v e
    unfolding write_over formula_size
    from_or k a b =
        record {
          tree = or_formula a.tree b.tree;
          names = (a.names, b.names);
          ends = omega (arith, a.ends, b.ends);
          holds = (k, sym a.ends, both_hold a b);
        }

  -- the tree of node v, given those of later nodes
  pub formula_from : (d : ℕ) (around : List ℕ) (v e : ℕ) → size f - v ≤ d → tree_end (formula_children f) (size f) v ≡ some e → Complete f around v
      → FormulaFrom operand_of fit f around v e
  formula_from zero around v e l h c = let i = inside around v e h in absurd (omega arith)
  formula_from (suc d) around v e l h c =
      by_kind (formula_from d) (kind f v) refl
    where
      i : v < size f
      i = inside around v e h

      k : kind f v ≤ 8
      k = formula_known children m f r43 r44 v i

      Later : Type 0
      Later = (known : List ℕ) (u x : ℕ) → size f - u ≤ d → tree_end (formula_children f) (size f) u ≡ some x → Complete f known u → FormulaFrom operand_of fit f known u x

      left : Later → 2 ≤ kind f v → kind f v ≤ 3 → FormulaFrom operand_of fit f around (suc v) (operand f v)
      left later a b =
          let (p, q, x, y) = formula_right_child children m f r43 r44 v i a b in
          later around (suc v) (operand f v) (omega arith) p (complete_next f around v (fixpoint_low f v i (omega arith)) c)

      right : Later → 2 ≤ kind f v → kind f v ≤ 3 → FormulaFrom operand_of fit f around (operand f v) e
      right later a b =
          let (p, q, x, y) = formula_right_child children m f r43 r44 v i a b in
          later around (operand f v) e (omega arith) (sym q ∙ h) (complete_right f around v (operand f v) (fixpoint_low f v i (omega arith)) p c)

      next : 4 ≤ kind f v → kind f v ≤ 7 → tree_end (formula_children f) (size f) (suc v) ≡ some e
      next a b = sym (end_one (formula_children f) (size f) v i (formula_children_one f v i a b)) ∙ h

      modal : Later → 4 ≤ kind f v → kind f v ≤ 5 → FormulaFrom operand_of fit f around (suc v) e
      modal later a b = later around (suc v) e (omega arith) (next a (omega arith)) (complete_next f around v (fixpoint_low f v i (omega arith)) c)

      body : Later → 6 ≤ kind f v → kind f v ≤ 7 → FormulaFrom operand_of fit f (v ∷ around) (suc v) e
      body later a b = later (v ∷ around) (suc v) e (omega arith) (next (omega arith) b) (complete_more f around v c)

      two : Later → (FormulaFrom operand_of fit f around (suc v) (operand f v) → FormulaFrom operand_of fit f around (operand f v) e
          → FormulaFrom operand_of fit f around v e)
          → 2 ≤ kind f v → kind f v ≤ 3 → FormulaFrom operand_of fit f around v e
      two later join a b = join (left later a b) (right later a b)

      by_kind : Later → (j : ℕ) → kind f v ≡ j → FormulaFrom operand_of fit f around v e
      by_kind later =
          formula_kinds 0 (λ j n. kind f v ≡ j → FormulaFrom operand_of fit f around v e)
          (λ z. from_true around v e h z)
          (λ z. from_false around v e h z)
          (λ z. two later (from_and around v e h z) (omega arith) (omega arith))
          (λ z. two later (from_or around v e h z) (omega arith) (omega arith))
          (λ z. from_box around v e h z (modal later (omega arith) (omega arith)))
          (λ z. from_diamond around v e h z (modal later (omega arith) (omega arith)))
          (λ z. from-least around v e h z (body later (omega arith) (omega arith)))
          (λ z. from_greatest around v e h z (body later (omega arith) (omega arith)))
          (λ z. from_reference around v e h z c)
          (λ j g z. absurd (omega (arith, k)))

-- ---- a formula is written in its own way

-- which of the row's trees begins at node u
tree_of : List ActionSyntax → ℕ → ℕ
tree_of [] u = 0
tree_of (t ∷ ts) u = cond (ltb u (action_size t)) 0 (suc (tree_of ts (u - action_size t)))

tree-of : (row : List ActionSyntax) (i : ℕ) → i < length row → tree_of row (first_node row i) ≡ i
unfolding tree_of first_node
tree-of [] i h = absurd (omega arith)
tree-of (t ∷ ts) zero h = rw (lt-ltb 0 (action_size t) (action_some t)) refl
tree-of (t ∷ ts) (suc i) h =
    let e : action_size t + first_node ts i - action_size t ≡ first_node ts i = omega arith in
    rw (le-ltb (action_size t + first_node ts i) (action_size t) (omega arith), e) (ap suc (tree-of ts i (omega arith)))

module _ {M N : Type 0} (named : ℕ → N) (operand_of : M → ℕ) where
  read_step : (d : ℕ) (f around : List ℕ) (v k o : ℕ) → v < size f → kind f v ≡ k → operand f v ≡ o
      → syntax_to named (suc d) f around v ≡ syntax_of named (λ known u. syntax_to named d f known u) around v (decode_formula k o)
  unfolding syntax_to
  read_step d f around v k o h p q =
      ap (syntax_of named (λ known u. syntax_to named d f known u) around v) (formula_at f v h ∙ ap₂ decode_formula p q)

  module _ (fit : M → Type 0) where
    -- the formula whose nodes stand there is read, each modality by what its operand names
    reads : (t : FormulaOver M) (d : ℕ) (f around : List ℕ) (v : ℕ) → Holds (write_over operand_of t around v) f v
        → Fits fit (length around) t → Falling v around → formula_size t ≤ d → v + formula_size t ≤ size f
        → syntax_to named d f around v ≡ renamed (λ m. named (operand_of m)) t
    unfolding write_over formula_size syntax_of decode_formula renamed
    reads t zero f around v h ns a l i = let s = formula_some t in absurd (omega arith)
    reads true_formula (suc d) f around v (k, o, h) ns a l i = read_step d f around v 0 0 (omega arith) k o
    reads false_formula (suc d) f around v (k, o, h) ns a l i = read_step d f around v 1 0 (omega arith) k o
    reads (and_formula b c) (suc d) f around v (k, o, h) ns a l i =
        let (p, q) = holds_both operand_of f b c around v h in
        read_step d f around v 2 (suc v + formula_size b) (omega arith) k o
        ∙ ap₂ and_formula (reads b d f around (suc v) p ns.0 (falling_above v (suc v) around (omega arith) a) (omega arith) (omega arith))
        (reads c d f around (suc v + formula_size b) q ns.1 (falling_above v (suc v + formula_size b) around (omega arith) a) (omega arith) (omega arith))
    reads (or_formula b c) (suc d) f around v (k, o, h) ns a l i =
        let (p, q) = holds_both operand_of f b c around v h in
        read_step d f around v 3 (suc v + formula_size b) (omega arith) k o
        ∙ ap₂ or_formula (reads b d f around (suc v) p ns.0 (falling_above v (suc v) around (omega arith) a) (omega arith) (omega arith))
        (reads c d f around (suc v + formula_size b) q ns.1 (falling_above v (suc v + formula_size b) around (omega arith) a) (omega arith) (omega arith))
    reads (box_formula m b) (suc d) f around v (k, o, h) ns a l i =
        read_step d f around v 4 (operand_of m) (omega arith) k o
        ∙ ap (box_formula (named (operand_of m))) (reads b d f around (suc v) h ns.1 (falling_above v (suc v) around (omega arith) a) (omega arith) (omega arith))
    reads (diamond_formula m b) (suc d) f around v (k, o, h) ns a l i =
        read_step d f around v 5 (operand_of m) (omega arith) k o
        ∙ ap (diamond_formula (named (operand_of m))) (reads b d f around (suc v) h ns.1 (falling_above v (suc v) around (omega arith) a) (omega arith) (omega arith))
    reads (least_formula b) (suc d) f around v (k, o, h) ns a l i =
        read_step d f around v 6 0 (omega arith) k o
        ∙ ap least_formula (reads b d f (v ∷ around) (suc v) h ns (omega arith, a) (omega arith) (omega arith))
    reads (greatest_formula b) (suc d) f around v (k, o, h) ns a l i =
        read_step d f around v 7 0 (omega arith) k o
        ∙ ap greatest_formula (reads b d f (v ∷ around) (suc v) h ns (omega arith, a) (omega arith) (omega arith))
    reads (reference_formula j) (suc d) f around v (k, o, h) ns a l i =
        read_step d f around v 8 (get_or around j 0) (omega arith) k o
        ∙ ap reference_formula (position-of number_equality around j 0 (falling_distinct v around a) ns)

    -- a closed formula read back from its words
    pub words_read : (t : FormulaOver M) → Fits fit 0 t
        → formula_syntax named (words_over operand_of t) ≡ renamed (λ m. named (operand_of m)) t
    unfolding formula_syntax syntax_at words_over
    words_read t h =
        let s = table-size (write_over operand_of t [] 0) in
        let l = written_length operand_of t [] 0 in
        reads t (size (table_words (write_over operand_of t [] 0))) (table_words (write_over operand_of t [] 0)) [] 0
        (table_holds (write_over operand_of t [] 0)) h tt (omega arith) (omega arith)

-- a formula in whose modalities nothing changes
renamed_same : {M : Type 0} (fit : M → Type 0) (g : M → M) → ((m : M) → fit m → g m ≡ m)
    → (t : FormulaOver M) (n : ℕ) → Fits fit n t → renamed g t ≡ t
unfolding renamed
renamed_same fit g same true_formula n h = refl
renamed_same fit g same false_formula n h = refl
renamed_same fit g same (and_formula a b) n h =
    ap₂ and_formula (renamed_same fit g same a n h.0) (renamed_same fit g same b n h.1)
renamed_same fit g same (or_formula a b) n h =
    ap₂ or_formula (renamed_same fit g same a n h.0) (renamed_same fit g same b n h.1)
renamed_same fit g same (box_formula m a) n h = ap₂ box_formula (same m h.0) (renamed_same fit g same a n h.1)
renamed_same fit g same (diamond_formula m a) n h = ap₂ diamond_formula (same m h.0) (renamed_same fit g same a n h.1)
renamed_same fit g same (least_formula a) n h = ap least_formula (renamed_same fit g same a (suc n) h)
renamed_same fit g same (greatest_formula a) n h = ap greatest_formula (renamed_same fit g same a (suc n) h)
renamed_same fit g same (reference_formula i) n h = refl

-- it is the formula itself if every operand names what the modality carries
pub words_read_back : {M : Type 0} (named : ℕ → M) (operand_of : M → ℕ) (fit : M → Type 0)
    → ((m : M) → fit m → named (operand_of m) ≡ m)
    → (t : FormulaOver M) → Fits fit 0 t → formula_syntax named (words_over operand_of t) ≡ t
words_read_back named operand_of fit same t h =
    words_read named operand_of fit t h ∙ renamed_same fit (λ m. named (operand_of m)) same t 0 h

-- two closed formulas with the same words are the same
pub formula_same : (row : List ActionSyntax) (t u : FormulaSyntax) → Names (length row) 0 t → Names (length row) 0 u
    → formula_words row t ≡ formula_words row u → t ≡ u
formula_same row t u n m e =
    let back : (w : FormulaSyntax) → Names (length row) 0 w → formula_syntax (tree_of row) (formula_words row w) ≡ w
    = words_read_back (tree_of row) (first_node row) (λ i. i < length row) (tree-of row) in
    sym (back t n) ∙ ap (formula_syntax (tree_of row)) e ∙ back u m
