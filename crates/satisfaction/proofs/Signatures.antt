-- If the initial state satisfies the formula, Even can claim the pairs that are true under some number, with the
-- reasons that the lowest such numbers give. Assumes nothing.
use mathlib.Core.Path.{◌≡◌, refl, sym, ap, subst, ◌∙◌}
use mathlib.Core.Bool.{Bool, true, false, cond, not, ◌&&◌, ◌||◌, true≢false, false≢true}
use mathlib.Core.List.{List, [], ◌∷◌, ◌++◌, map}
use mathlib.Core.Logic.{◌⊎◌, inl, inr, ⊎_elim}
use Prim.Native.Nat.{ℕ, zero, suc, ◌+◌, ◌≤◌, ◌<◌}
use native.Mathlib.Decide.{dec_lt}
use native.Mathlib.Omega.{arith}
use lib.Dec.{ltb, leb}
use lib.ListN.{length, get_or, replicate, length-replicate}
use lib.Seq.{get_or-append-add}
use borrow.Author.Tests.{lt-ltb, ltb-true, le-leb, leb-true}
use Rattle.player.specs.Player.{player_index}
use Rattle.player.specs.declared.Player.TheVariants.{Even, Odd}
use Rattle.rules.specs.Lists.{In, from, seek, largest}
use Rattle.rules.specs.Words.{Input}
use Rattle.rules.specs.System.{state_count, initial_state}
use Rattle.rules.specs.Table.{size, kind, operand, formula_node}
use Rattle.rules.specs.Actions.{action_tree}
use Rattle.rules.specs.Formula.{is_fixpoint, Equation, equation_count, equation_of, equation_number, Formula, truth, falsity, conjunction, disjunction, box, diamond, reference, formula_tree, body_tree}
use Rattle.rules.specs.Depth.{Ranking}
use Rattle.rules.specs.Items.{equation, items, item_number}
use Rattle.rules.specs.Pairs.{Pair, same_pair, successors, initial_pair, item_at, operator_owner, item_owner, owner, priority, formula_targets, item_targets, targets}
use Rattle.tables.specs.Good.{GoodInput}
use Rattle.lists.proofs.Members.{in_map}
use Rattle.lists.proofs.Equalities.{pair_equality}
use Rattle.lists.proofs.Tests.{or_left, or_right, or-true, and-true}
use Rattle.lists.proofs.Ranges.{from_in}
use Rattle.lists.proofs.Places.{seek_holds, seek_before}
use Rattle.trees.proofs.Largest.{largest_bounds}
use Rattle.trees.proofs.FormulaTrees.{truth_tree, falsity_tree, conjunction_tree, disjunction_tree, box_tree, diamond_tree, least_tree, greatest_tree, reference_tree, fixpoint_tree}
use Rattle.trees.proofs.Fixpoints.{fixpoint_kind}
use Rattle.trees.proofs.Equations.{number_monotone, count_number, number_start, number_start_placeholder, number_below, equation_node, placeholder_equation, good_some_equation}
use Rattle.arena.specs.Arena.{BodyNode, Carried, Inside}
use Rattle.arena.proofs.ItemNumbers.{first_body, item_equation, item_past, item_carried}
use Rattle.arena.proofs.Parts.{carried_parts}
use Rattle.arena.proofs.Inside.{item_cases, targets_inside, initial_inside}
use Rattle.writing.specs.ActionSyntax.{first_node}
use Rattle.writing.specs.FormulaSyntax.{formula_size, write_formula, fixpoints, read_tree, Written}
use Rattle.writing.specs.Nodes.{Holds}
use Rattle.writing.proofs.ActionTheorems.{written_row_reads}
use Rattle.writing.proofs.FormulaEquations.{formula_number}
use Rattle.writing.proofs.FormulaTheorems.{words_size, words_hold}
use Rattle.meaning.specs.Satisfies.{nowhere}
use Rattle.meaning.specs.Evaluation.{evaluate}
use Rattle.satisfaction.specs.Ranks.{is_even, Sound}
use Rattle.meaning.proofs.Tests.{both_true}
use Rattle.satisfaction.proofs.Vertices.{node_item, node_owner, node_targets, node_priority, equation_priority, equation_target, fixpoint_targets}
use Rattle.satisfaction.proofs.Regions.{BothBelow, Goes, Region}
use Rattle.satisfaction.proofs.Digits.{top, fill, fill_below, top_monotone, top_most}
use Rattle.satisfaction.proofs.Frames.{Frame, layout, frame_sets, inner_set, holds_in}
use Rattle.satisfaction.proofs.Standing.{Place, find, value_of, says}
use Rattle.satisfaction.proofs.Turns.{digit_place, digits_below, turns_of, value_at, truth_of, truth-node, truth_equation, odd_goes, even_goes, Allowed, allowed_same, fixpoint_after}

module _ (rank : Ranking) (x : Input) (good : GoodInput x) (sound : Sound rank x) (w : Written x) where
  reads : (i : ℕ) → i < length w.row → action_tree x.labels x.actions (first_node w.row i) ≡ read_tree x.labels w.row i
  reads i h = ap (λ (acts : List ℕ). action_tree x.labels acts (first_node w.row i)) w.action_words ∙ written_row_reads w.row x.labels w.row_fits i h

  -- the fixpoints by their equations; the placeholder, if it is there, has none
  abbrev before : List (List Frame)
  before = replicate (equation_number x.formula 0) []

  unfoldable every : List (List Frame)
  every = before ++ layout w.whole [] 0

  whole_place : Place x good w.row reads every w.whole [] 0
  unfolding every
  whole_place =
      record {
        holds = subst (λ (ws : List ℕ). Holds (write_formula w.row w.whole [] 0) ws 0) (sym w.whole_words) (words_hold (first_node w.row) w.whole);
        fits = omega (arith, whole_size);
        names = w.formula_fits.closed;
        surround = λ i h. absurd (omega arith);
        placed = λ i l.
            let c : length before ≡ equation_number x.formula 0 = length-replicate (equation_number x.formula 0) [] in
            let e : equation_number x.formula 0 + i ≡ length before + i = omega arith in
            ap (λ (j : ℕ). get_or (before ++ layout w.whole [] 0) j []) e
            ∙ get_or-append-add before (layout w.whole [] 0) i [];
        known = tt;
      }
    where
      whole_size : size x.formula ≡ formula_size w.whole
      whole_size = ap size w.whole_words ∙ words_size (first_node w.row) w.whole

  abbrev S : ℕ
  S = state_count x.system

  -- digits enough for all equations, and the largest number of so many
  unfoldable digits : ℕ
  digits = suc (largest (map (digit_place rank x) (from 0 (equation_count x.formula))))

  digits_enough : (j : ℕ) → j < equation_count x.formula → digit_place rank x j < digits
  unfolding digits
  digits_enough j l =
      let h = largest_bounds (digit_place rank x) j (from 0 (equation_count x.formula)) (from_in j 0 (equation_count x.formula) (omega arith) (omega arith)) in
      omega arith

  unfoldable most : ℕ
  most = fill S digits 0

  abbrev is_true : ℕ → Pair → Bool
  is_true n p = truth_of rank x good sound w.row reads every n p

  -- ---- the lowest number under which a pair is true

  unfoldable lowest : Pair → ℕ
  lowest p = seek (λ n. is_true n p) 0 (suc most)

  lowest_true : (p : Pair) → lowest p ≤ most → is_true (lowest p) p ≡ true
  unfolding lowest
  lowest_true p l = seek_holds (λ n. is_true n p) 0 (suc most) (omega arith)

  true_lowest : (n : ℕ) (p : Pair) → n ≤ most → is_true n p ≡ true → lowest p ≤ n
  unfolding lowest
  true_lowest n p l h = go (dec_lt n (seek (λ n. is_true n p) 0 (suc most)))
    where
      go : Dec (n < seek (λ n. is_true n p) 0 (suc most)) → seek (λ n. is_true n p) 0 (suc most) ≤ n
      go (yes b) = absurd (true≢false (sym h ∙ seek_before (λ n. is_true n p) 0 (suc most) n (omega arith) b))
      go (no b) = omega arith

  -- ---- one step

  -- q is true under a number that p's priority allows
  record Onward (p q : Pair) : Type 0 where
    low : lowest q ≤ most
    allowed : Allowed rank x good sound w.row reads every (priority rank x p) (lowest p) (lowest q)

  onward : (p q : Pair) (n r : ℕ) → n ≤ most → is_true n q ≡ true → priority rank x p ≡ r → Allowed rank x good sound w.row reads every r (lowest p) n → Onward p q
  onward p q n r l h e a =
      let b = true_lowest n q l h in
      record {
        low = omega arith;
        allowed = λ k odd m.
            let (c, d) = a k odd (omega arith) in
            let t = top_monotone S (digits_below rank x k) (lowest q) n b in
            (omega arith, λ i. let f = d (sym e ∙ i) in omega arith);
      }

  -- the pair of a fixpoint's equation
  fixpoint_onward : (s u : ℕ) → s < S → is_fixpoint (formula_node x.formula u) ≡ true → u < size x.formula → lowest (s, equation_number x.formula u) ≤ most
      → Onward (s, equation_number x.formula u) (s, node_item x (suc u))
  unfolding most
  fixpoint_onward s u l fixed b low =
      let j = equation_number x.formula u in
      let count = number_below x.formula u fixed in
      let whole : size x.formula ≡ formula_size w.whole = ap size w.whole_words ∙ words_size (first_node w.row) w.whole in
      let found = find x good w.row reads every w.whole [] 0 u whole_place (omega arith) (omega arith) fixed in
      let d = digits_enough j count in
      let h = sym (truth_equation rank x good sound w.row reads every (lowest (s, j)) s j count) ∙ lowest_true (s, j) low in
      let after = fixpoint_after rank x good sound w.row reads every (lowest (s, j)) digits found.body found.around u found.operator found.place s l low (omega arith) h in
      onward (s, j) (s, node_item x (suc u)) after.next (rank x j) after.small after.true_there (equation_priority x rank (s, j) count) after.allowed

  -- ---- every pair that is true under a number

  placeholder-nowhere : is_fixpoint (formula_node x.formula 0) ≡ false → (n s : ℕ) → value_at rank x good sound w.row reads every n 0 s ≡ false
  unfolding every value_of inner_set nowhere
  placeholder-nowhere f n s = ap (λ (fs : List Frame). inner_set x w.row (turns_of rank x good sound w.row reads every n) fs s) nothing
    where
      nothing : get_or (before ++ layout w.whole [] 0) 0 [] ≡ []
      nothing = ap (λ (n : ℕ). get_or (replicate n [] ++ layout w.whole [] 0) 0 []) (number_start_placeholder x.formula f)

  -- the pair of an equation has one target; the placeholder's is never true
  equation_onward : (p : Pair) → p.1 < equation_count x.formula → p.0 < S → lowest p ≤ most → (t : Pair) × (targets x p ≡ t ∷ []) × Onward p t
  equation_onward p l b low = go (equation_node x.formula p.1 l)
    where
      of_fixpoint : (u : ℕ) → u < size x.formula → is_fixpoint (formula_node x.formula u) ≡ true → (j : ℕ) → equation_number x.formula u ≡ j → lowest (p.0, j) ≤ most
          → (t : Pair) × (targets x (p.0, j) ≡ t ∷ []) × Onward (p.0, j) t
      of_fixpoint u a fixed j e =
          subst (λ (i : ℕ). lowest (p.0, i) ≤ most → (t : Pair) × (targets x (p.0, i) ≡ t ∷ []) × Onward (p.0, i) t) e
          (λ h. ((p.0, node_item x (suc u)), fixpoint_targets x u p.0 fixed, fixpoint_onward p.0 u b fixed a h))

      never : p.1 ≡ 0 → is_fixpoint (formula_node x.formula 0) ≡ false → ⊥
      never e f =
          let h : value_at rank x good sound w.row reads every (lowest p) p.1 p.0 ≡ true =
          sym (truth_equation rank x good sound w.row reads every (lowest p) p.0 p.1 l) ∙ lowest_true p low in
          false≢true (sym (placeholder-nowhere f (lowest p) p.0) ∙ ap (λ (i : ℕ). value_at rank x good sound w.row reads every (lowest p) i p.0) (sym e) ∙ h)

      go : ((p.1 ≡ 0) × (is_fixpoint (formula_node x.formula 0) ≡ false))
          ⊎ ((u : ℕ) × (u < size x.formula) × (is_fixpoint (formula_node x.formula u) ≡ true) × (equation_number x.formula u ≡ p.1))
          → (t : Pair) × (targets x p ≡ t ∷ []) × Onward p t
      go (inl (e, f)) = absurd (never e f)
      go (inr (u, a, fixed, e)) = of_fixpoint u a fixed p.1 e low

  -- the pair of a subformula
  module _ (s v : ℕ) (b : BodyNode x.formula v) (low : lowest (s, node_item x v) ≤ most) where
    node_true : holds_in x w.row (value_at rank x good sound w.row reads every (lowest (s, node_item x v))) (formula_tree x v) s ≡ true
    unfolding node_item
    node_true = sym (truth-node rank x good sound w.row reads every (lowest (s, item_number x (formula_tree x v))) s (formula_tree x v) (v, b, refl)) ∙ lowest_true (s, item_number x (formula_tree x v)) low

    node_onward : (q : Pair) → is_true (lowest (s, node_item x v)) q ≡ true → Onward (s, node_item x v) q
    unfolding is_even
    node_onward q h = onward (s, node_item x v) q (lowest (s, node_item x v)) 0 low h (node_priority x rank v s) (allowed_same rank x good sound w.row reads every 0 (lowest (s, node_item x v)) refl)

    node_odd : (q : Pair) → owner x (s, node_item x v) ≡ Odd → In q (targets x (s, node_item x v)) → Onward (s, node_item x v) q
    node_odd q o m =
        node_onward q (odd_goes rank x good sound w.row reads every (lowest (s, node_item x v)) s (formula_tree x v) (carried_parts x good (formula_tree x v) (v, b, refl)) node_true
        (sym (node_owner x v b (formula_tree x v) refl s) ∙ o) q (subst (λ (l : List Pair). In q l) (node_targets x v b (formula_tree x v) refl s) m))

    node_even : owner x (s, node_item x v) ≡ Even → (q : Pair) × In q (targets x (s, node_item x v)) × Onward (s, node_item x v) q
    node_even o =
        let (q, m, h) = even_goes rank x good sound w.row reads every (lowest (s, node_item x v)) s (formula_tree x v) (carried_parts x good (formula_tree x v) (v, b, refl)) node_true
        (sym (node_owner x v b (formula_tree x v) refl s) ∙ o) in
        (q, subst (λ (l : List Pair). In q l) (sym (node_targets x v b (formula_tree x v) refl s)) m, node_onward q h)

  step_odd : (p q : Pair) → Inside x p → lowest p ≤ most → owner x p ≡ Odd → In q (targets x p) → Onward p q
  unfolding node_item
  step_odd p q (a, b) low o m = go (dec_lt p.1 (equation_count x.formula))
    where
      that : (t : Pair) × (targets x p ≡ t ∷ []) × Onward p t → Onward p q
      that (t, e, h) = subst (λ (z : Pair). Onward p z) (sym (only (subst (λ (l : List Pair). In q l) e m))) h
        where
          only : {z : Pair} → In q (z ∷ []) → q ≡ z
          only (inl i) = i
          only (inr i) = absurd i

      go : Dec (p.1 < equation_count x.formula) → Onward p q
      go (yes l) = that (equation_onward p l a low)
      go (no n) =
          let (v, c, e) = item_carried x p.1 (omega arith) b in
          subst (λ (i : ℕ). lowest (p.0, i) ≤ most → owner x (p.0, i) ≡ Odd → In q (targets x (p.0, i)) → Onward (p.0, i) q) e (λ l r k. node_odd p.0 v c l q r k) low o m

  step_even : (p : Pair) → Inside x p → lowest p ≤ most → owner x p ≡ Even → (q : Pair) × In q (targets x p) × Onward p q
  unfolding node_item
  step_even p (a, b) low o = go (dec_lt p.1 (equation_count x.formula))
    where
      that : (t : Pair) × (targets x p ≡ t ∷ []) × Onward p t → (q : Pair) × In q (targets x p) × Onward p q
      that (t, e, h) = (t, subst (λ (l : List Pair). In t l) (sym e) (inl refl), h)

      go : Dec (p.1 < equation_count x.formula) → (q : Pair) × In q (targets x p) × Onward p q
      go (yes l) = that (equation_onward p l a low)
      go (no n) =
          let (v, c, e) = item_carried x p.1 (omega arith) b in
          subst (λ (i : ℕ). lowest (p.0, i) ≤ most → owner x (p.0, i) ≡ Even → (q : Pair) × In q (targets x (p.0, i)) × Onward (p.0, i) q) e (λ l r. node_even p.0 v c l r) low o

  -- ---- the start: all digits are largest

  all-largest : (j : ℕ) → j < equation_count x.formula → turns_of rank x good sound w.row reads every most j ≡ S
  unfolding turns_of most
  all-largest j l = fill_below S digits (digit_place rank x j) 0 (digits_enough j l)

  whole_true : (s : ℕ) → s < S → evaluate x w.row w.whole [] s ≡ true
      → holds_in x w.row (value_at rank x good sound w.row reads every most) (formula_tree x 0) s ≡ true
  unfolding frame_sets
  whole_true s l h =
      let e : size x.formula ≡ formula_size w.whole = ap size w.whole_words ∙ words_size (first_node w.row) w.whole in
      let c : equation_number x.formula 0 + fixpoints w.whole ≡ equation_count x.formula =
      sym (formula_number w.row x.formula w.whole [] 0 whole_place.holds whole_place.fits)
      ∙ (let i : 0 + formula_size w.whole ≡ size x.formula = omega arith in ap (equation_number x.formula) i)
      ∙ sym (count_number x.formula) in
      sym (says x good w.row reads every (turns_of rank x good sound w.row reads every most) w.whole [] 0 whole_place (λ k a b. all-largest k (omega arith)) s l) ∙ h

  -- ---- what Even claims: the pairs that are true under a number, and the placeholder's at the initial state

  unfoldable is_start : Pair → Bool
  is_start p = not (is_fixpoint (formula_node x.formula 0)) && same_pair p (initial_pair x)

  pub claimed_pair : Pair → Bool
  claimed_pair p = (ltb p.0 S && ltb p.1 (length (items x))) && (is_start p || leb (lowest p) most)

  pub number_pair : ℕ → Pair → ℕ
  number_pair n p = cond (is_start p) (suc most) (top S (digits_below rank x n) (lowest p))

  inside_claimed : (p : Pair) → Inside x p → (is_start p || leb (lowest p) most) ≡ true → claimed_pair p ≡ true
  unfolding claimed_pair
  inside_claimed p (a, b) h = both_true _ _ (both_true _ _ (lt-ltb p.0 S a) (lt-ltb p.1 (length (items x)) b)) h

  claimed_inside : (p : Pair) → claimed_pair p ≡ true → Inside x p × ((is_start p ≡ true) ⊎ (lowest p ≤ most))
  unfolding claimed_pair
  claimed_inside p h =
      let (a, b) = and-true (ltb p.0 S && ltb p.1 (length (items x))) (is_start p || leb (lowest p) most) h in
      let (c, d) = and-true (ltb p.0 S) (ltb p.1 (length (items x))) a in
      ((ltb-true p.0 S c, ltb-true p.1 (length (items x)) d), ⊎_elim (λ t. inl t) (λ t. inr (leb-true (lowest p) most t)) (or-true (is_start p) (leb (lowest p) most) b))

  start_number : (n : ℕ) (p : Pair) → is_start p ≡ true → number_pair n p ≡ suc most
  unfolding number_pair
  start_number n p e = rw e refl

  other_number : (n : ℕ) (p : Pair) → is_start p ≡ false → number_pair n p ≡ top S (digits_below rank x n) (lowest p)
  unfolding number_pair
  other_number n p e = rw e refl

  start_pair : (p : Pair) → is_start p ≡ true → (is_fixpoint (formula_node x.formula 0) ≡ false) × (p ≡ initial_pair x)
  unfolding is_start
  start_pair p e =
      let (a, b) = and-true (not (is_fixpoint (formula_node x.formula 0))) (same_pair p (initial_pair x)) e in
      (denied (is_fixpoint (formula_node x.formula 0)) a, pair_equality.sound p (initial_pair x) b)
    where
      denied : (t : Bool) → not t ≡ true → t ≡ false
      denied true h = absurd (false≢true h)
      denied false h = refl

  -- no target is the placeholder's pair
  abbrev Later : Formula → Type 0
  Later truth = Unit {0}
  Later falsity = Unit {0}
  Later (conjunction f g) = Unit {0}
  Later (disjunction f g) = Unit {0}
  Later (box a f) = Unit {0}
  Later (diamond a f) = Unit {0}
  Later (reference i) = 1 ≤ i

  later_reference : is_fixpoint (formula_node x.formula 0) ≡ false → (v : ℕ) → v < size x.formula → Later (formula_tree x v)
  later_reference plain v h = go (kind x.formula v) refl (good.formula.nodes v h).known
    where
      m : ℕ
      m = size x.actions

      from_one : (u : ℕ) → 1 ≤ equation_number x.formula u
      from_one u = omega (arith, number_start_placeholder x.formula plain, number_monotone x.formula 0 u (omega arith))

      go : (k : ℕ) → kind x.formula v ≡ k → kind x.formula v ≤ 8 → Later (formula_tree x v)
      go zero e b = subst Later (sym (truth_tree m x good.formula v h e)) tt
      go (suc zero) e b = subst Later (sym (falsity_tree m x good.formula v h e)) tt
      go (suc (suc zero)) e b = subst Later (sym (conjunction_tree m x good.formula v h e)) tt
      go (suc (suc (suc zero))) e b = subst Later (sym (disjunction_tree m x good.formula v h e)) tt
      go (suc (suc (suc (suc zero)))) e b = subst Later (sym (box_tree m x good.formula v h e)) tt
      go (suc (suc (suc (suc (suc zero))))) e b = subst Later (sym (diamond_tree m x good.formula v h e)) tt
      go (suc (suc (suc (suc (suc (suc zero)))))) e b = subst Later (sym (least_tree m x good.formula v h e)) (from_one v)
      go (suc (suc (suc (suc (suc (suc (suc zero))))))) e b = subst Later (sym (greatest_tree m x good.formula v h e)) (from_one v)
      go (suc (suc (suc (suc (suc (suc (suc (suc zero)))))))) e b = subst Later (sym (reference_tree m x good.formula v h e)) (from_one (operand x.formula v))
      go (suc (suc (suc (suc (suc (suc (suc (suc (suc k))))))))) e b = absurd (omega arith)

  some : 1 ≤ equation_count x.formula
  some = good_some_equation (size x.actions) x.formula good.formula

  later_target : (s : ℕ) (f : Formula) → Later f → (q : Pair) → In q (formula_targets x s f) → 1 ≤ q.1
  unfolding formula_targets
  later_target s truth h q m = absurd m
  later_target s falsity h q m = absurd m
  later_target s (conjunction f g) h q (inl e) = let z = ap (λ (p : Pair). p.1) e in omega (arith, item_past x f, some)
  later_target s (conjunction f g) h q (inr (inl e)) = let z = ap (λ (p : Pair). p.1) e in omega (arith, item_past x g, some)
  later_target s (conjunction f g) h q (inr (inr m)) = absurd m
  later_target s (disjunction f g) h q (inl e) = let z = ap (λ (p : Pair). p.1) e in omega (arith, item_past x f, some)
  later_target s (disjunction f g) h q (inr (inl e)) = let z = ap (λ (p : Pair). p.1) e in omega (arith, item_past x g, some)
  later_target s (disjunction f g) h q (inr (inr m)) = absurd m
  later_target s (box a f) h q m = let (t, k, e) = in_map (λ (u : ℕ). (u, item_number x f)) q (successors x a s) m in let z = ap (λ (p : Pair). p.1) e in omega (arith, item_past x f, some)
  later_target s (diamond a f) h q m = let (t, k, e) = in_map (λ (u : ℕ). (u, item_number x f)) q (successors x a s) m in let z = ap (λ (p : Pair). p.1) e in omega (arith, item_past x f, some)
  later_target s (reference i) h q (inl e) = let z = ap (λ (p : Pair). p.1) e in omega arith
  later_target s (reference i) h q (inr m) = absurd m

  target_later : is_fixpoint (formula_node x.formula 0) ≡ false → (p q : Pair) → Inside x p → In q (targets x p) → 1 ≤ q.1
  unfolding targets item_targets
  target_later plain p q (a, b) =
      item_cases x good (λ i. In q (item_targets x p.0 i) → 1 ≤ q.1) p.1 b (λ l m. only (equation_of x.formula p.1) m)
      (λ t c e m. let (v, d, i) = c in later_target p.0 t (subst Later i (later_reference plain v d.1)) q m)
    where
      only : (e : Equation) → In q ((p.0, item_number x (body_tree x e)) ∷ []) → 1 ≤ q.1
      only e (inl i) = let z = ap (λ (r : Pair). r.1) i in omega (arith, item_past x (body_tree x e), some)
      only e (inr i) = absurd i

  target_other : (p q : Pair) → Inside x p → In q (targets x p) → is_start q ≡ false
  target_other p q a m = go (is_start q) refl
    where
      go : (t : Bool) → is_start q ≡ t → t ≡ false
      go true e = let (f, i) = start_pair q e in let z = ap (λ (r : Pair). r.1) i in absurd (omega (arith, target_later f p q a m))
      go false e = refl

  start_here : is_fixpoint (formula_node x.formula 0) ≡ false → is_start (initial_pair x) ≡ true
  unfolding is_start
  start_here e = rw e (pair_equality.self (initial_pair x))

  -- ---- the region

  goes_onward : (p q : Pair) → Inside x p → In q (targets x p) → is_start p ≡ false → Onward p q → Goes rank x claimed_pair number_pair BothBelow p q
  goes_onward p q a m e h =
      let f = target_other p q a m in
      record {
        claimed = inside_claimed q (targets_inside x good p q a m) (or_right (is_start q) (le-leb (lowest q) most h.low));
        falls = λ n odd l.
            let (c, d) = h.allowed n odd l.0 in
            let i = other_number n p e in
            let j = other_number n q f in
            (omega arith, λ z. let y = d z in omega arith);
      }

  -- the placeholder's pair: its number is larger than all others
  start_goes : (p q : Pair) → Inside x p → is_start p ≡ true → evaluate x w.row w.whole [] (initial_state x.system) ≡ true → In q (targets x p) → Goes rank x claimed_pair number_pair BothBelow p q
  unfolding body_tree
  start_goes p q a e h m =
      let (plain, i) = start_pair p e in
      let f = target_other p q a m in
      let tree : targets x p ≡ (initial_state x.system, item_number x (formula_tree x 0)) ∷ [] =
      ap (targets x) i ∙ equation_target x (initial_pair x) some ∙ ap (λ (z : Equation). (initial_state x.system, item_number x (formula_tree x z.body)) ∷ []) (placeholder_equation x.formula plain) in
      let c : Carried x (formula_tree x 0) = (0, (omega (arith, first_body x.formula plain), good.formula.some), refl) in
      let t : is_true most (initial_state x.system, item_number x (formula_tree x 0)) ≡ true =
      truth-node rank x good sound w.row reads every most (initial_state x.system) (formula_tree x 0) c ∙ whole_true (initial_state x.system) good.system.initial h in
      let low : lowest q ≤ most = true_lowest most q (omega arith) (ap (is_true most) (only (subst (λ (l : List Pair). In q l) tree m)) ∙ t) in
      record {
        claimed = inside_claimed q (targets_inside x good p q a m) (or_right (is_start q) (le-leb (lowest q) most low));
        falls = λ n odd l.
            let a = l.0 in
            let y = start_number n p e in
            let z = other_number n q f in
            let d = top_most S (digits_below rank x n) (lowest q) in
            (omega arith, λ r. omega arith);
      }
    where
      only : {z : Pair} → In q (z ∷ []) → q ≡ z
      only (inl i) = i
      only (inr i) = absurd i

  start_owner : (p : Pair) → is_start p ≡ true → owner x p ≡ Odd
  unfolding owner item_owner operator_owner
  start_owner p e =
      let (plain, i) = start_pair p e in
      ap (λ (q : Pair). item_owner (item_at x q.1)) i ∙ ap item_owner (item_equation x 0 some ∙ ap equation (placeholder_equation x.formula plain))

  -- a fixpoint is equation 0
  first-true : is_fixpoint (formula_node x.formula 0) ≡ true → evaluate x w.row w.whole [] (initial_state x.system) ≡ true → is_true most (initial_pair x) ≡ true
  unfolding holds_in
  first-true e h =
      let (a, b) = fixpoint_kind x.formula 0 e in
      truth_equation rank x good sound w.row reads every most (initial_state x.system) 0 some
      ∙ ap (λ (j : ℕ). value_at rank x good sound w.row reads every most j (initial_state x.system)) (sym (number_start x.formula e))
      ∙ ap (λ (t : Formula). holds_in x w.row (value_at rank x good sound w.row reads every most) t (initial_state x.system))
      (sym (fixpoint_tree (size x.actions) x good.formula 0 good.formula.some a b))
      ∙ whole_true (initial_state x.system) good.system.initial h

  module _ (holds : evaluate x w.row w.whole [] (initial_state x.system) ≡ true) where
    pub claimed_region : Region rank x claimed_pair number_pair BothBelow
    claimed_region =
        record {
          even = λ p h o. even p (claimed_inside p h) o;
          odd = λ p q h o m. odd p q (claimed_inside p h) o m;
        }
      where
        both : (p : Pair) → owner x p ≡ Odd → owner x p ≡ Even → ⊥
        both p a b = let z : ◌≡◌ {A = ℕ} 1 0 = ap player_index (sym a ∙ b) in omega arith

        even : (p : Pair) → Inside x p × ((is_start p ≡ true) ⊎ (lowest p ≤ most)) → owner x p ≡ Even → (q : Pair) × In q (targets x p) × Goes rank x claimed_pair number_pair BothBelow p q
        even p (a, inl e) o = absurd (both p (start_owner p e) o)
        even p (a, inr l) o = go (is_start p) refl
          where
            go : (t : Bool) → is_start p ≡ t → (q : Pair) × In q (targets x p) × Goes rank x claimed_pair number_pair BothBelow p q
            go true e = absurd (both p (start_owner p e) o)
            go false e = let (q, m, h) = step_even p a l o in (q, m, goes_onward p q a m e h)

        odd : (p q : Pair) → Inside x p × ((is_start p ≡ true) ⊎ (lowest p ≤ most)) → owner x p ≡ Odd → In q (targets x p) → Goes rank x claimed_pair number_pair BothBelow p q
        odd p q (a, inl e) o m = start_goes p q a e holds m
        odd p q (a, inr l) o m = go (is_start p) refl
          where
            go : (t : Bool) → is_start p ≡ t → Goes rank x claimed_pair number_pair BothBelow p q
            go true e = start_goes p q a e holds m
            go false e = goes_onward p q a m e (step_odd p q a l o m)

    pub initial_claims : claimed_pair (initial_pair x) ≡ true
    initial_claims = go (is_fixpoint (formula_node x.formula 0)) refl
      where
        go : (t : Bool) → is_fixpoint (formula_node x.formula 0) ≡ t → claimed_pair (initial_pair x) ≡ true
        go false e = inside_claimed (initial_pair x) (initial_inside x good) (or_left (leb (lowest (initial_pair x)) most) (start_here e))
        go true e = inside_claimed (initial_pair x) (initial_inside x good) (or_right (is_start (initial_pair x)) (le-leb (lowest (initial_pair x)) most (true_lowest most (initial_pair x) (omega arith) (first-true e holds))))
