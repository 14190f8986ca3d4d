-- A number tells how often each least fixpoint is still iterated: a digit for each, those of higher rank and outer ones
-- first. Under such a number a pair is true or not; where it is, the owner's targets are true under a number that the
-- pair's priority allows. Assumes nothing.
use mathlib.Core.Path.{◌≡◌, refl, sym, ap, ◌∙◌}
use mathlib.Core.Bool.{Bool, true, false, true≢false, false≢true}
use mathlib.Core.List.{List, ◌∷◌}
use mathlib.Core.Logic.{inl, inr, ⊎_elim}
use Prim.Native.Nat.{ℕ, zero, suc, ◌+◌, ◌*◌, ◌-◌, ◌≤◌, ◌<◌}
use native.Mathlib.Nat.{mul-le-mul_right, suc-mul}
use native.Mathlib.Decide.{ℕ_discrete}
use native.Mathlib.Omega.{arith}
use lib.ListN.{length, get_or}
use borrow.Author.Tests.{lt-ltb, ltb-true}
use Rattle.player.specs.Player.{player_index}
use Rattle.player.specs.declared.Player.TheVariants.{Even, Odd}
use Rattle.rules.specs.Lists.{In}
use Rattle.rules.specs.Words.{Input}
use Rattle.rules.specs.System.{state_count}
use Rattle.rules.specs.Table.{formula_node, is_before_end}
use Rattle.rules.specs.Actions.{action_tree}
use Rattle.rules.specs.Formula.{Operator, least, greatest, is_fixpoint, Equation, equation_count, equation_number, Formula, truth, falsity, conjunction, disjunction, box, diamond, reference, formula_tree}
use Rattle.rules.specs.Depth.{Ranking}
use Rattle.rules.specs.Items.{Item, equation, subformula, item_number}
use Rattle.rules.specs.Pairs.{Pair, item_at, formula_owner, successors, formula_targets}
use Rattle.rules.specs.Refusal.{encloses}
use Rattle.tables.specs.Good.{GoodInput}
use Rattle.lists.proofs.Members.{map_in, in_map}
use Rattle.lists.proofs.Tests.{and-true, or-true}
use Rattle.trees.proofs.Fixpoints.{fixpoint_inside}
use Rattle.trees.proofs.Equations.{number_below, number_later, number_more, greatest_equation}
use Rattle.arena.specs.Arena.{Carried, Parts}
use Rattle.arena.proofs.ItemNumbers.{item_equation, item_subformula, later_body}
use Rattle.meaning.proofs.Quantifiers.{all_in, any_in}
use Rattle.writing.specs.ActionSyntax.{ActionSyntax, first_node}
use Rattle.writing.specs.FormulaSyntax.{FormulaSyntax, least_formula, greatest_formula, fixpoints, read_tree, write_over}
use Rattle.writing.proofs.FormulaNodes.{formula_some}
use Rattle.meaning.specs.Satisfies.{StateSet, nowhere}
use Rattle.meaning.specs.Evaluation.{everywhere, iterate, evaluate}
use Rattle.satisfaction.specs.Ranks.{is_even, is_greatest, Nested, Sound}
use Rattle.satisfaction.proofs.Vertices.{node_item}
use Rattle.satisfaction.proofs.Nesting.{nested_exactly}
use Rattle.meaning.proofs.Iterates.{greatest_supported}
use Rattle.meaning.proofs.Evaluates.{monotone}
use Rattle.satisfaction.proofs.Digits.{digit, top, down, fill, down_above, down_at, down_below, fill_from, fill_below, down_less, top_less, top_monotone, top_fill, fill_most}
use Rattle.satisfaction.proofs.Frames.{Frame, frame_nodes, frame, turn_set, frame_set, frame_sets, same_sets, holds_in}
use Rattle.satisfaction.proofs.Standing.{fixpoint_of, Place, fixpoint_at, body_place, value_of, place-value, says}

players : Even ≡ Odd → ⊥
players e = let z : ◌≡◌ {A = ℕ} 0 1 = ap player_index e in omega arith

-- ---- the place of an equation's digit

module _ (rank : Ranking) (x : Input) where
  unfoldable pub digit_place : ℕ → ℕ
  digit_place j = rank x j * equation_count x.formula + (equation_count x.formula - suc j)

  -- the digits of the equations of rank below p
  unfoldable pub digits_below : ℕ → ℕ
  digits_below p = p * equation_count x.formula

  pub position_below : (j p : ℕ) → j < equation_count x.formula → rank x j < p → digit_place j < digits_below p
  unfolding digit_place digits_below
  position_below j p l h =
      let a = mul-le-mul_right {m = suc (rank x j)} {n = p} (equation_count x.formula) h in
      let b = suc-mul (rank x j) (equation_count x.formula) in
      omega arith

  pub place-from : (j p : ℕ) → p ≤ rank x j → digits_below p ≤ digit_place j
  unfolding digit_place digits_below
  place-from j p h = let a = mul-le-mul_right {m = p} {n = rank x j} (equation_count x.formula) h in omega arith

  pub place_nested : Sound rank x → (i j : ℕ) → Nested x.formula i j → digit_place j < digit_place i
  unfolding digit_place encloses
  place_nested sound i j n =
      let l = number_below x.formula n.inner n.inner_fixpoint in
      let a = mul-le-mul_right {m = rank x j} {n = rank x i} (equation_count x.formula) (sound.above i j n) in
      let (b, c) = and-true _ _ n.inside in
      let d = number_later x.formula n.outer n.inner n.outer_fixpoint (ltb-true n.outer n.inner b) in
      let e = n.outer_number in
      let f = n.inner_number in
      omega arith

module _ (rank : Ranking) (x : Input) (good : GoodInput x) (sound : Sound rank x) (row : List ActionSyntax)
    (reads : (i : ℕ) → i < length row → action_tree x.labels x.actions (first_node row i) ≡ read_tree x.labels row i) (every : List (List Frame)) where
  abbrev S : ℕ
  S = state_count x.system

  unfoldable pub turns_of : ℕ → ℕ → ℕ
  turns_of n j = digit (state_count x.system) (digit_place rank x j) n

  abbrev pub value_at : ℕ → ℕ → StateSet
  value_at n j = value_of x good row reads every (turns_of n) j

  -- ---- the truth of a pair under a number

  unfoldable pub item_truth : (ℕ → StateSet) → (j s : ℕ) → Item → Bool
  item_truth value j s (equation e) = value j s
  item_truth value j s (subformula f) = holds_in x row value f s

  unfoldable pub truth_of : ℕ → Pair → Bool
  truth_of n p = item_truth (value_at n) p.1 p.0 (item_at x p.1)

  pub truth-node : (n s : ℕ) (f : Formula) → Carried x f → truth_of n (s, item_number x f) ≡ holds_in x row (value_at n) f s
  unfolding truth_of item_truth
  truth-node n s f c = ap (item_truth (value_at n) (item_number x f) s) (item_subformula x f c)

  pub truth_equation : (n s j : ℕ) → j < equation_count x.formula → truth_of n (s, j) ≡ value_at n j s
  unfolding truth_of item_truth
  truth_equation n s j l = ap (item_truth (value_at n) j s) (item_equation x j l)

  -- ---- subformulas: the same number will do

  pub odd_goes : (n s : ℕ) (f : Formula) → Parts x f → holds_in x row (value_at n) f s ≡ true → formula_owner f ≡ Odd → (q : Pair) → In q (formula_targets x s f) → truth_of n q ≡ true
  unfolding formula_targets holds_in formula_owner
  odd_goes n s truth p h o q m = absurd m
  odd_goes n s falsity p h o q m = absurd m
  odd_goes n s (conjunction f g) p h o q (inl e) = ap (truth_of n) e ∙ truth-node n s f p.0 ∙ (and-true (holds_in x row (value_at n) f s) (holds_in x row (value_at n) g s) h).0
  odd_goes n s (conjunction f g) p h o q (inr (inl e)) = ap (truth_of n) e ∙ truth-node n s g p.1 ∙ (and-true (holds_in x row (value_at n) f s) (holds_in x row (value_at n) g s) h).1
  odd_goes n s (conjunction f g) p h o q (inr (inr m)) = absurd m
  odd_goes n s (disjunction f g) p h o q m = let z : Even ≡ Odd = o in absurd (players z)
  odd_goes n s (box a f) p h o q m =
      let (t, k, e) = in_map (λ (u : ℕ). (u, item_number x f)) q (successors x a s) m in
      ap (truth_of n) e ∙ truth-node n t f p ∙ all_in (holds_in x row (value_at n) f) (successors x a s) h t k
  odd_goes n s (diamond a f) p h o q m = let z : Even ≡ Odd = o in absurd (players z)
  odd_goes n s (reference i) p h o q (inl e) = ap (truth_of n) e ∙ truth_equation n s i p ∙ h
  odd_goes n s (reference i) p h o q (inr m) = absurd m

  pub even_goes : (n s : ℕ) (f : Formula) → Parts x f → holds_in x row (value_at n) f s ≡ true → formula_owner f ≡ Even → (q : Pair) × In q (formula_targets x s f) × (truth_of n q ≡ true)
  unfolding formula_targets holds_in formula_owner
  even_goes n s truth p h o = let z : Odd ≡ Even = o in absurd (players (sym z))
  even_goes n s falsity p h o = absurd (false≢true h)
  even_goes n s (conjunction f g) p h o = let z : Odd ≡ Even = o in absurd (players (sym z))
  even_goes n s (disjunction f g) p h o =
      ⊎_elim (λ a. ((s, item_number x f), inl refl, truth-node n s f p.0 ∙ a)) (λ b. ((s, item_number x g), inr (inl refl), truth-node n s g p.1 ∙ b)) (or-true (holds_in x row (value_at n) f s) (holds_in x row (value_at n) g s) h)
  even_goes n s (box a f) p h o = let z : Odd ≡ Even = o in absurd (players (sym z))
  even_goes n s (diamond a f) p h o =
      let (t, k, e) = any_in (holds_in x row (value_at n) f) (successors x a s) h in
      ((t, item_number x f), map_in (λ (u : ℕ). (u, item_number x f)) t (successors x a s) k, truth-node n t f p ∙ e)
  even_goes n s (reference i) p h o = let z : Odd ≡ Even = o in absurd (players (sym z))

  -- ---- equations

  -- what the numbers do after a pair of priority r
  abbrev pub Allowed : (r n m : ℕ) → Type 0
  Allowed r n m =
      (p : ℕ) → is_even p ≡ false → r ≤ p → (top (state_count x.system) (digits_below rank x p) m ≤ top (state_count x.system) (digits_below rank x p) n)
      × (r ≡ p → top (state_count x.system) (digits_below rank x p) m < top (state_count x.system) (digits_below rank x p) n)

  pub allowed_same : (r n : ℕ) → is_even r ≡ true → Allowed r n n
  allowed_same r n e p o l = (omega arith, λ i. absurd (true≢false (sym e ∙ ap is_even i ∙ o)))

  -- the body of the fixpoint at node u, in state s: true under a number that is allowed
  pub record After (u s n most : ℕ) : Type 0 where
    pub next : ℕ
    pub small : next ≤ most
    pub true_there : truth_of next (s, node_item x (suc u)) ≡ true
    pub allowed : Allowed (rank x (equation_number x.formula u)) n next

  module _ (n most : ℕ) (o : Operator) (f : FormulaSyntax) (fs : List Frame) (u : ℕ) (place : Place x good row reads every (fixpoint_of o f) fs u) where
    abbrev j : ℕ
    j = equation_number x.formula u

    fixed : is_fixpoint (formula_node x.formula u) ≡ true
    fixed = fixpoint_at x good row reads every o f fs u place

    body : Place x good row reads every f (frame o f u ∷ fs) (suc u)
    body = body_place x good row reads every o f fs u place

    -- a fixpoint around has a higher digit
    around_higher : (i : ℕ) → i < length (frame_nodes fs) → digit_place rank x j < digit_place rank x (equation_number x.formula (get_or (frame_nodes fs) i 0))
    unfolding encloses is_before_end
    around_higher i l =
        let (p, q, (y, r, z)) = place.surround i l in
        let k = formula_some (fixpoint_of o f) in
        place_nested rank x sound (equation_number x.formula (get_or (frame_nodes fs) i 0)) j
        (record {
          outer = get_or (frame_nodes fs) i 0;
          inner = u;
          outer_fixpoint = p;
          inner_fixpoint = fixed;
          outer_number = refl;
          inner_number = refl;
          inside = rw (lt-ltb (get_or (frame_nodes fs) i 0) u q, r) (lt-ltb u y (omega arith));
        })

    one_more : (p : Operator) → fixpoints (fixpoint_of p f) ≡ suc (fixpoints f)
    unfolding fixpoints
    one_more least = refl
    one_more greatest = refl

    -- a fixpoint inside has a lower one
    inside_lower : (k : ℕ) → equation_number x.formula (suc u) ≤ k → k < equation_number x.formula (suc u) + fixpoints f → digit_place rank x k < digit_place rank x j
    inside_lower k a b =
        let e = number_more x.formula u fixed in
        let c = one_more o in
        place_nested rank x sound j k
        ((nested_exactly row x.formula (fixpoint_of o f) (frame_nodes fs) u fixed place.holds place.fits k).1 (omega arith, omega arith))

    -- the body under a number that leaves the digits above, and has the largest below
    body_true : (m s : ℕ) (E : StateSet) → s < S → ((k : ℕ) → digit_place rank x j < digit_place rank x k → turns_of m k ≡ turns_of n k)
        → ((k : ℕ) → digit_place rank x k < digit_place rank x j → turns_of m k ≡ S)
        → frame_set x row (turns_of m) (frame o f u) (frame_sets x row (turns_of n) fs) ≡ E
        → evaluate x row f (E ∷ frame_sets x row (turns_of n) fs) s ≡ true
        → truth_of m (s, node_item x (suc u)) ≡ true
    unfolding node_item frame_sets
    body_true m s E l above below e h =
        let same : frame_sets x row (turns_of m) fs ≡ frame_sets x row (turns_of n) fs =
        same_sets x row (turns_of m) (turns_of n) fs (λ i b. above (equation_number x.formula (get_or (frame_nodes fs) i 0)) (around_higher i b)) in
        let sets : frame_sets x row (turns_of m) (frame o f u ∷ fs) ≡ E ∷ frame_sets x row (turns_of n) fs =
        ap (λ (env : List StateSet). frame_set x row (turns_of m) (frame o f u) env ∷ env) same ∙ ap (λ (D : StateSet). D ∷ frame_sets x row (turns_of n) fs) e in
        truth-node m s (formula_tree x (suc u)) (suc u, later_body x.formula (suc u) (omega arith) (omega (arith, body.fits, formula_some f)), refl)
        ∙ sym (says x good row reads every (turns_of m) f (frame o f u ∷ fs) (suc u) body (λ k a b. below k (inside_lower k a b)) s l)
        ∙ ap (λ (env : List StateSet). evaluate x row f env s) sets
        ∙ h

  allowed_fill : (j n : ℕ) → j < equation_count x.formula → is_even (rank x j) ≡ true → Allowed (rank x j) n (fill S (digit_place rank x j) n)
  allowed_fill j n l e p odd r = go (ℕ_discrete (rank x j) p)
    where
      go : Dec (rank x j ≡ p) → (top S (digits_below rank x p) (fill S (digit_place rank x j) n) ≤ top S (digits_below rank x p) n)
          × (rank x j ≡ p → top S (digits_below rank x p) (fill S (digit_place rank x j) n) < top S (digits_below rank x p) n)
      go (yes i) = absurd (true≢false (sym e ∙ ap is_even i ∙ odd))
      go (no i) =
          let b = position_below rank x j p l (omega arith) in
          let t = top_fill S (digits_below rank x p) (digit_place rank x j) n (omega arith) in
          (omega arith, λ z. absurd (i z))

  allowed_down : (j n b : ℕ) → j < equation_count x.formula → digit S (digit_place rank x j) n ≡ suc b → Allowed (rank x j) n (down S (digit_place rank x j) n)
  allowed_down j n b l e p odd r = go (ℕ_discrete (rank x j) p)
    where
      less : down S (digit_place rank x j) n < n
      less = down_less S (digit_place rank x j) n b e

      go : Dec (rank x j ≡ p) → (top S (digits_below rank x p) (down S (digit_place rank x j) n) ≤ top S (digits_below rank x p) n)
          × (rank x j ≡ p → top S (digits_below rank x p) (down S (digit_place rank x j) n) < top S (digits_below rank x p) n)
      go (yes i) =
          let t = top_less S (digits_below rank x p) (digit_place rank x j) n b (place-from rank x j p (omega arith)) e in
          (omega arith, λ z. t)
      go (no i) = (top_monotone S (digits_below rank x p) (down S (digit_place rank x j) n) n (omega (arith, less)), λ z. absurd (i z))

  module _ (n m : ℕ) (f : FormulaSyntax) (fs : List Frame) (u : ℕ) where
    -- greatest: the digits below become largest, and nothing else changes
    greatest_after : Place x good row reads every (greatest_formula f) fs u → (s : ℕ) → s < S → n ≤ fill S m 0 → digit_place rank x (equation_number x.formula u) ≤ m
        → value_at n (equation_number x.formula u) s ≡ true → After u s n (fill S m 0)
    unfolding turns_of frame_set turn_set is_greatest write_over
    greatest_after place s l small fits h =
        let j = equation_number x.formula u in
        let q = digit_place rank x j in
        let fixed = fixpoint_at x good row reads every greatest f fs u place in
        let (k, o, t) = place.holds in
        let even : is_even (rank x j) ≡ true =
        sound.parity j (number_below x.formula u fixed) ∙ ap (λ (e : Equation). is_greatest e.operator) (greatest_equation x.formula u (fixpoint_inside x.formula u fixed) k) in
        let env = frame_sets x row (turns_of n) fs in
        let F : StateSet → StateSet = λ E. evaluate x row f (E ∷ env) in
        let v : iterate S F everywhere s ≡ true = sym (ap (λ (E : StateSet). E s) (place-value x good row reads every (turns_of n) greatest f fs u place)) ∙ h in
        record {
          next = fill S q n;
          small = fill_most S m q n fits small;
          true_there = body_true n m greatest f fs u place (fill S q n) s (iterate S F everywhere) l
              (λ k a. fill_from S q (digit_place rank x k) n (omega arith)) (λ k a. fill_below S q (digit_place rank x k) n a) refl (greatest_supported S F (monotone x good row f env) s l v);
          allowed = allowed_fill j n (number_below x.formula u fixed) even;
        }

    -- least: one time fewer
    least-after : Place x good row reads every (least_formula f) fs u → (s : ℕ) → s < S → n ≤ fill S m 0
        → value_at n (equation_number x.formula u) s ≡ true → After u s n (fill S m 0)
    unfolding turns_of frame_set turn_set iterate nowhere
    least-after place s l small h = go (digit S (digit_place rank x (equation_number x.formula u)) n) refl
      where
        iterated : (d : ℕ) → digit S (digit_place rank x (equation_number x.formula u)) n ≡ d → iterate d (λ E. evaluate x row f (E ∷ frame_sets x row (turns_of n) fs)) nowhere s ≡ true
        iterated d e =
            ap (λ (t : ℕ). iterate t (λ E. evaluate x row f (E ∷ frame_sets x row (turns_of n) fs)) nowhere s) (sym e)
            ∙ sym (ap (λ (E : StateSet). E s) (place-value x good row reads every (turns_of n) least f fs u place))
            ∙ h

        go : (d : ℕ) → digit S (digit_place rank x (equation_number x.formula u)) n ≡ d → After u s n (fill S m 0)
        go zero e = absurd (false≢true (iterated zero e))
        go (suc b) e =
            let q = digit_place rank x (equation_number x.formula u) in
            let less = down_less S q n b e in
            record {
              next = down S q n;
              small = omega arith;
              true_there = body_true n m least f fs u place (down S q n) s (iterate b (λ E. evaluate x row f (E ∷ frame_sets x row (turns_of n) fs)) nowhere) l
                  (λ k a. down_above S q (digit_place rank x k) n b a e) (λ k a. down_below S q (digit_place rank x k) n a)
                  (ap (λ (t : ℕ). iterate t (λ E. evaluate x row f (E ∷ frame_sets x row (turns_of n) fs)) nowhere) (down_at S q n b e))
                  (iterated (suc b) e);
              allowed = allowed_down (equation_number x.formula u) n b (number_below x.formula u (fixpoint_at x good row reads every least f fs u place)) e;
            }

    -- any fixpoint
    pub fixpoint_after : (o : Operator) → Place x good row reads every (fixpoint_of o f) fs u → (s : ℕ) → s < S → n ≤ fill S m 0 → digit_place rank x (equation_number x.formula u) ≤ m
        → value_at n (equation_number x.formula u) s ≡ true → After u s n (fill S m 0)
    fixpoint_after least place s l small fits h = least-after place s l small h
    fixpoint_after greatest place s l small fits h = greatest_after place s l small fits h
