-- A pair of a claimed region satisfies its subformula: by induction over the formula, and in a least fixpoint over its
-- equation's number. Assumes nothing.
use mathlib.Core.Path.{◌≡◌, refl, sym, ap, subst, ◌∙◌}
use mathlib.Core.Bool.{Bool, true, false, ◌&&◌, true≢false, false≢true}
use mathlib.Core.List.{List, [], ◌∷◌, ◌++◌}
use mathlib.Core.Option.{some}
use mathlib.Core.Logic.{◌⊎◌, inl, inr}
use Prim.Native.Nat.{ℕ, zero, suc, ◌+◌, ◌≤◌, ◌<◌}
use native.Mathlib.Omega.{arith}
use lib.Dec.{ltb}
use lib.ListN.{length}
use borrow.Author.Tests.{lt-ltb, ltb-true}
use Rattle.player.specs.declared.Player.TheVariants.{Even, Odd}
use Rattle.rules.specs.Lists.{In}
use Rattle.rules.specs.Words.{Input}
use Rattle.rules.specs.System.{state_count}
use Rattle.rules.specs.Table.{size, kind, operand, formula_node, formula_children, tree_end, is_before_end}
use Rattle.rules.specs.Actions.{Action, action_tree}
use Rattle.rules.specs.Formula.{Operator, least, greatest, is_fixpoint, Equation, equation_number, Formula, falsity, conjunction, disjunction, box, diamond, reference, formula_tree, first_body_node}
use Rattle.rules.specs.Depth.{Ranking}
use Rattle.rules.specs.Items.{item_number}
use Rattle.rules.specs.Pairs.{Pair, formula_owner, priority, successors, formula_targets}
use Rattle.rules.specs.Refusal.{encloses}
use Rattle.tables.specs.Good.{GoodInput}
use Rattle.lists.proofs.Members.{map_in, in_map}
use Rattle.lists.proofs.Tests.{and-true}
use Rattle.tables.proofs.Decode.{fixpoint_yes}
use Rattle.trees.proofs.FormulaTrees.{falsity_tree, conjunction_tree, disjunction_tree, box_tree, diamond_tree, fixpoint_tree, reference_tree}
use Rattle.trees.proofs.Equations.{number_below, least_equation}
use Rattle.arena.specs.Arena.{BodyNode}
use Rattle.arena.proofs.ItemNumbers.{later_body}
use Rattle.writing.specs.ActionSyntax.{ActionSyntax, first_node}
use Rattle.writing.specs.FormulaSyntax.{FormulaSyntax, true_formula, false_formula, and_formula, or_formula, box_formula, diamond_formula, least_formula, greatest_formula, reference_formula, formula_size, write_formula, Names, read_tree, write_over}
use Rattle.writing.specs.Nodes.{Holds}
use Rattle.writing.proofs.FormulaNodes.{formula_some, holds_both, formula_ends, Surround, surround_inner, surround_more}
use Rattle.meaning.specs.Satisfies.{StateSet, Within, Of, Satisfies, SatisfiesBy}
use Rattle.satisfaction.specs.Ranks.{is_even, is_greatest, Nested, PassSound}
use Rattle.meaning.proofs.Tests.{both_true}
use Rattle.meaning.proofs.Moving.{successor_moves, moves_successor, moves_inside}
use Rattle.satisfaction.proofs.Vertices.{node_item, node_owner, node_targets, node_priority, equation_priority, fixpoint_targets}
use Rattle.satisfaction.proofs.Regions.{EvenBelow, Goes, Region, goes_only}
use Rattle.satisfaction.proofs.Layers.{Layer, nodes, sets, meets_all, Layered, Inner, inner_plain, layers_keep, layer_at}

module _ (rank : Ranking) (x : Input) (good : GoodInput x) (sound : PassSound rank x) (row : List ActionSyntax)
    (reads : (i : ℕ) → i < length row → action_tree x.labels x.actions (first_node row i) ≡ read_tree x.labels row i)
    (region : Pair → Bool) (number : ℕ → Pair → ℕ) (claims : Region rank x region number EvenBelow) where
  abbrev pub GoesTo : Pair → Pair → Type 0
  GoesTo p q = Goes rank x region number EvenBelow p q

  abbrev pub Layers : List Layer → Type 0
  Layers ls = Layered rank x region number ls

  -- the pair of a state and the equation of the fixpoint at node v
  abbrev pub equation_pair : (v s : ℕ) → Pair
  equation_pair v s = (s, equation_number x.formula v)

  abbrev pub node_pair : (v s : ℕ) → Pair
  node_pair v s = (s, node_item x v)

  -- claimed, and within the bounds of the fixpoints around
  abbrev pub Claimed : List Layer → Pair → Type 0
  Claimed ls p = (region p ≡ true) × (meets_all ls p ≡ true)

  -- ---- steps between pairs of body nodes

  next_claimed : (ls : List Layer) → Layers ls → (v w s t : ℕ) → Claimed ls (node_pair v s) → GoesTo (node_pair v s) (node_pair w t) → Claimed ls (node_pair w t)
  next_claimed ls h v w s t c g =
      (g.claimed, layers_keep rank x region number ls h (node_pair v s) (node_pair w t) g (inner_plain rank x region number ls (node_pair v s) (node_priority x rank v s)) c.1)

  module _ (v : ℕ) (body : BodyNode x.formula v) (t : Formula) (e : formula_tree x v ≡ t) where
    -- Odd's pair: every target goes on
    all_go : (s : ℕ) → region (node_pair v s) ≡ true → formula_owner t ≡ Odd → (q : Pair) → In q (formula_targets x s t) → GoesTo (node_pair v s) q
    all_go s r o q m = claims.odd (node_pair v s) q r (node_owner x v body t e s ∙ o) (subst (λ (l : List Pair). In q l) (sym (node_targets x v body t e s)) m)

    -- Even's pair: some target does
    one_goes : (s : ℕ) → region (node_pair v s) ≡ true → formula_owner t ≡ Even → (q : Pair) × In q (formula_targets x s t) × GoesTo (node_pair v s) q
    one_goes s r o =
        let (q, m, g) = claims.even (node_pair v s) r (node_owner x v body t e s ∙ o) in
        (q, subst (λ (l : List Pair). In q l) (node_targets x v body t e s) m, g)

  -- ---- a fixpoint, given that its body is satisfied in every layer

  module _ (v : ℕ) (ls : List Layer) (h : Layers ls) (fixed : is_fixpoint (formula_node x.formula v) ≡ true) (low : Inner rank x region number ls (rank x (equation_number x.formula v))) where
    abbrev m : ℕ
    m = rank x (equation_number x.formula v)

    equation_goes : (s : ℕ) → region (equation_pair v s) ≡ true → GoesTo (equation_pair v s) (node_pair (suc v) s)
    equation_goes s r = goes_only rank x region number EvenBelow claims (equation_pair v s) (node_pair (suc v) s) r (fixpoint_targets x v s fixed)

    equation_rank : (s : ℕ) → priority rank x (equation_pair v s) ≡ m
    equation_rank s = equation_priority x rank (equation_pair v s) (number_below x.formula v fixed)

    body_meets : (s : ℕ) → Claimed ls (equation_pair v s) → meets_all ls (node_pair (suc v) s) ≡ true
    body_meets s c =
        layers_keep rank x region number ls h (equation_pair v s) (node_pair (suc v) s) (equation_goes s c.0) (subst (Inner rank x region number ls) (sym (equation_rank s)) low) c.1

    -- greatest: the states of the claimed pairs within the bounds support themselves
    unfoldable claimed_states : StateSet
    claimed_states s = region (equation_pair v s) && meets_all ls (equation_pair v s)

    abbrev greatest_layer : Layer
    greatest_layer = record { node = v; set = claimed_states; meets = meets_all ls }

    greatest_layered : Layers (greatest_layer ∷ ls)
    unfolding claimed_states
    greatest_layered = (λ p e. e, λ p q g i. layers_keep rank x region number ls h p q g i.1, λ s l r e. both_true _ _ r e, h)

    greatest_claim : (f : FormulaSyntax)
        → ((l : Layer) → Layers (l ∷ ls) → l.node ≡ v → (s : ℕ) → s < state_count x.system → Claimed (l ∷ ls) (node_pair (suc v) s) → Satisfies x row f (l.set ∷ sets ls) s)
        → (s : ℕ) → s < state_count x.system → Claimed ls (equation_pair v s) → Satisfies x row (greatest_formula f) (sets ls) s
    unfolding SatisfiesBy claimed_states meets_all
    greatest_claim f body s l c =
        (claimed_states, (λ t k e. let d = and-true _ _ e in body greatest_layer greatest_layered refl t k ((equation_goes t d.0).claimed, body_meets t d)), both_true _ _ c.0 c.1)

    -- least: within a bound on the equation's number, by induction on it
    module _ (odd : is_even m ≡ false) (E : StateSet) where
      unfoldable below : ℕ → Pair → Bool
      below c p = meets_all ls p && ltb (number m p) c

      abbrev least_layer : ℕ → Layer
      least_layer c = record { node = v; set = E; meets = below c }

      least_layered : (c : ℕ)
          → ((s : ℕ) → s < state_count x.system → Claimed ls (equation_pair v s) → number m (equation_pair v s) < c → E s ≡ true)
          → Layers (least_layer c ∷ ls)
      unfolding below
      least_layered c inside = (
        λ p e. (and-true _ _ e).0,
        λ p q g a e.
            let d = and-true _ _ e in
            let i = ltb-true (number m p) c d.1 in
            let (j, k) = g.falls m odd (a.0 odd) in
            both_true _ _ (layers_keep rank x region number ls h p q g a.1 d.0) (lt-ltb (number m q) c (omega arith)),
        λ s l r e.
            let d = and-true _ _ e in
            inside s l (r, d.0) (ltb-true (number m (equation_pair v s)) c d.1),
        h,
      )

      least_below : (f : FormulaSyntax)
          → ((l : Layer) → Layers (l ∷ ls) → l.node ≡ v → (s : ℕ) → s < state_count x.system → Claimed (l ∷ ls) (node_pair (suc v) s) → Satisfies x row f (l.set ∷ sets ls) s)
          → Within x.system (Satisfies x row f (E ∷ sets ls)) (Of E)
          → (n s : ℕ) → s < state_count x.system → Claimed ls (equation_pair v s) → number m (equation_pair v s) < n → E s ≡ true
      unfolding below meets_all
      least_below f body closed zero s l c k = absurd (omega arith)
      least_below f body closed (suc n) s l c k =
          let z = number m (equation_pair v s) in
          let g = equation_goes s c.0 in
          let a = equation_rank s in
          let (i, j) = g.falls m odd (λ e. omega arith) in
          closed s l (body (least_layer z)
          (least_layered z (λ t y d e. least_below f body closed n t y d (omega arith)))
          refl s l (g.claimed, both_true _ _ (body_meets s c) (lt-ltb (number m (node_pair (suc v) s)) z (j a))))

    least_claim : is_even m ≡ false → (f : FormulaSyntax)
        → ((l : Layer) → Layers (l ∷ ls) → l.node ≡ v → (s : ℕ) → s < state_count x.system → Claimed (l ∷ ls) (node_pair (suc v) s) → Satisfies x row f (l.set ∷ sets ls) s)
        → (s : ℕ) → s < state_count x.system → Claimed ls (equation_pair v s) → Satisfies x row (least_formula f) (sets ls) s
    unfolding SatisfiesBy
    least_claim odd f body s l c E closed = least_below odd E f body closed (suc (number m (equation_pair v s))) s l c (omega arith)

  -- ---- an even rank inside a least fixpoint is below its rank

  is_least : (o : Operator) → is_greatest o ≡ false → o ≡ least
  unfolding is_greatest
  is_least least e = refl
  is_least greatest e = absurd (true≢false e)

  is-greatest : (o : Operator) → is_greatest o ≡ true → o ≡ greatest
  unfolding is_greatest
  is-greatest least e = absurd (false≢true e)
  is-greatest greatest e = refl

  inner_rank : (ls : List Layer) (v e : ℕ) → Surround x.formula (nodes ls) v e → v < e → is_fixpoint (formula_node x.formula v) ≡ true
      → Inner rank x region number ls (rank x (equation_number x.formula v))
  unfolding encloses is_before_end
  inner_rank [] v e s l h = tt
  inner_rank (a ∷ ls) v e s l h =
      let (p, q, (y, r, z)) = s 0 (omega arith) in
      let i = equation_number x.formula a.node in
      let j = equation_number x.formula v in
      let nested : Nested x.formula i j =
      record {
        outer = a.node;
        inner = v;
        outer_fixpoint = p;
        inner_fixpoint = h;
        outer_number = refl;
        inner_number = refl;
        inside = rw (lt-ltb a.node v q, r) (lt-ltb v y (omega arith));
      } in (
        λ odd even.
            let d = sound.below i j nested (is_least _ (sym (sound.parity i (number_below x.formula a.node p)) ∙ odd)) (is-greatest _ (sym (sound.parity j (number_below x.formula v h)) ∙ even)) in
            omega arith,
        inner_rank ls v e (λ i k. s (suc i) (omega arith)) l h,
      )

  -- ---- formulas at nodes

  -- the formula stands at node v, inside the fixpoints of the layers
  pub record Stands (f : FormulaSyntax) (ls : List Layer) (v : ℕ) : Type 0 where
    pub holds : Holds (write_formula row f (nodes ls) v) x.formula v
    pub fits : v + formula_size f ≤ size x.formula
    pub names : Names (length row) (length (nodes ls)) f
    pub surround : Surround x.formula (nodes ls) v (v + formula_size f)
    pub layers : Layers ls

  stands_left : (f g : FormulaSyntax) (ls : List Layer) (v : ℕ)
      → Holds (write_formula row f (nodes ls) (suc v) ++ write_formula row g (nodes ls) (suc v + formula_size f)) x.formula (suc v)
      → v + suc (formula_size f + formula_size g) ≤ size x.formula → Names (length row) (length (nodes ls)) f
      → Surround x.formula (nodes ls) v (v + suc (formula_size f + formula_size g)) → Layers ls → Stands f ls (suc v)
  stands_left f g ls v h b n s l =
      record {
        holds = (holds_both (first_node row) x.formula f g (nodes ls) v h).0;
        fits = omega arith;
        names = n;
        surround = surround_inner x.formula (nodes ls) v _ (suc v) _ (omega arith) (omega arith) s;
        layers = l;
      }

  stands_right : (f g : FormulaSyntax) (ls : List Layer) (v w : ℕ) → w ≡ suc v + formula_size f
      → Holds (write_formula row f (nodes ls) (suc v) ++ write_formula row g (nodes ls) (suc v + formula_size f)) x.formula (suc v)
      → v + suc (formula_size f + formula_size g) ≤ size x.formula → Names (length row) (length (nodes ls)) g
      → Surround x.formula (nodes ls) v (v + suc (formula_size f + formula_size g)) → Layers ls → Stands g ls w
  stands_right f g ls v w e h b n s l =
      record {
        holds = subst (λ (u : ℕ). Holds (write_formula row g (nodes ls) u) x.formula u) (sym e) (holds_both (first_node row) x.formula f g (nodes ls) v h).1;
        fits = omega arith;
        names = n;
        surround = surround_inner x.formula (nodes ls) v _ w _ (omega arith) (omega arith) s;
        layers = l;
      }

  stands_only : (f : FormulaSyntax) (ls : List Layer) (v : ℕ) → Holds (write_formula row f (nodes ls) (suc v)) x.formula (suc v) → v + suc (formula_size f) ≤ size x.formula
      → Names (length row) (length (nodes ls)) f → Surround x.formula (nodes ls) v (v + suc (formula_size f)) → Layers ls → Stands f ls (suc v)
  stands_only f ls v h b n s l =
      record {
        holds = h;
        fits = omega arith;
        names = n;
        surround = surround_inner x.formula (nodes ls) v _ (suc v) _ (omega arith) (omega arith) s;
        layers = l;
      }

  -- the body of a fixpoint, in one layer more
  stands_body : (f : FormulaSyntax) (ls : List Layer) (v : ℕ) → v < size x.formula → is_fixpoint (formula_node x.formula v) ≡ true
      → tree_end (formula_children x.formula) (size x.formula) v ≡ some (v + suc (formula_size f))
      → Holds (write_formula row f (v ∷ nodes ls) (suc v)) x.formula (suc v) → v + suc (formula_size f) ≤ size x.formula
      → Names (length row) (suc (length (nodes ls))) f → Surround x.formula (nodes ls) v (v + suc (formula_size f))
      → (l : Layer) → Layers (l ∷ ls) → l.node ≡ v → Stands f (l ∷ ls) (suc v)
  stands_body f ls v a fixed ends h b n s l ll e =
      record {
        holds = subst (λ (u : ℕ). Holds (write_formula row f (u ∷ nodes ls) (suc v)) x.formula (suc v)) (sym e) h;
        fits = omega arith;
        names = n;
        surround = subst (λ (u : ℕ). Surround x.formula (u ∷ nodes ls) (suc v) (suc v + formula_size f)) (sym e)
            (surround_inner x.formula (v ∷ nodes ls) (suc v) (v + suc (formula_size f)) (suc v) _ (omega arith) (omega arith)
            (surround_more x.formula (nodes ls) v _ fixed ends s));
        layers = ll;
      }

  -- ---- the claim

  abbrev pub Holding : FormulaSyntax → List Layer → (ℕ → Pair) → Type 0
  Holding f ls at = (s : ℕ) → s < state_count x.system → Claimed ls (at s) → Satisfies x row f (sets ls) s

  -- a fixpoint that stands in a body is a reference to its own equation
  to_equation : (ls : List Layer) (v : ℕ) → Layers ls → v < size x.formula → first_body_node x.formula ≤ v → 6 ≤ kind x.formula v → kind x.formula v ≤ 7
      → (s : ℕ) → Claimed ls (node_pair v s) → Claimed ls (equation_pair v s)
  unfolding formula_targets formula_owner
  to_equation ls v h a b k j s c =
      let g : GoesTo (node_pair v s) (equation_pair v s) =
      all_go v (b, a) (reference (equation_number x.formula v)) (fixpoint_tree (size x.actions) x good.formula v a k j) s c.0 refl (equation_pair v s) (inl refl) in
      (g.claimed, layers_keep rank x region number ls h (node_pair v s) (equation_pair v s) g (inner_plain rank x region number ls (node_pair v s) (node_priority x rank v s)) c.1)

  module _ (f : FormulaSyntax) (ls : List Layer) (v : ℕ) where
    pub least_holds : Stands (least_formula f) ls v → ((l : Layer) → Stands f (l ∷ ls) (suc v) → Holding f (l ∷ ls) (node_pair (suc v))) → Holding (least_formula f) ls (equation_pair v)
    unfolding write_over formula_size is_greatest
    least_holds st body =
        let (k, o, h) = st.holds in
        let fit = st.fits in
        let fixed = fixpoint_yes x.formula v (omega arith) (omega arith) (omega arith) in
        let low = inner_rank ls v _ st.surround (omega arith) fixed in
        least_claim v ls st.layers fixed low
        (sound.parity (equation_number x.formula v) (number_below x.formula v fixed) ∙ ap (λ (q : Equation). is_greatest q.operator) (least_equation x.formula v (omega arith) k))
        f
        (λ l ll e. body l (stands_body f ls v (omega arith) fixed (formula_ends (first_node row) x.formula (least_formula f) (nodes ls) v st.holds st.fits) h fit st.names st.surround l ll e))

    pub greatest_holds : Stands (greatest_formula f) ls v → ((l : Layer) → Stands f (l ∷ ls) (suc v) → Holding f (l ∷ ls) (node_pair (suc v))) → Holding (greatest_formula f) ls (equation_pair v)
    unfolding write_over formula_size
    greatest_holds st body =
        let (k, o, h) = st.holds in
        let fit = st.fits in
        let fixed = fixpoint_yes x.formula v (omega arith) (omega arith) (omega arith) in
        let low = inner_rank ls v _ st.surround (omega arith) fixed in
        greatest_claim v ls st.layers fixed low f
        (λ l ll e. body l (stands_body f ls v (omega arith) fixed (formula_ends (first_node row) x.formula (greatest_formula f) (nodes ls) v st.holds st.fits) h fit st.names st.surround l ll e))

  reference_holds : (i : ℕ) (ls : List Layer) (v : ℕ) → Stands (reference_formula i) ls v → first_body_node x.formula ≤ v → Holding (reference_formula i) ls (node_pair v)
  unfolding write_over formula_size formula_targets formula_owner SatisfiesBy
  reference_holds i ls v st b s l c =
      let (k, o, h) = st.holds in
      let fit = st.fits in
      let at = layer_at rank x region number ls i (node_pair v s) st.names st.layers c.1 in
      let u = at.layer.node in
      let tree : formula_tree x v ≡ reference (equation_number x.formula u) =
      reference_tree (size x.actions) x good.formula v (omega arith) k ∙ ap (λ (n : ℕ). reference (equation_number x.formula n)) (o ∙ at.named) in
      let g : GoesTo (node_pair v s) (equation_pair u s) = all_go v (b, omega arith) (reference (equation_number x.formula u)) tree s c.0 refl (equation_pair u s) (inl refl) in
      ap (λ (E : StateSet). E s) at.stands
      ∙ at.covers s l g.claimed (at.keeps (equation_pair u s) g (node_priority x rank v s))

  -- one of two targets
  either : (p q r : Pair) (A B : Type 0) → (z : Pair) × In z (q ∷ r ∷ []) × GoesTo p z → (GoesTo p q → A) → (GoesTo p r → B) → A ⊎ B
  either p q r A B (z, inl e, g) f h = inl (f (subst (λ (y : Pair). GoesTo p y) e g))
  either p q r A B (z, inr (inl e), g) f h = inr (h (subst (λ (y : Pair). GoesTo p y) e g))
  either p q r A B (z, inr (inr m), g) f h = absurd m

  same_goes : (v s : ℕ) (q r : Pair) → q ≡ r → GoesTo (node_pair v s) q → GoesTo (node_pair v s) r
  same_goes v s q r e g = subst (λ (z : Pair). GoesTo (node_pair v s) z) e g

  pub claim : (f : FormulaSyntax) (ls : List Layer) (v : ℕ) → Stands f ls v → first_body_node x.formula ≤ v → Holding f ls (node_pair v)
  unfolding write_over formula_size formula_targets formula_owner SatisfiesBy node_item
  claim true_formula ls v st b s l c = tt
  claim false_formula ls v st b s l c =
      let (k, o, h) = st.holds in
      let fit = st.fits in
      let (q, m, g) = one_goes v (b, omega arith) falsity (falsity_tree (size x.actions) x good.formula v (omega arith) k) s c.0 refl in
      absurd m
  claim (and_formula f g) ls v st b s l c =
      let (k, o, h) = st.holds in
      let fit = st.fits in
      let (n, n') = st.names in
      let w = operand x.formula v in
      let tree = conjunction_tree (size x.actions) x good.formula v (omega arith) k in
      let go = all_go v (b, omega arith) (conjunction (formula_tree x (suc v)) (formula_tree x w)) tree s c.0 refl in
      let later = later_body x.formula (suc v) (omega arith) (omega (arith, formula_some f)) in
      let later' = later_body x.formula w (omega arith) (omega (arith, formula_some g)) in (
        claim f ls (suc v) (stands_left f g ls v h fit n st.surround st.layers) later.0 s l
            (next_claimed ls st.layers v (suc v) s s c (go (node_pair (suc v) s) (inl refl))),
        claim g ls w (stands_right f g ls v w o h fit n' st.surround st.layers) later'.0 s l
            (next_claimed ls st.layers v w s s c (go (node_pair w s) (inr (inl refl)))),
      )
  claim (or_formula f g) ls v st b s l c =
      let (k, o, h) = st.holds in
      let fit = st.fits in
      let (n, n') = st.names in
      let w = operand x.formula v in
      let tree = disjunction_tree (size x.actions) x good.formula v (omega arith) k in
      let later = later_body x.formula (suc v) (omega arith) (omega (arith, formula_some f)) in
      let later' = later_body x.formula w (omega arith) (omega (arith, formula_some g)) in
      either (node_pair v s) (node_pair (suc v) s) (node_pair w s) (Satisfies x row f (sets ls) s) (Satisfies x row g (sets ls) s)
      (one_goes v (b, omega arith) (disjunction (formula_tree x (suc v)) (formula_tree x w)) tree s c.0 refl)
      (λ go. claim f ls (suc v) (stands_left f g ls v h fit n st.surround st.layers) later.0 s l (next_claimed ls st.layers v (suc v) s s c go))
      (λ go. claim g ls w (stands_right f g ls v w o h fit n' st.surround st.layers) later'.0 s l (next_claimed ls st.layers v w s s c go))
  claim (box_formula i f) ls v st b s l c =
      let (k, o, h) = st.holds in
      let fit = st.fits in
      let (n, n') = st.names in
      let a = read_tree x.labels row i in
      let tree : formula_tree x v ≡ box a (formula_tree x (suc v)) =
      box_tree (size x.actions) x good.formula v (omega arith) k ∙ ap (λ (z : Action). box z (formula_tree x (suc v))) (ap (action_tree x.labels x.actions) o ∙ reads i n) in
      let later = later_body x.formula (suc v) (omega arith) (omega (arith, formula_some f)) in
      λ t m.
      claim f ls (suc v) (stands_only f ls v h fit n' st.surround st.layers) later.0 t (moves_inside x row i good s t l m)
      (next_claimed ls st.layers v (suc v) s t c
      (all_go v (b, omega arith) (box a (formula_tree x (suc v))) tree s c.0 refl (node_pair (suc v) t)
      (map_in (λ (u : ℕ). (u, item_number x (formula_tree x (suc v)))) t (successors x a s) (moves_successor x row i s t m))))
  claim (diamond_formula i f) ls v st b s l c =
      let (k, o, h) = st.holds in
      let fit = st.fits in
      let (n, n') = st.names in
      let a = read_tree x.labels row i in
      let tree : formula_tree x v ≡ diamond a (formula_tree x (suc v)) =
      diamond_tree (size x.actions) x good.formula v (omega arith) k ∙ ap (λ (z : Action). diamond z (formula_tree x (suc v))) (ap (action_tree x.labels x.actions) o ∙ reads i n) in
      let later = later_body x.formula (suc v) (omega arith) (omega (arith, formula_some f)) in
      let (q, m, go) = one_goes v (b, omega arith) (diamond a (formula_tree x (suc v))) tree s c.0 refl in
      let (t, j, e) = in_map (λ (u : ℕ). (u, item_number x (formula_tree x (suc v)))) q (successors x a s) m in
      let y = successor_moves x row i s t j in (
        t,
        y,
        claim f ls (suc v) (stands_only f ls v h fit n' st.surround st.layers) later.0 t (moves_inside x row i good s t l y)
            (next_claimed ls st.layers v (suc v) s t c (same_goes v s q (node_pair (suc v) t) e go)),
      )
  claim (least_formula f) ls v st b s l c =
      let (k, o, h) = st.holds in
      let fit = st.fits in
      least_holds f ls v st (λ a sa. claim f (a ∷ ls) (suc v) sa (later_body x.formula (suc v) (omega arith) (omega (arith, sa.fits, formula_some f))).0) s l
      (to_equation ls v st.layers (omega arith) b (omega arith) (omega arith) s c)
  claim (greatest_formula f) ls v st b s l c =
      let (k, o, h) = st.holds in
      let fit = st.fits in
      greatest_holds f ls v st (λ a sa. claim f (a ∷ ls) (suc v) sa (later_body x.formula (suc v) (omega arith) (omega (arith, sa.fits, formula_some f))).0) s l
      (to_equation ls v st.layers (omega arith) b (omega arith) (omega arith) s c)
  claim (reference_formula i) ls v st b s l c = reference_holds i ls v st b s l c
