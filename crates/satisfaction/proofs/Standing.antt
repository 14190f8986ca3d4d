-- Where the subformulas of the whole formula stand, and that evaluating one says what its tree says if the fixpoints
-- inside it are iterated as often as there are states. Assumes nothing.
use mathlib.Core.Path.{◌≡◌, sym, ap, ap₂, subst, ◌∙◌}
use mathlib.Core.Bool.{true, false, ◌&&◌, ◌||◌, true≢false}
use mathlib.Core.List.{List, [], ◌∷◌, ◌++◌}
use mathlib.Core.Option.{some}
use Prim.Native.Nat.{ℕ, zero, suc, ◌+◌, ◌≤◌, ◌<◌}
use native.Mathlib.Omega.{arith}
use native.Mathlib.Decide.{dec_lt, ℕ_discrete}
use lib.ListN.{length, get_or, get_or-append}
use lib.Seq.{get_or-append-add}
use Rattle.rules.specs.Words.{Input}
use Rattle.rules.specs.System.{state_count}
use Rattle.rules.specs.Table.{size, operand, formula_node, formula_children, tree_end}
use Rattle.rules.specs.Actions.{Action, action_tree}
use Rattle.rules.specs.Formula.{Operator, least, greatest, is_fixpoint, equation_number, Formula, box, diamond, reference, formula_tree}
use Rattle.rules.specs.Pairs.{successors}
use Rattle.tables.specs.Good.{GoodInput}
use Rattle.tables.proofs.Decode.{fixpoint_yes, fixpoint_low, fixpoint_high}
use Rattle.trees.proofs.FormulaTrees.{truth_tree, falsity_tree, conjunction_tree, disjunction_tree, box_tree, diamond_tree, fixpoint_tree, reference_tree}
use Rattle.trees.proofs.Equations.{number_same, number_more}
use Rattle.arena.proofs.Inside.{successor_inside}
use Rattle.meaning.proofs.Quantifiers.{all_agree, any_agree}
use Rattle.meaning.proofs.Steps.{successors-all, successors-any}
use Rattle.writing.specs.ActionSyntax.{ActionSyntax, first_node}
use Rattle.writing.specs.FormulaSyntax.{FormulaSyntax, true_formula, false_formula, and_formula, or_formula, box_formula, diamond_formula, least_formula, greatest_formula, reference_formula, formula_size, write_formula, Names, fixpoints, read_tree, write_over}
use Rattle.writing.specs.Nodes.{Holds}
use Rattle.writing.proofs.FormulaNodes.{holds_both, formula_ends, Surround, surround_inner, surround_more}
use Rattle.writing.proofs.FormulaEquations.{formula_number}
use Rattle.meaning.specs.Satisfies.{StateSet, nowhere}
use Rattle.meaning.specs.Evaluation.{iterate, evaluate_by, evaluate}
use Rattle.satisfaction.proofs.Frames.{Frame, frame_nodes, frame, layout, layout_length, turn_set, frame_set, frame_sets, inner_set, holds_in}

-- the fixpoint of an operator and a body
abbrev pub fixpoint_of : Operator → FormulaSyntax → FormulaSyntax
fixpoint_of least f = least_formula f
fixpoint_of greatest f = greatest_formula f

-- all: the fixpoints of the whole formula, by their equations
module _ (x : Input) (good : GoodInput x) (row : List ActionSyntax)
    (reads : (i : ℕ) → i < length row → action_tree x.labels x.actions (first_node row i) ≡ read_tree x.labels row i) (every : List (List Frame)) where
  abbrev pub Known : List Frame → Type 0
  Known [] = Unit {0}
  Known (f ∷ fs) = (get_or every (equation_number x.formula f.node) [] ≡ f ∷ fs) × Known fs

  -- the formula stands at node v, inside these fixpoints
  pub record Place (f : FormulaSyntax) (fs : List Frame) (v : ℕ) : Type 0 where
    pub holds : Holds (write_formula row f (frame_nodes fs) v) x.formula v
    pub fits : v + formula_size f ≤ size x.formula
    pub names : Names (length row) (length (frame_nodes fs)) f
    pub surround : Surround x.formula (frame_nodes fs) v (v + formula_size f)
    pub placed : (i : ℕ) → i < fixpoints f → get_or every (equation_number x.formula v + i) [] ≡ get_or (layout f fs v) i []
    pub known : Known fs

  -- ---- operands

  module _ (f g : FormulaSyntax) (fs : List Frame) (v : ℕ) (plain : is_fixpoint (formula_node x.formula v) ≡ false)
      (holds : Holds (write_formula row f (frame_nodes fs) (suc v) ++ write_formula row g (frame_nodes fs) (suc v + formula_size f)) x.formula (suc v))
      (fits : v + suc (formula_size f + formula_size g) ≤ size x.formula)
      (surround : Surround x.formula (frame_nodes fs) v (v + suc (formula_size f + formula_size g)))
      (placed : (i : ℕ) → i < fixpoints f + fixpoints g → get_or every (equation_number x.formula v + i) [] ≡ get_or (layout f fs (suc v) ++ layout g fs (suc v + formula_size f)) i [])
      (known : Known fs) where
    left_place : Names (length row) (length (frame_nodes fs)) f → Place f fs (suc v)
    left_place n =
        record {
          holds = (holds_both (first_node row) x.formula f g (frame_nodes fs) v holds).0;
          fits = omega arith;
          names = n;
          surround = surround_inner x.formula (frame_nodes fs) v _ (suc v) _ (omega arith) (omega arith) surround;
          placed = λ i l.
              ap (λ (j : ℕ). get_or every (j + i) []) (number_same x.formula v plain)
              ∙ placed i (omega arith)
              ∙ get_or-append (layout f fs (suc v)) (layout g fs (suc v + formula_size f)) [] i (omega (arith, layout_length f fs (suc v)));
          known = known;
        }

    right_place : (w : ℕ) → w ≡ suc v + formula_size f → Names (length row) (length (frame_nodes fs)) g → Place g fs w
    right_place w e n = subst (Place g fs) (sym e) at
      where
        past : equation_number x.formula (suc v + formula_size f) ≡ equation_number x.formula v + fixpoints f
        past =
            formula_number row x.formula f (frame_nodes fs) (suc v) (holds_both (first_node row) x.formula f g (frame_nodes fs) v holds).0 (omega arith)
            ∙ ap (λ (j : ℕ). j + fixpoints f) (number_same x.formula v plain)

        at : Place g fs (suc v + formula_size f)
        at =
            record {
              holds = (holds_both (first_node row) x.formula f g (frame_nodes fs) v holds).1;
              fits = omega arith;
              names = n;
              surround = surround_inner x.formula (frame_nodes fs) v _ (suc v + formula_size f) _ (omega arith) (omega arith) surround;
              placed = λ i l.
                  let a : equation_number x.formula (suc v + formula_size f) + i ≡ equation_number x.formula v + (fixpoints f + i) = omega (arith, past) in
                  let b : fixpoints f + i ≡ length (layout f fs (suc v)) + i = omega (arith, layout_length f fs (suc v)) in
                  ap (λ (j : ℕ). get_or every j []) a
                  ∙ placed (fixpoints f + i) (omega arith)
                  ∙ ap (λ (j : ℕ). get_or (layout f fs (suc v) ++ layout g fs (suc v + formula_size f)) j []) b
                  ∙ get_or-append-add (layout f fs (suc v)) (layout g fs (suc v + formula_size f)) i [];
              known = known;
            }

  only_place : (f : FormulaSyntax) (fs : List Frame) (v : ℕ) → is_fixpoint (formula_node x.formula v) ≡ false
      → Holds (write_formula row f (frame_nodes fs) (suc v)) x.formula (suc v) → v + suc (formula_size f) ≤ size x.formula
      → Names (length row) (length (frame_nodes fs)) f → Surround x.formula (frame_nodes fs) v (v + suc (formula_size f))
      → ((i : ℕ) → i < fixpoints f → get_or every (equation_number x.formula v + i) [] ≡ get_or (layout f fs (suc v)) i []) → Known fs → Place f fs (suc v)
  only_place f fs v plain holds fits n surround placed known =
      record {
        holds = holds;
        fits = omega arith;
        names = n;
        surround = surround_inner x.formula (frame_nodes fs) v _ (suc v) _ (omega arith) (omega arith) surround;
        placed = λ i l. ap (λ (j : ℕ). get_or every (j + i) []) (number_same x.formula v plain) ∙ placed i l;
        known = known;
      }

  -- the body of a fixpoint, with the fixpoint around it
  pub fixpoint_at : (o : Operator) (f : FormulaSyntax) (fs : List Frame) (v : ℕ) → Place (fixpoint_of o f) fs v → is_fixpoint (formula_node x.formula v) ≡ true
  unfolding write_over formula_size
  fixpoint_at least f fs v p = let (k, o, h) = p.holds in let l = p.fits in fixpoint_yes x.formula v (omega arith) (omega arith) (omega arith)
  fixpoint_at greatest f fs v p = let (k, o, h) = p.holds in let l = p.fits in fixpoint_yes x.formula v (omega arith) (omega arith) (omega arith)

  body_parts : (o : Operator) (f : FormulaSyntax) (fs : List Frame) (v : ℕ) → is_fixpoint (formula_node x.formula v) ≡ true
      → tree_end (formula_children x.formula) (size x.formula) v ≡ some (v + suc (formula_size f))
      → Holds (write_formula row f (v ∷ frame_nodes fs) (suc v)) x.formula (suc v) → v + suc (formula_size f) ≤ size x.formula
      → Names (length row) (suc (length (frame_nodes fs))) f → Surround x.formula (frame_nodes fs) v (v + suc (formula_size f))
      → ((i : ℕ) → i < suc (fixpoints f) → get_or every (equation_number x.formula v + i) [] ≡ get_or ((frame o f v ∷ fs) ∷ layout f (frame o f v ∷ fs) (suc v)) i [])
      → Known fs → Place f (frame o f v ∷ fs) (suc v)
  body_parts o f fs v fixed ends holds fits n surround placed known =
      record {
        holds = holds;
        fits = omega arith;
        names = n;
        surround = surround_inner x.formula (v ∷ frame_nodes fs) (suc v) (v + suc (formula_size f)) (suc v) _ (omega arith) (omega arith)
            (surround_more x.formula (frame_nodes fs) v _ fixed ends surround);
        placed = λ i l.
            let a : equation_number x.formula (suc v) + i ≡ equation_number x.formula v + suc i = omega (arith, number_more x.formula v fixed) in
            ap (λ (j : ℕ). get_or every j []) a ∙ placed (suc i) (omega arith);
        known = (let a : equation_number x.formula v ≡ equation_number x.formula v + 0 = omega arith in ap (λ (j : ℕ). get_or every j []) a ∙ placed 0 (omega arith), known);
      }

  pub body_place : (o : Operator) (f : FormulaSyntax) (fs : List Frame) (v : ℕ) → Place (fixpoint_of o f) fs v → Place f (frame o f v ∷ fs) (suc v)
  unfolding write_over formula_size fixpoints layout
  body_place least f fs v p =
      let (k, o, h) = p.holds in
      body_parts least f fs v (fixpoint_at least f fs v p) (formula_ends (first_node row) x.formula (least_formula f) (frame_nodes fs) v p.holds p.fits) h p.fits p.names p.surround p.placed p.known
  body_place greatest f fs v p =
      let (k, o, h) = p.holds in
      body_parts greatest f fs v (fixpoint_at greatest f fs v p) (formula_ends (first_node row) x.formula (greatest_formula f) (frame_nodes fs) v p.holds p.fits) h p.fits p.names p.surround p.placed p.known

  module _ (f g : FormulaSyntax) (fs : List Frame) (v : ℕ) where
    and_places : Place (and_formula f g) fs v → Place f fs (suc v) × Place g fs (operand x.formula v)
    unfolding write_over formula_size fixpoints layout
    and_places p =
        let (k, o, h) = p.holds in
        let l = p.fits in
        let plain = fixpoint_low x.formula v (omega arith) (omega arith) in (
          left_place f g fs v plain h l p.surround p.placed p.known p.names.0,
          right_place f g fs v plain h l p.surround p.placed p.known (operand x.formula v) o p.names.1,
        )

    or_places : Place (or_formula f g) fs v → Place f fs (suc v) × Place g fs (operand x.formula v)
    unfolding write_over formula_size fixpoints layout
    or_places p =
        let (k, o, h) = p.holds in
        let l = p.fits in
        let plain = fixpoint_low x.formula v (omega arith) (omega arith) in (
          left_place f g fs v plain h l p.surround p.placed p.known p.names.0,
          right_place f g fs v plain h l p.surround p.placed p.known (operand x.formula v) o p.names.1,
        )

  module _ (i : ℕ) (f : FormulaSyntax) (fs : List Frame) (v : ℕ) where
    box_place : Place (box_formula i f) fs v → Place f fs (suc v)
    unfolding write_over formula_size fixpoints layout
    box_place p =
        let (k, o, h) = p.holds in
        let l = p.fits in
        only_place f fs v (fixpoint_low x.formula v (omega arith) (omega arith)) h l p.names.1 p.surround p.placed p.known

    diamond_place : Place (diamond_formula i f) fs v → Place f fs (suc v)
    unfolding write_over formula_size fixpoints layout
    diamond_place p =
        let (k, o, h) = p.holds in
        let l = p.fits in
        only_place f fs v (fixpoint_low x.formula v (omega arith) (omega arith)) h l p.names.1 p.surround p.placed p.known

  -- ---- every fixpoint is found

  pub record Found (u : ℕ) : Type 0 where
    pub operator : Operator
    pub body : FormulaSyntax
    pub around : List Frame
    pub place : Place (fixpoint_of operator body) around u

  not_here : (v u : ℕ) → v ≡ u → is_fixpoint (formula_node x.formula v) ≡ false → is_fixpoint (formula_node x.formula u) ≡ true → ⊥
  not_here v u e a b = true≢false (sym b ∙ ap (λ (w : ℕ). is_fixpoint (formula_node x.formula w)) (sym e) ∙ a)

  -- the node itself, or further on
  here_or : (v u e : ℕ) → v ≤ u → u < e → (v ≡ u → Found u) → (suc v ≤ u → u < e → Found u) → Found u
  here_or v u e a b here later = go (ℕ_discrete v u)
    where
      go : Dec (v ≡ u) → Found u
      go (yes i) = here i
      go (no i) = later (omega arith) b

  left_or : (u w e : ℕ) → u < e → (u < w → Found u) → (w ≤ u → u < e → Found u) → Found u
  left_or u w e b left right = go (dec_lt u w)
    where
      go : Dec (u < w) → Found u
      go (yes i) = left i
      go (no i) = right (omega arith) b

  pub find : (f : FormulaSyntax) (fs : List Frame) (v u : ℕ) → Place f fs v → v ≤ u → u < v + formula_size f → is_fixpoint (formula_node x.formula u) ≡ true → Found u
  unfolding write_over formula_size
  find true_formula fs v u p a b t = let (k, o, h) = p.holds in let l = p.fits in absurd (not_here v u (omega arith) (fixpoint_low x.formula v (omega arith) (omega arith)) t)
  find false_formula fs v u p a b t = let (k, o, h) = p.holds in let l = p.fits in absurd (not_here v u (omega arith) (fixpoint_low x.formula v (omega arith) (omega arith)) t)
  find (and_formula f g) fs v u p a b t =
      let (k, o, h) = p.holds in
      let l = p.fits in
      let (q, r) = and_places f g fs v p in
      here_or v u (v + suc (formula_size f + formula_size g)) a b (λ e. absurd (not_here v u e (fixpoint_low x.formula v (omega arith) (omega arith)) t)) (λ c d.
      left_or u (suc v + formula_size f) (v + suc (formula_size f + formula_size g)) d (λ i. find f fs (suc v) u q c i t) (λ i j. find g fs (operand x.formula v) u r (omega arith) (omega arith) t))
  find (or_formula f g) fs v u p a b t =
      let (k, o, h) = p.holds in
      let l = p.fits in
      let (q, r) = or_places f g fs v p in
      here_or v u (v + suc (formula_size f + formula_size g)) a b (λ e. absurd (not_here v u e (fixpoint_low x.formula v (omega arith) (omega arith)) t)) (λ c d.
      left_or u (suc v + formula_size f) (v + suc (formula_size f + formula_size g)) d (λ i. find f fs (suc v) u q c i t) (λ i j. find g fs (operand x.formula v) u r (omega arith) (omega arith) t))
  find (box_formula i f) fs v u p a b t =
      let (k, o, h) = p.holds in
      let l = p.fits in
      here_or v u (v + suc (formula_size f)) a b (λ e. absurd (not_here v u e (fixpoint_low x.formula v (omega arith) (omega arith)) t)) (λ c d.
      find f fs (suc v) u (box_place i f fs v p) c (omega arith) t)
  find (diamond_formula i f) fs v u p a b t =
      let (k, o, h) = p.holds in
      let l = p.fits in
      here_or v u (v + suc (formula_size f)) a b (λ e. absurd (not_here v u e (fixpoint_low x.formula v (omega arith) (omega arith)) t)) (λ c d.
      find f fs (suc v) u (diamond_place i f fs v p) c (omega arith) t)
  find (least_formula f) fs v u p a b t =
      here_or v u (v + suc (formula_size f)) a b
      (λ e. subst Found e (record { operator = least; body = f; around = fs; place = p }))
      (λ c d. find f (frame least f v ∷ fs) (suc v) u (body_place least f fs v p) c (omega arith) t)
  find (greatest_formula f) fs v u p a b t =
      here_or v u (v + suc (formula_size f)) a b
      (λ e. subst Found e (record { operator = greatest; body = f; around = fs; place = p }))
      (λ c d. find f (frame greatest f v ∷ fs) (suc v) u (body_place greatest f fs v p) c (omega arith) t)
  find (reference_formula i) fs v u p a b t = let (k, o, h) = p.holds in let l = p.fits in absurd (not_here v u (omega arith) (fixpoint_high x.formula v (omega arith) (omega arith)) t)

  -- ---- evaluation and trees

  abbrev S : ℕ
  S = state_count x.system

  module _ (turns : ℕ → ℕ) where
    -- the set of an equation
    unfoldable pub value_of : ℕ → StateSet
    value_of j = inner_set x row turns (get_or every j [])

    pub known_at : (fs : List Frame) (i : ℕ) → Known fs → i < length (frame_nodes fs) → value_of (equation_number x.formula (get_or (frame_nodes fs) i 0)) ≡ get_or (frame_sets x row turns fs) i nowhere
    unfolding value_of frame_sets inner_set
    known_at [] i k l = absurd (omega arith)
    known_at (f ∷ fs) zero k l = ap (inner_set x row turns) k.0
    known_at (f ∷ fs) (suc i) k l = known_at fs i k.1 (omega arith)

    -- the fixpoints inside are iterated as often as there are states
    abbrev pub Full : FormulaSyntax → ℕ → Type 0
    Full f v = (k : ℕ) → equation_number x.formula v ≤ k → k < equation_number x.formula v + fixpoints f → turns k ≡ state_count x.system

    pub place-value : (o : Operator) (f : FormulaSyntax) (fs : List Frame) (v : ℕ) → Place (fixpoint_of o f) fs v → value_of (equation_number x.formula v) ≡ frame_set x row turns (frame o f v) (frame_sets x row turns fs)
    unfolding value_of inner_set
    place-value o f fs v p = ap (inner_set x row turns) (body_place o f fs v p).known.0

    pub says : (f : FormulaSyntax) (fs : List Frame) (v : ℕ) → Place f fs v → Full f v → (s : ℕ) → s < S
        → evaluate x row f (frame_sets x row turns fs) s ≡ holds_in x row value_of (formula_tree x v) s
    unfolding write_over formula_size fixpoints evaluate_by holds_in frame_set turn_set
    says true_formula fs v p u s l =
        let (k, o, h) = p.holds in
        let fit = p.fits in
        sym (ap (λ (t : Formula). holds_in x row value_of t s) (truth_tree (size x.actions) x good.formula v (omega arith) k))
    says false_formula fs v p u s l =
        let (k, o, h) = p.holds in
        let fit = p.fits in
        sym (ap (λ (t : Formula). holds_in x row value_of t s) (falsity_tree (size x.actions) x good.formula v (omega arith) k))
    says (and_formula f g) fs v p u s l =
        let (k, o, h) = p.holds in
        let fit = p.fits in
        let (q, r) = and_places f g fs v p in
        let e = number_same x.formula v (fixpoint_low x.formula v (omega arith) (omega arith)) in
        let d = formula_number row x.formula f (frame_nodes fs) (suc v) q.holds q.fits in
        let c : equation_number x.formula (operand x.formula v) ≡ equation_number x.formula v + fixpoints f = ap (equation_number x.formula) o ∙ omega arith in
        ap₂ ◌&&◌ (says f fs (suc v) q (λ j a b. u j (omega arith) (omega arith)) s l) (says g fs (operand x.formula v) r (λ j a b. u j (omega arith) (omega arith)) s l)
        ∙ sym (ap (λ (t : Formula). holds_in x row value_of t s) (conjunction_tree (size x.actions) x good.formula v (omega arith) k))
    says (or_formula f g) fs v p u s l =
        let (k, o, h) = p.holds in
        let fit = p.fits in
        let (q, r) = or_places f g fs v p in
        let e = number_same x.formula v (fixpoint_low x.formula v (omega arith) (omega arith)) in
        let d = formula_number row x.formula f (frame_nodes fs) (suc v) q.holds q.fits in
        let c : equation_number x.formula (operand x.formula v) ≡ equation_number x.formula v + fixpoints f = ap (equation_number x.formula) o ∙ omega arith in
        ap₂ ◌||◌ (says f fs (suc v) q (λ j a b. u j (omega arith) (omega arith)) s l) (says g fs (operand x.formula v) r (λ j a b. u j (omega arith) (omega arith)) s l)
        ∙ sym (ap (λ (t : Formula). holds_in x row value_of t s) (disjunction_tree (size x.actions) x good.formula v (omega arith) k))
    says (box_formula i f) fs v p u s l =
        let (k, o, h) = p.holds in
        let fit = p.fits in
        let e = number_same x.formula v (fixpoint_low x.formula v (omega arith) (omega arith)) in
        let a = read_tree x.labels row i in
        let tree : formula_tree x v ≡ box a (formula_tree x (suc v)) =
        box_tree (size x.actions) x good.formula v (omega arith) k ∙ ap (λ (z : Action). box z (formula_tree x (suc v))) (ap (action_tree x.labels x.actions) o ∙ reads i p.names.0) in
        sym (successors-all x a (evaluate x row f (frame_sets x row turns fs)) s)
        ∙ all_agree (evaluate x row f (frame_sets x row turns fs)) (holds_in x row value_of (formula_tree x (suc v))) (successors x a s)
        (λ t m. says f fs (suc v) (box_place i f fs v p) (λ j b c. u j (omega arith) (omega arith)) t (successor_inside x good a s t l m))
        ∙ sym (ap (λ (t : Formula). holds_in x row value_of t s) tree)
    says (diamond_formula i f) fs v p u s l =
        let (k, o, h) = p.holds in
        let fit = p.fits in
        let e = number_same x.formula v (fixpoint_low x.formula v (omega arith) (omega arith)) in
        let a = read_tree x.labels row i in
        let tree : formula_tree x v ≡ diamond a (formula_tree x (suc v)) =
        diamond_tree (size x.actions) x good.formula v (omega arith) k ∙ ap (λ (z : Action). diamond z (formula_tree x (suc v))) (ap (action_tree x.labels x.actions) o ∙ reads i p.names.0) in
        sym (successors-any x a (evaluate x row f (frame_sets x row turns fs)) s)
        ∙ any_agree (evaluate x row f (frame_sets x row turns fs)) (holds_in x row value_of (formula_tree x (suc v))) (successors x a s)
        (λ t m. says f fs (suc v) (diamond_place i f fs v p) (λ j b c. u j (omega arith) (omega arith)) t (successor_inside x good a s t l m))
        ∙ sym (ap (λ (t : Formula). holds_in x row value_of t s) tree)
    says (least_formula f) fs v p u s l =
        let (k, o, h) = p.holds in
        let fit = p.fits in
        ap (λ (n : ℕ). iterate n (λ E. evaluate x row f (E ∷ frame_sets x row turns fs)) nowhere s) (sym (u (equation_number x.formula v) (omega arith) (omega arith)))
        ∙ sym (ap (λ (E : StateSet). E s) (place-value least f fs v p))
        ∙ sym (ap (λ (t : Formula). holds_in x row value_of t s) (fixpoint_tree (size x.actions) x good.formula v (omega arith) (omega arith) (omega arith)))
    says (greatest_formula f) fs v p u s l =
        let (k, o, h) = p.holds in
        let fit = p.fits in
        sym (ap (λ (E : StateSet). E s) (place-value greatest f fs v p))
        ∙ sym (ap (λ (t : Formula). holds_in x row value_of t s) (fixpoint_tree (size x.actions) x good.formula v (omega arith) (omega arith) (omega arith)))
    says (reference_formula i) fs v p u s l =
        let (k, o, h) = p.holds in
        let fit = p.fits in
        let tree : formula_tree x v ≡ reference (equation_number x.formula (get_or (frame_nodes fs) i 0)) =
        reference_tree (size x.actions) x good.formula v (omega arith) k ∙ ap (λ (n : ℕ). reference (equation_number x.formula n)) o in
        sym (ap (λ (E : StateSet). E s) (known_at fs i p.known p.names))
        ∙ sym (ap (λ (t : Formula). holds_in x row value_of t s) tree)
