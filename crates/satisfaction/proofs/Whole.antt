-- If the initial pair is claimed, the initial state satisfies the whole formula. Assumes nothing.
use mathlib.Core.Path.{◌≡◌, refl, sym, ap, subst, ◌∙◌}
use mathlib.Core.Bool.{Bool, true, false}
use mathlib.Core.List.{List, [], ◌∷◌}
use Prim.Native.Nat.{ℕ, ◌≤◌, ◌<◌}
use native.Mathlib.Omega.{arith}
use lib.ListN.{length}
use Rattle.rules.specs.Words.{Input}
use Rattle.rules.specs.System.{initial_state}
use Rattle.rules.specs.Table.{size, formula_node}
use Rattle.rules.specs.Actions.{action_tree}
use Rattle.rules.specs.Formula.{is_fixpoint, Equation, equation_number, formula_tree, body_tree, first_body_node}
use Rattle.rules.specs.Depth.{Ranking}
use Rattle.rules.specs.Items.{item_number}
use Rattle.rules.specs.Pairs.{Pair, initial_pair, targets}
use Rattle.tables.specs.Good.{GoodInput}
use Rattle.trees.proofs.Equations.{number_start, placeholder_equation, good_some_equation}
use Rattle.arena.proofs.ItemNumbers.{first_body, later_body}
use Rattle.writing.specs.ActionSyntax.{first_node}
use Rattle.writing.specs.FormulaSyntax.{FormulaSyntax, true_formula, false_formula, and_formula, or_formula, box_formula, diamond_formula, least_formula, greatest_formula, reference_formula, formula_size, write_formula, begins_with_fixpoint, read_tree, Written}
use Rattle.writing.specs.Nodes.{Holds}
use Rattle.writing.proofs.ActionTheorems.{written_row_reads}
use Rattle.writing.proofs.FormulaNodes.{formula_some}
use Rattle.writing.proofs.FormulaEquations.{first_fixpoint}
use Rattle.writing.proofs.FormulaTheorems.{words_size, words_hold}
use Rattle.meaning.specs.Satisfies.{Satisfies}
use Rattle.satisfaction.specs.Ranks.{PassSound}
use Rattle.satisfaction.proofs.Vertices.{node_item, equation_target}
use Rattle.satisfaction.proofs.Regions.{EvenBelow, Region, goes_only}
use Rattle.satisfaction.proofs.Layers.{Layer, meets_all}
use Rattle.satisfaction.proofs.Soundness.{Stands, Claimed, least_holds, greatest_holds, claim}

module _ (rank : Ranking) (x : Input) (good : GoodInput x) (sound : PassSound rank x) (region : Pair → Bool) (number : ℕ → Pair → ℕ)
    (claims : Region rank x region number EvenBelow) (starts : region (initial_pair x) ≡ true) (w : Written x) where
  reads : (i : ℕ) → i < length w.row → action_tree x.labels x.actions (first_node w.row i) ≡ read_tree x.labels w.row i
  reads i h = ap (λ (acts : List ℕ). action_tree x.labels acts (first_node w.row i)) w.action_words ∙ written_row_reads w.row x.labels w.row_fits i h

  abbrev StandsHere : FormulaSyntax → List Layer → ℕ → Type 0
  StandsHere f ls v = Stands rank x good sound w.row reads region number claims f ls v

  stands : StandsHere w.whole [] 0
  stands =
      record {
        holds = subst (λ (ws : List ℕ). Holds (write_formula w.row w.whole [] 0) ws 0) (sym w.whole_words) (words_hold (first_node w.row) w.whole);
        fits = let e : size x.formula ≡ formula_size w.whole = ap size w.whole_words ∙ words_size (first_node w.row) w.whole in omega arith;
        names = w.formula_fits.closed;
        surround = λ i h. absurd (omega arith);
        layers = tt;
      }

  -- a fixpoint is equation 0
  fixpoint_first : is_fixpoint (formula_node x.formula 0) ≡ true → Claimed rank x good sound w.row reads region number claims [] (initial_state x.system, equation_number x.formula 0)
  unfolding meets_all
  fixpoint_first h = (subst (λ (n : ℕ). region (initial_state x.system, n) ≡ true) (sym (number_start x.formula h)) starts, refl)

  -- any other formula is the body of the placeholder
  placeholder_goes : is_fixpoint (formula_node x.formula 0) ≡ false → Claimed rank x good sound w.row reads region number claims [] (initial_state x.system, node_item x 0)
  unfolding meets_all body_tree node_item
  placeholder_goes h =
      let e : targets x (initial_pair x) ≡ (initial_state x.system, item_number x (formula_tree x 0)) ∷ [] =
      equation_target x (initial_pair x) (good_some_equation (size x.actions) x.formula good.formula)
      ∙ ap (λ (q : Equation). (initial_state x.system, item_number x (formula_tree x q.body)) ∷ []) (placeholder_equation x.formula h) in
      ((goes_only rank x region number EvenBelow claims (initial_pair x) (initial_state x.system, item_number x (formula_tree x 0)) starts e).claimed, refl)

  from-placeholder : (f : FormulaSyntax) → StandsHere f [] 0 → begins_with_fixpoint f ≡ false → Satisfies x w.row f [] (initial_state x.system)
  from-placeholder f st e =
      let h : is_fixpoint (formula_node x.formula 0) ≡ false = first_fixpoint w.row x.formula f [] 0 st.holds good.formula.some ∙ e in
      claim rank x good sound w.row reads region number claims f [] 0 st (omega (arith, first_body x.formula h)) (initial_state x.system) good.system.initial (placeholder_goes h)

  inside : (f : FormulaSyntax) (a : Layer) → StandsHere f (a ∷ []) 1 → first_body_node x.formula ≤ 1
  inside f a st = (later_body x.formula 1 (omega arith) (omega (arith, st.fits, formula_some f))).0

  satisfied : (f : FormulaSyntax) → StandsHere f [] 0 → Satisfies x w.row f [] (initial_state x.system)
  unfolding begins_with_fixpoint
  satisfied true_formula st = from-placeholder true_formula st refl
  satisfied false_formula st = from-placeholder false_formula st refl
  satisfied (and_formula f g) st = from-placeholder (and_formula f g) st refl
  satisfied (or_formula f g) st = from-placeholder (or_formula f g) st refl
  satisfied (box_formula i f) st = from-placeholder (box_formula i f) st refl
  satisfied (diamond_formula i f) st = from-placeholder (diamond_formula i f) st refl
  satisfied (least_formula f) st =
      least_holds rank x good sound w.row reads region number claims f [] 0 st
      (λ a sa. claim rank x good sound w.row reads region number claims f (a ∷ []) 1 sa (inside f a sa))
      (initial_state x.system) good.system.initial
      (fixpoint_first (first_fixpoint w.row x.formula (least_formula f) [] 0 st.holds good.formula.some))
  satisfied (greatest_formula f) st =
      greatest_holds rank x good sound w.row reads region number claims f [] 0 st
      (λ a sa. claim rank x good sound w.row reads region number claims f (a ∷ []) 1 sa (inside f a sa))
      (initial_state x.system) good.system.initial
      (fixpoint_first (first_fixpoint w.row x.formula (greatest_formula f) [] 0 st.holds good.formula.some))
  satisfied (reference_formula i) st = from-placeholder (reference_formula i) st refl

  pub whole_satisfied : Satisfies x w.row w.whole [] (initial_state x.system)
  whole_satisfied = satisfied w.whole stands
