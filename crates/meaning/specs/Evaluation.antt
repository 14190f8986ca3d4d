-- The same by computation: fixpoints by iteration, as many times as there are states. Theorem `evaluates_by`: a state
-- satisfies a formula exactly if it evaluates to true. Assumes nothing: these are definitions.
use Rattle.std.specs.Prelude.{Bool, true, false, not, ◌&&◌, ◌||◌, List, ◌∷◌, ℕ, zero, suc, get_or}
use Rattle.rules.specs.Words.{Input}
use Rattle.rules.specs.System.{state_count, transition_target, transitions}
use Rattle.writing.specs.ActionSyntax.{ActionSyntax}
use Rattle.writing.specs.FormulaSyntax.{FormulaOver, FormulaSyntax, true_formula, false_formula, and_formula, or_formula, box_formula, diamond_formula, least_formula, greatest_formula, reference_formula, read_tree}
use Rattle.meaning.specs.Quantifiers.{all, any}
use Rattle.meaning.specs.Satisfies.{label_matches, StateSet, nowhere}

unfoldable pub everywhere : StateSet
everywhere s = true

-- a step from set to set, so many times
unfoldable pub iterate : ℕ → (StateSet → StateSet) → StateSet → StateSet
iterate zero step E = E
iterate (suc n) step E = step (iterate n step E)

-- a modality leads by each transition that passes its test
module _ {M : Type 0} (ss : List ℕ) (test : M → (i : ℕ) → Bool) where
  unfoldable pub evaluate_by : FormulaOver M → (env : List StateSet) → StateSet
  evaluate_by true_formula env s = true
  evaluate_by false_formula env s = false
  evaluate_by (and_formula f g) env s = evaluate_by f env s && evaluate_by g env s
  evaluate_by (or_formula f g) env s = evaluate_by f env s || evaluate_by g env s
  evaluate_by (box_formula m f) env s = all (λ i. not (test m i) || evaluate_by f env (transition_target ss i)) (transitions ss s)
  evaluate_by (diamond_formula m f) env s = any (λ i. test m i && evaluate_by f env (transition_target ss i)) (transitions ss s)
  evaluate_by (least_formula f) env s = iterate (state_count ss) (λ E. evaluate_by f (E ∷ env)) nowhere s
  evaluate_by (greatest_formula f) env s = iterate (state_count ss) (λ E. evaluate_by f (E ∷ env)) everywhere s
  evaluate_by (reference_formula i) env s = get_or env i nowhere s

-- the same of a formula of document 01
abbrev pub evaluate : Input → List ActionSyntax → FormulaSyntax → (env : List StateSet) → StateSet
evaluate x row = evaluate_by x.system (λ a. label_matches x (read_tree x.labels row a))
