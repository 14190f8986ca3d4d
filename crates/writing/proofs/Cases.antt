-- Examples, computed: syntax trees as the words that document 01 hands over, and the equations of nested fixpoints.
-- Assumes nothing.
use mathlib.Core.Path.{◌≡◌, refl}
use mathlib.Core.List.{List, [], ◌∷◌}
use Rattle.rules.specs.Actions.{any_action}
use Rattle.rules.specs.Formula.{least, greatest, conjunction, diamond, reference}
use Rattle.writing.specs.Nodes.{table_words}
use Rattle.writing.specs.ActionSyntax.{ActionSyntax, true_action, label_action, union_action, negation_action, action_size, write_action, write_row, row_words, first_node, read_action}
use Rattle.writing.specs.FormulaSyntax.{FormulaSyntax, true_formula, and_formula, box_formula, diamond_formula, least_formula, greatest_formula, reference_formula, write_over, words_over}
use Rattle.writing.specs.FormulaSyntax.{formula_size, formula_words, fixpoints, begins_with_fixpoint, read_formula, read_equations, read_system}

-- not (label 0 or label 1); true
abbrev labels_row : List ActionSyntax
labels_row = negation_action (union_action (label_action 0) (label_action 1)) ∷ true_action ∷ []

pub labels_row_words : row_words labels_row ≡ 5 ∷ 5 ∷ 3 ∷ 2 ∷ 2 ∷ 0 ∷ 0 ∷ 3 ∷ 0 ∷ 1 ∷ 0 ∷ []
unfolding row_words write_row write_action action_size table_words
labels_row_words = refl

-- <tree 0> true and [tree 1] <tree 0> true
pub labels_formula_words : formula_words labels_row (and_formula (diamond_formula 0 true_formula) (box_formula 1 (diamond_formula 0 true_formula)))
    ≡ 6 ∷ 2 ∷ 5 ∷ 0 ∷ 4 ∷ 5 ∷ 0 ∷ 3 ∷ 0 ∷ 0 ∷ 4 ∷ 0 ∷ 0 ∷ []
unfolding words_over write_over formula_size first_node action_size table_words
labels_formula_words = refl

-- the inner fixpoint: greatest Y. least Z. <true> Z
abbrev inner_fixpoint : FormulaSyntax
inner_fixpoint = greatest_formula (least_formula (diamond_formula 0 (reference_formula 0)))

pub inner_fixpoint_words : formula_words (true_action ∷ []) inner_fixpoint ≡ 4 ∷ 7 ∷ 6 ∷ 5 ∷ 8 ∷ 0 ∷ 0 ∷ 0 ∷ 1 ∷ []
unfolding words_over write_over formula_size first_node action_size table_words
inner_fixpoint_words = refl

-- two equations, Y = Z and Z = <true> Z
pub inner_fixpoint_equations : read_system [] (true_action ∷ []) inner_fixpoint ≡ (greatest, reference 1) ∷ (least, diamond any_action (reference 1)) ∷ []
unfolding read_system read_equations read_formula begins_with_fixpoint read_action fixpoints
inner_fixpoint_equations = refl

-- with a placeholder: (least Y. Y) and (greatest Z. Z), whose fixpoints are equations 1 and 2
pub placeholder-equations : read_system [] [] (and_formula (least_formula (reference_formula 0)) (greatest_formula (reference_formula 0)))
    ≡ (least, conjunction (reference 1) (reference 2)) ∷ (least, reference 1) ∷ (greatest, reference 2) ∷ []
unfolding read_system read_equations read_formula begins_with_fixpoint fixpoints
placeholder-equations = refl
