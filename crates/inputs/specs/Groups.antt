-- The checks of the words in the groups in which the code makes them. Assumes nothing: these are definitions.
use Rattle.std.specs.Prelude.{ℕ, List, [], ◌∷◌, ◌++◌}
use Rattle.rules.specs.Answers.{Check}
use Rattle.rules.specs.Refusal.{refusal11, refusal12, refusal13, refusal21, refusal22, refusal23, refusal24, refusal25, refusal26, refusal31, refusal32, refusal33, refusal34, refusal41, refusal42, refusal43, refusal44, refusal45}
use Rattle.rules.specs.Refusal.{names_no_tree}

abbrev pub label_checks : List ℕ → List Check
label_checks ls = refusal11 ls ∷ refusal12 ls ∷ refusal13 ls ∷ []

abbrev pub system_checks : List ℕ → List ℕ → List Check
system_checks ls ss = refusal21 ss ∷ refusal22 ss ∷ refusal23 ss ∷ refusal24 ss ∷ refusal25 ls ss ∷ refusal26 ss ∷ []

abbrev pub action_checks : List ℕ → List ℕ → List Check
action_checks ls acts = refusal31 acts ∷ refusal32 acts ∷ refusal33 acts ∷ refusal34 ls acts ∷ []

-- those of the action formulas and of the formula
abbrev pub formula_checks : List ℕ → List ℕ → List ℕ → List Check
formula_checks ls acts f =
    action_checks ls acts
    ++ (refusal41 f ∷ refusal42 f ∷ refusal43 f ∷ refusal44 (names_no_tree acts) f ∷ refusal45 f ∷ [])
