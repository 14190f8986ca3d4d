-- The expansion in the parts in which the code makes it. Assumes nothing: these are definitions.
use Rattle.std.specs.Prelude.{ℕ, List, [], ◌∷◌}
use Rattle.rules.specs.Answers.{Check}
use Rattle.rules.specs.Refusal.{refusal11, refusal12, refusal13, refusal31, refusal32, refusal33, refusal34}
use Rattle.rules.specs.Refusal.{refusal41, refusal42, refusal43, refusal44, refusal45}
use Rattle.writing.specs.FormulaSyntax.{words_over}
use Rattle.writing.specs.FormulaReading.{formula_syntax, itself}
use Rattle.regular_rules.specs.Regular.{regular_tree}
use Rattle.regular_rules.specs.Expand.{expansion_of}
use Rattle.regular_rules.specs.Refusals.{RegularInput, names_no_regular, refusal_out, refusal61, refusal62}
use Rattle.regular_rules.specs.Expansion.{Expansion, expanded_or}

-- all checks but that of the result's size; `out` is the length of the slice lent
abbrev pub first_checks : RegularInput → (out : ℕ) → List Check
first_checks x out =
    refusal_out out
    ∷ refusal11 x.labels ∷ refusal12 x.labels ∷ refusal13 x.labels
    ∷ refusal31 x.actions ∷ refusal32 x.actions ∷ refusal33 x.actions ∷ refusal34 x.labels x.actions
    ∷ refusal61 x.actions x.regulars
    ∷ refusal41 x.formula ∷ refusal42 x.formula ∷ refusal43 x.formula
    ∷ refusal44 (names_no_regular x.regulars) x.formula ∷ refusal45 x.formula
    ∷ []

-- what is left once they passed
unfoldable pub table_expansion : (regs f out : List ℕ) → Expansion
table_expansion regs f out =
    expanded_or (refusal62 regs f) (words_over itself (expansion_of regs f)) out
