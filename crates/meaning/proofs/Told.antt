-- Whether the initial state satisfies the formula that the words are is told by evaluating it: it does not depend on
-- how the words are read. Assumes nothing.
use mathlib.Core.Path.{◌≡◌, sym, subst, ◌∙◌}
use mathlib.Core.Bool.{true}
use mathlib.Core.List.{List, []}
use mathlib.Core.Logic.{◌↔◌}
use Prim.Native.Nat.{ℕ}
use lib.ListN.{length}
use Rattle.rules.specs.Words.{Input}
use Rattle.rules.specs.System.{initial_state}
use Rattle.tables.specs.Good.{GoodInput}
use Rattle.writing.specs.ActionSyntax.{ActionSyntax}
use Rattle.writing.specs.FormulaSyntax.{FormulaSyntax, formula_words, FormulaFits, Written}
use Rattle.writing.proofs.ActionTheorems.{one-row}
use Rattle.writing.proofs.FormulaTheorems.{one_formula}
use Rattle.meaning.specs.Satisfies.{Satisfies, Satisfied}
use Rattle.meaning.specs.Evaluation.{evaluate}
use Rattle.meaning.proofs.Evaluates.{evaluates}

module _ (x : Input) (s : ℕ) where
  other_row : (row other : List ActionSyntax) → row ≡ other → (f g : FormulaSyntax) → FormulaFits (length row) f → FormulaFits (length other) g → formula_words row f ≡ formula_words other g
      → Satisfies x row f [] s → Satisfies x other g [] s
  other_row row other e f g a =
      subst (λ (r : List ActionSyntax). FormulaFits (length r) g → formula_words row f ≡ formula_words r g → Satisfies x row f [] s → Satisfies x r g [] s) e
      (λ b i h. subst (λ (t : FormulaSyntax). Satisfies x row t [] s) (one_formula row f g a b i) h)

  -- two readings of the same words
  other_reading : (w v : Written x) → Satisfies x w.row w.whole [] s → Satisfies x v.row v.whole [] s
  other_reading w v =
      other_row w.row v.row (one-row w.row v.row (sym w.action_words ∙ v.action_words)) w.whole v.whole w.formula_fits v.formula_fits
      (sym w.whole_words ∙ v.whole_words)

pub satisfied_exactly : (x : Input) → GoodInput x → (w : Written x) → Satisfied x ↔ (evaluate x w.row w.whole [] (initial_state x.system) ≡ true)
satisfied_exactly x good w =
    let told = evaluates x good w.row w.whole [] (initial_state x.system) good.system.initial in
    (λ h. told.0 (h.1 w), λ e. (w, λ v. other_reading x (initial_state x.system) w v (told.1 e)))
