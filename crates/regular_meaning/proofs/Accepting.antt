-- What is written says of every system what was handed over says by paths: of all words that document 01 accepts and
-- that read back as the expanded formula. Assumes nothing.
use mathlib.Core.Path.{◌≡◌, sym, ap, ◌∙◌, subst}
use mathlib.Core.List.{List, [], ◌∷◌}
use mathlib.Core.Logic.{◌↔◌}
use Prim.Native.Nat.{ℕ, ◌<◌}
use lib.ListN.{length}
use Rattle.std.specs.declared.result.Result.TheVariants.{Ok}
use Rattle.rules.specs.Labels.{label_count}
use Rattle.rules.specs.System.{initial_state}
use Rattle.rules.specs.Refusal.{refusal21, refusal22, refusal23, refusal24, refusal25, refusal26, input_refusal}
use Rattle.tables.specs.Good.{GoodSystem}
use Rattle.tables.proofs.Faults.{first_passed, first_next, first_next_of, first-none}
use Rattle.tables.proofs.Accepted.{good_system}
use Rattle.writing.specs.ActionSyntax.{first_node}
use Rattle.writing.specs.FormulaSyntax.{FormulaOver, Written}
use Rattle.writing.specs.FormulaReading.{formula_syntax, itself, renamed}
use Rattle.writing.proofs.FormulaReading.{words_read}
use Rattle.writing.proofs.FormulaTheorems.{accepted_input_is_written}
use Rattle.meaning.specs.Satisfies.{SatisfiesBy, Satisfies}
use Rattle.regular_rules.specs.Refusals.{RegularInput}
use Rattle.regular_rules.specs.Expansion.{expanded, regular_formula}
use Rattle.regular_rules.specs.Accepts.{Accepts}
use Rattle.regular_meaning.specs.Paths.{MovesAt}
use Rattle.regular_meaning.specs.Claims.{RegularSatisfied, SystemAccepted, run_input, ExpansionMeans}
use Rattle.regular_meaning.proofs.Expanding.{expansion_means}
use Rattle.regular_meaning.proofs.Naming.{named_by_nodes}

pub accepted_system : (ls ss : List ℕ) → SystemAccepted ls ss → GoodSystem (label_count ls) ss
accepted_system ls ss h =
    good_system ls ss (first_passed _ h 0) (first_passed _ h 1) (first_passed _ h 2)
    (first_passed _ h 3) (first_passed _ h 4) (first_passed _ h 5)

module _ (x : RegularInput) (written : List ℕ) (a : Accepts x written) (ss : List ℕ) (h : SystemAccepted x.labels ss) where
  passes : input_refusal (run_input x ss written) ≡ Ok tt
  unfolding input_refusal
  passes =
      first_next _ a.labels.0 ∙ first_next _ a.labels.1 ∙ first_next _ a.labels.2
      ∙ first_next_of (refusal21 ss ∷ refusal22 ss ∷ refusal23 ss ∷ refusal24 ss ∷ refusal25 x.labels ss ∷ refusal26 ss ∷ []) _ h
      ∙ first_next _ a.actions.long ∙ first_next _ a.actions.few
      ∙ first_next _ a.actions.kinds ∙ first_next _ a.actions.operands
      ∙ first_next _ a.formula.long ∙ first_next _ a.formula.few
      ∙ first_next _ a.formula.kinds ∙ first_next _ a.formula.operands
      ∙ first_next _ a.formula.references ∙ first-none

  module _ (w : Written (run_input x ss written)) where
    read_expanded : renamed (first_node w.row) w.whole ≡ expanded x
    read_expanded =
        sym (words_read itself (first_node w.row) (λ i. i < length w.row) w.whole w.formula_fits.closed)
        ∙ ap (formula_syntax itself) (sym w.whole_words) ∙ a.read_back

    same : Satisfies (run_input x ss written) w.row w.whole [] (initial_state ss) ↔ RegularSatisfied x ss
    unfolding expanded
    same =
        let named = named_by_nodes (run_input x ss written) w (initial_state ss) in
        let good = accepted_system x.labels ss h in
        let means =
        expansion_means (label_count x.labels) x.labels ss x.actions good (regular_formula x) [] (initial_state ss) good.initial in
        let Sat : FormulaOver ℕ → Type 0 = λ f. SatisfiesBy ss (MovesAt x.labels ss x.actions) f [] (initial_state ss) in
        (λ k. means.1 (subst Sat read_expanded (named.0 k)), λ k. named.1 (subst Sat (sym read_expanded) (means.0 k)))

pub accepted_means : (x : RegularInput) (written : List ℕ) → Accepts x written → ExpansionMeans x written
accepted_means x written a ss h = (
  λ k. (same x written a ss h k.0).0 (k.1 k.0),
  λ k. (accepted_input_is_written (run_input x ss written) (passes x written a ss h), λ w. (same x written a ss h w).1 k),
)
