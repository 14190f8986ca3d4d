-- "Prove that 01's checks accept the table written" (document 02, #104): whatever was handed over and not refused; and
-- read back it is the expanded formula. Assumes nothing.
use mathlib.Core.Path.{◌≡◌, refl, sym, ◌∙◌}
use mathlib.Core.Bool.{false}
use mathlib.Core.List.{List, [], ◌∷◌, ◌++◌}
use Prim.Native.Nat.{ℕ, ◌≤◌}
use borrow.Author.Tests.{ltb-false}
use Rattle.std.specs.declared.result.Result.TheVariants.{Ok}
use Rattle.rules.specs.Words.{most_nodes}
use Rattle.rules.specs.Answers.{Check, first_fault}
use Rattle.rules.specs.Table.{size, regular_children}
use Rattle.rules.specs.Refusal.{names_no_tree}
use Rattle.tables.proofs.Faults.{if_passed, first_both, first_passed}
use Rattle.tables.proofs.FaultyWords.{label_checks}
use Rattle.tables.proofs.FaultyTables.{action_checks, formula_checks}
use Rattle.tables.proofs.Accepted.{good_formula}
use Rattle.writing.specs.ActionSyntax.{ActionsAccepted}
use Rattle.writing.specs.FormulaSyntax.{formula_size, Fits}
use Rattle.writing.specs.FormulaReading.{formula_syntax, itself}
use Rattle.writing.proofs.FormulaReading.{words_read_back}
use Rattle.writing.proofs.FormulaTheorems.{words_accepted}
use Rattle.regular_rules.specs.Regular.{regular_tree}
use Rattle.regular_rules.specs.Refusals.{RegularInput, refusal_out, malformed, refusal61, expanded_size, refusal62}
use Rattle.regular_rules.specs.Refusals.{expansion_refusal}
use Rattle.regular_rules.specs.Expand.{expand}
use Rattle.regular_rules.specs.Expansion.{regular_formula, expanded, expanded_words}
use Rattle.regular_rules.specs.Good.{GoodRegulars, GoodTables}
use Rattle.regular_rules.specs.Accepts.{Leaves, Accepts}
use Rattle.regular_rules.proofs.Regulars.{good_regulars, leaf_named, regular_leaves}
use Rattle.regular_rules.proofs.Expanded.{expand_fits}
use Rattle.regular_rules.proofs.Formulas.{read_fits}

-- ---- tables that pass

module _ (acts regs : List ℕ) (r61 : refusal61 acts regs ≡ Ok tt) where
  well_formed : malformed acts regs ≡ false
  unfolding refusal61
  well_formed = if_passed 61 0 (malformed acts regs) r61

  pub passed_regulars : GoodRegulars regs
  passed_regulars = good_regulars acts regs well_formed

  module _ (f : List ℕ) (passed : first_fault (formula_checks (regular_children regs) (size regs) f) ≡ Ok tt) where
    pub passed_tables : GoodTables regs f
    passed_tables =
        let kinds = first_passed _ passed 2 in
        let operands = first_passed _ passed 3 in
        let references = first_passed _ passed 4 in
        record {
          regulars = passed_regulars;
          formula = good_formula (regular_children regs) (size regs) f kinds operands references (first_passed _ passed 0) (first_passed _ passed 1);
          kinds = kinds;
          operands = operands;
          references = references;
        }

    -- the expanded formula is closed, and its modalities name trees of the row of action formulas
    expanded_fits : Fits (λ a. names_no_tree acts a ≡ false) 0 (expand (formula_syntax (regular_tree regs) f))
    expanded_fits =
        let good = passed_tables in
        expand_fits (λ a. names_no_tree acts a ≡ false) (formula_syntax (regular_tree regs) f) 0
        (read_fits (regular_tree regs) (Leaves (λ a. names_no_tree acts a ≡ false)) (regular_children regs) (size regs) f
        good.formula good.kinds good.operands good.references
        (regular_leaves regs good.regulars (λ a. names_no_tree acts a ≡ false) (leaf_named acts regs well_formed)))

-- ---- an expansion that is not refused

module _ (x : RegularInput) (out : ℕ) where
  -- the checks in order, group by group
  abbrev pub expansion_checks : List Check
  expansion_checks =
      (refusal_out out ∷ [])
      ++ (label_checks x.labels
      ++ (action_checks x.labels x.actions
      ++ ((refusal61 x.actions x.regulars ∷ [])
      ++ (formula_checks (regular_children x.regulars) (size x.regulars) x.formula ++ (refusal62 x.regulars x.formula ∷ [])))))

  pub expansion_whole : expansion_refusal x out ≡ first_fault expansion_checks
  unfolding expansion_refusal
  expansion_whole = refl

  module _ (h : first_fault expansion_checks ≡ Ok tt) where
    passed_parts : (first_fault (label_checks x.labels) ≡ Ok tt) × (first_fault (action_checks x.labels x.actions) ≡ Ok tt)
        × (first_fault (refusal61 x.actions x.regulars ∷ []) ≡ Ok tt)
        × (first_fault (formula_checks (regular_children x.regulars) (size x.regulars) x.formula) ≡ Ok tt)
        × (first_fault (refusal62 x.regulars x.formula ∷ []) ≡ Ok tt)
    passed_parts =
        let (o, p) = first_both (refusal_out out ∷ []) _ h in
        let (l, q) = first_both (label_checks x.labels) _ p in
        let (a, r) = first_both (action_checks x.labels x.actions) _ q in
        let (m, s) = first_both (refusal61 x.actions x.regulars ∷ []) _ r in
        let (f, t) = first_both (formula_checks (regular_children x.regulars) (size x.regulars) x.formula) _ s in
        (l, a, m, f, t)

    expanded_closed : Fits (λ a. names_no_tree x.actions a ≡ false) 0 (expanded x)
    unfolding expanded regular_formula
    expanded_closed = let (l, a, m, f, t) = passed_parts in expanded_fits x.actions x.regulars (first_passed _ m 0) x.formula f

    pub expanded_few : formula_size (expanded x) ≤ most_nodes
    unfolding expanded regular_formula expanded_size refusal62
    expanded_few = let (l, a, m, f, t) = passed_parts in ltb-false most_nodes _ (if_passed 62 0 _ (first_passed _ t 0))

    accepted_actions : ActionsAccepted x.labels x.actions
    accepted_actions =
        let (l, a, m, f, t) = passed_parts in
        record { long = first_passed _ a 0; few = first_passed _ a 1; kinds = first_passed _ a 2; operands = first_passed _ a 3 }

    -- it is written as a table that 01 accepts, for the same labels and action formulas, and that reads as the expanded
    -- formula
    accepts_written : Accepts x (expanded_words x)
    unfolding expanded_words
    accepts_written =
        let (l, a, m, f, t) = passed_parts in
        record {
          labels = (first_passed _ l 0, first_passed _ l 1, first_passed _ l 2);
          actions = accepted_actions;
          formula = words_accepted itself (expanded x) (λ a. names_no_tree x.actions a ≡ false) x.actions (λ a p. p) expanded_closed expanded_few;
          read_back = words_read_back itself itself (λ a. names_no_tree x.actions a ≡ false) (λ a p. refl) (expanded x) expanded_closed;
        }

  pub expansion_accepted : expansion_refusal x out ≡ Ok tt → Accepts x (expanded_words x)
  expansion_accepted h = accepts_written (sym expansion_whole ∙ h)
