-- The whole call from its parts: a check's fault refuses it, and once the words passed the tables decide. Assumes
-- nothing.
use mathlib.Core.Path.{◌≡◌, refl, sym, ap, ◌∙◌, subst}
use mathlib.Core.List.{List, [], ◌∷◌}
use Prim.Native.Nat.{ℕ, ◌+◌, ◌*◌, ◌≤◌, ◌<◌}
use native.Mathlib.Omega.{arith}
use native.Mathlib.Decide.{dec_lt}
use lib.ListN.{length}
use lib.Dec.{ltb}
use borrow.Author.Tests.{lt-ltb, ltb-false}
use Rattle.std.specs.declared.result.Result.{Result}
use Rattle.std.specs.declared.result.Result.TheVariants.{Ok, Err}
use Rattle.std.specs.Result.{IsErrAnd}
use Rattle.rules.specs.declared.Answer.{Answer}
use Rattle.rules.specs.declared.Answer.TheVariants.{Done}
use Rattle.rules.specs.declared.Fault.{Fault}
use Rattle.rules.specs.Words.{most_nodes}
use Rattle.rules.specs.Answers.{Check, fault_if, first_fault}
use Rattle.rules.specs.Game.{padded}
use Rattle.tables.proofs.Faults.{if_passed, first_passed, first_one, first_both, first_fault_of, first_next_of}
use Rattle.tables.proofs.Choices.{differ_false}
use Rattle.tables.proofs.FaultyWords.{label_checks}
use Rattle.tables.proofs.FaultyTables.{action_checks}
use Rattle.faults.specs.Answers.{answer_of}
use Rattle.faults.proofs.Handed.{handed_on}
use Rattle.writing.specs.FormulaSyntax.{words_over}
use Rattle.writing.specs.FormulaReading.{formula_syntax, itself}
use Rattle.writing.proofs.FormulaTheorems.{words_size, words_length}
use Rattle.regular_rules.specs.Regular.{regular_tree}
use Rattle.regular_rules.specs.Expand.{expand}
use Rattle.regular_rules.specs.Refusals.{RegularInput, refusal_out, refusal61, refusal62, expanded_size, expansion_refusal, table_length}
use Rattle.regular_rules.specs.Expansion.{Expansion, regular_formula, expanded, expanded_words, expanded_or, expansion}
use Rattle.regular_rules.specs.Good.{GoodTables}
use Rattle.regular_rules.specs.Sizes.{capped}
use Rattle.regular_meaning.specs.Claims.{WrittenMeans}
use Rattle.regular_meaning.proofs.NoFalsePass.{written_means}
use Rattle.regular_rules.proofs.Counting.{capped_small, capped_large}
use Rattle.regular_rules.specs.Accepts.{ExpansionDemand}
use Rattle.regular_rules.proofs.Theorems.{passed_tables}
use Rattle.regular_rules.proofs.Demand.{expansion_demand}
use Rattle.expand.specs.Parts.{first_checks, table_expansion}

-- ---- a fault refuses

-- a check's fault, as the call hands it on
refused_by : (c : Check) (words out : List ℕ) (r : Result Answer Fault) (f : Fault) → IsErrAnd r (λ g. g ≡ f) → c ≡ Err f
    → ◌≡◌ {A = Expansion} (record { answer = answer_of r; out = out }) (expanded_or c words out)
unfolding expanded_or
refused_by c words out r f same e = rw (e, handed_on r f same) refl

-- ---- the order of the checks

module _ (x : RegularInput) (out : List ℕ) where
  pub refused_before : (r : Result Answer Fault) (f : Fault) → IsErrAnd r (λ g. g ≡ f) → first_fault (first_checks x (length out)) ≡ Err f
      → ◌≡◌ {A = Expansion} (record { answer = answer_of r; out = out }) (expansion x out)
  unfolding expansion expansion_refusal
  refused_before r f same e =
      refused_by (expansion_refusal x (length out)) (expanded_words x) out r f same
      (first_fault_of (first_checks x (length out)) (refusal62 x.regulars x.formula ∷ []) e)

  module _ (passed : first_fault (first_checks x (length out)) ≡ Ok tt) where
    pub right_length : length out ≡ table_length
    unfolding refusal_out
    right_length = differ_false _ _ (if_passed 2 0 _ (first_passed _ passed 0))

    pub good_tables : GoodTables x.regulars x.formula
    good_tables =
        let (o, h) = first_both (refusal_out (length out) ∷ []) _ passed in
        let (l, p) = first_both (label_checks x.labels) _ h in
        let (a, q) = first_both (action_checks x.labels x.actions) _ p in
        let (m, f) = first_both (refusal61 x.actions x.regulars ∷ []) _ q in
        passed_tables x.actions x.regulars (sym (first_one _) ∙ m) x.formula f

    pub tables_decide : table_expansion x.regulars x.formula out ≡ expansion x out
    unfolding table_expansion expansion expansion_refusal expanded_words expanded regular_formula
    tables_decide =
        ap (λ c. expanded_or c (expanded_words x) out)
        (sym (first_next_of (first_checks x (length out)) (refusal62 x.regulars x.formula ∷ []) passed ∙ first_one _))

-- ---- the tables: 62, or the formula is written

module _ (regs f out : List ℕ) (nodes : ℕ) (counted : nodes ≡ capped (expanded_size regs f)) where
  -- counting stops above the most nodes
  same_above : ltb most_nodes nodes ≡ ltb most_nodes (expanded_size regs f)
  same_above = ap (ltb most_nodes) counted ∙ go (dec_lt most_nodes (expanded_size regs f))
    where
      go : Dec (most_nodes < expanded_size regs f) → ltb most_nodes (capped (expanded_size regs f)) ≡ ltb most_nodes (expanded_size regs f)
      go (yes l) = rw (capped_large (expanded_size regs f) (omega arith), lt-ltb most_nodes (expanded_size regs f) l) refl
      go (no l) = rw (capped_small (expanded_size regs f) (omega arith)) refl

  pub tables_refused : (r : Result Answer Fault) (e : Fault) → IsErrAnd r (λ g. g ≡ e) → fault_if 62 0 (ltb most_nodes nodes) ≡ Err e
      → ◌≡◌ {A = Expansion} (record { answer = answer_of r; out = out }) (table_expansion regs f out)
  unfolding table_expansion refusal62
  tables_refused r e same i =
      refused_by (refusal62 regs f) _ out r e same (ap (fault_if 62 0) (sym same_above) ∙ i)

  module _ (few : fault_if 62 0 (ltb most_nodes nodes) ≡ Ok tt) where
    pub counted_all : (nodes ≡ expanded_size regs f) × (nodes ≤ most_nodes)
    counted_all =
        let l = ltb-false _ _ (if_passed 62 0 _ few) in
        let k = ltb-false _ _ (sym same_above ∙ if_passed 62 0 _ few) in
        (counted ∙ capped_small _ (omega arith), l)

    pub tables_written : (out' : List ℕ) → length out ≡ table_length
        → out' ≡ padded table_length (words_over itself (expand (formula_syntax (regular_tree regs) f)))
        → ◌≡◌ {A = Expansion} (record { answer = Done (1 + 2 * nodes) 0 0; out = out' }) (table_expansion regs f out)
    unfolding table_expansion refusal62 expanded_or expanded_size
    tables_written out' room wrote =
        let t = expand (formula_syntax (regular_tree regs) f) in
        let many : 1 + 2 * nodes ≡ length (words_over itself t)
        = ap (λ n. 1 + 2 * n) (counted_all.0 ∙ sym (words_size itself t)) ∙ sym (words_length itself t) in
        let passes : refusal62 regs f ≡ Ok tt = ap (fault_if 62 0) (sym same_above) ∙ few in
        rw (passes, room, wrote, many) refl

-- ---- what users rely on

pub demanded : (x : RegularInput) (out : List ℕ) (a : Answer) (out' : List ℕ)
    → ◌≡◌ {A = Expansion} (record { answer = a; out = out' }) (expansion x out) → ExpansionDemand x out a out'
demanded x out a out' e = subst (λ (y : Expansion). ExpansionDemand x out y.answer y.out) (sym e) (expansion_demand x out)

-- so the words written mean what was handed over
pub meant : (x : RegularInput) (out : List ℕ) (a : Answer) (out' : List ℕ)
    → ◌≡◌ {A = Expansion} (record { answer = a; out = out' }) (expansion x out) → WrittenMeans x a out'
meant x out a out' e = subst (λ (y : Expansion). WrittenMeans x y.answer y.out) (sym e) (written_means x out)
