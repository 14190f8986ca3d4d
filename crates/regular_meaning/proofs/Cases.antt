-- Regular formulas told apart from wrong ones, by computation: formulas over them that a state of a small system
-- satisfies, and formulas that it does not. Each is expanded and evaluated; by paths it says the same. Assumes nothing.
use mathlib.Core.Path.{◌≡◌, refl, sym, ◌∙◌}
use mathlib.Core.Bool.{Bool, true, false, ◌&&◌, true≢false}
use mathlib.Core.List.{List, [], ◌∷◌}
use mathlib.Core.Logic.{◌↔◌}
use Prim.Native.Nat.{ℕ, ◌<◌}
use lib.Dec.{ltb}
use borrow.Author.Tests.{ltb-true}
use Rattle.rules.specs.Lists.{In}
use Rattle.rules.specs.System.{transition_label}
use Rattle.rules.proofs.Unfold.{every_rule}
use Rattle.lists.proofs.Tests.{and-true}
use Rattle.writing.specs.FormulaSyntax.{FormulaOver, true_formula, false_formula, and_formula, or_formula, box_formula}
use Rattle.writing.specs.FormulaSyntax.{diamond_formula, least_formula, greatest_formula, reference_formula}
use Rattle.meaning.specs.Quantifiers.{all, any}
use Rattle.meaning.specs.Satisfies.{nowhere, SatisfiesBy}
use Rattle.meaning.specs.Evaluation.{everywhere, iterate, evaluate_by}
use Rattle.meaning.proofs.Quantifiers.{all_in}
use Rattle.meaning.proofs.Evaluates.{evaluates_by}
use Rattle.meaning.proofs.Clauses.{here, good, same, same-value}
use Rattle.regular_rules.specs.Regular.{Regular, action, sequence, choice, star, plus}
use Rattle.regular_rules.specs.Expand.{modal_formula, both_formula, again_formula, below, modal, expand}
use Rattle.regular_meaning.specs.Paths.{matches_at, Leads}
use Rattle.regular_meaning.proofs.Expanding.{expansion_means}

-- ---- what is said of a state, on the system of `Clauses`: state 0 has transitions on a to states 1 and 2, state 1 one
-- on a to itself, state 2 one on b to state 0

pub record Case : Type 0 where
  pub formula : FormulaOver Regular
  pub state : ℕ
  pub holds : Bool

abbrev pub ByPaths : FormulaOver Regular → ℕ → Type 0
ByPaths f s = SatisfiesBy here.system (Leads here.labels here.system here.actions) f [] s

abbrev pub Told : FormulaOver Regular → ℕ → Bool → Type 0
Told f s true = ByPaths f s
Told f s false = ¬ ByPaths f s

abbrev matching : (a i : ℕ) → Bool
matching a i = matches_at here.labels here.actions a (transition_label here.system i)

abbrev value : FormulaOver Regular → ℕ → Bool
value f s = evaluate_by here.system matching (expand f) [] s

decided : (f : FormulaOver Regular) (s : ℕ) → s < 3 → ByPaths f s ↔ (value f s ≡ true)
decided f s l =
    let means = expansion_means 2 here.labels here.system here.actions good.system f [] s l in
    let evaluates = evaluates_by 2 here.system good.system matching (expand f) [] s l in
    (λ h. evaluates.0 (means.0 h), λ e. means.1 (evaluates.1 e))

told : (f : FormulaOver Regular) (s : ℕ) → s < 3 → (b : Bool) → value f s ≡ b → Told f s b
told f s l true e = (decided f s l).1 e
told f s l false e = λ h. true≢false (sym ((decided f s l).0 h) ∙ e)

abbrev right : Case → Bool
right c = ltb c.state 3 && same (value c.formula c.state) c.holds

abbrev pub case : FormulaOver Regular → ℕ → Bool → Case
case f s b = record { formula = f; state = s; holds = b }

-- ---- the cases

abbrev pub a : Regular
a = action 0

abbrev pub b : Regular
b = action 1

-- some transition on a, some on b
abbrev pub can_a : FormulaOver Regular
can_a = diamond_formula a true_formula

abbrev pub can_b : FormulaOver Regular
can_b = diamond_formula b true_formula

-- of state 1 alone
abbrev pub only_a : FormulaOver Regular
only_a = and_formula can_a (box_formula a can_a)

abbrev pub regular_cases : List Case
regular_cases =
    -- sequence: one and then the other
    case (diamond_formula (sequence a b) true_formula) 0 true
    ∷ case (diamond_formula (sequence b a) true_formula) 0 false
    ∷ case (diamond_formula (sequence b a) true_formula) 2 true
    ∷ case (diamond_formula (sequence (sequence a b) a) true_formula) 0 true
    ∷ case (diamond_formula (sequence a (sequence b b)) true_formula) 0 false
    ∷ case (box_formula (sequence a b) can_a) 0 true
    ∷ case (box_formula (sequence a a) can_b) 0 false
    ∷ case (box_formula (sequence a a) can_a) 0 true
    -- choice: either
    ∷ case (diamond_formula (choice a b) true_formula) 0 true
    ∷ case (diamond_formula (choice a b) true_formula) 2 true
    ∷ case (diamond_formula (choice b (sequence a a)) can_b) 0 false
    ∷ case (box_formula (choice a b) can_a) 2 true
    ∷ case (box_formula (choice a b) can_a) 0 false
    ∷ case (box_formula (choice b a) can_a) 0 false
    -- star: any number of passes, none too
    ∷ case (diamond_formula (star a) can_b) 0 true
    ∷ case (diamond_formula (star a) can_b) 1 false
    ∷ case (diamond_formula (star a) can_b) 2 true
    ∷ case (diamond_formula (star b) false_formula) 1 false
    ∷ case (diamond_formula (star (choice a b)) only_a) 2 true
    ∷ case (diamond_formula (star (sequence a b)) can_b) 0 false
    ∷ case (diamond_formula (sequence (star (sequence a b)) a) can_b) 0 true
    ∷ case (box_formula (star a) can_a) 1 true
    ∷ case (box_formula (star a) can_a) 0 false
    ∷ case (box_formula (star b) false_formula) 1 false
    ∷ case (box_formula (star (sequence a b)) can_a) 0 true
    ∷ case (box_formula (star (choice a b)) (or_formula can_a can_b)) 0 true
    ∷ case (box_formula (star (star a)) can_a) 1 true
    -- plus: at least one pass
    ∷ case (diamond_formula (plus a) can_b) 0 true
    ∷ case (diamond_formula (plus a) can_b) 2 false
    ∷ case (diamond_formula (plus (choice a b)) can_b) 2 true
    ∷ case (box_formula (plus a) can_a) 0 false
    ∷ case (box_formula (plus a) can_a) 1 true
    ∷ case (box_formula (plus b) can_b) 2 false
    ∷ case (box_formula (plus (choice a b)) can_a) 2 false
    ∷ case (box_formula (plus b) false_formula) 0 true
    -- under fixpoints of the formula: a star's own fixpoint is not in their way
    ∷ case (greatest_formula (diamond_formula (sequence a b) (reference_formula 0))) 0 true
    ∷ case (least_formula (diamond_formula (sequence a b) (reference_formula 0))) 0 false
    ∷ case (greatest_formula (diamond_formula (star a) (diamond_formula b (reference_formula 0)))) 0 true
    ∷ case (least_formula (diamond_formula (star a) (diamond_formula b (reference_formula 0)))) 0 false
    ∷ case (greatest_formula (diamond_formula (star a) (diamond_formula b (reference_formula 0)))) 1 false
    ∷ case (greatest_formula (least_formula (diamond_formula (star b) (diamond_formula a (reference_formula 1))))) 2 true
    ∷ case (greatest_formula (box_formula (plus a) (and_formula can_a (reference_formula 0)))) 1 true
    ∷ case (least_formula (box_formula (star a) (reference_formula 0))) 2 false
    -- a fixpoint of its own in the formula behind a star
    ∷ case (diamond_formula (star b) (greatest_formula (diamond_formula a (reference_formula 0)))) 2 true
    ∷ case (box_formula (star a) (least_formula (or_formula can_b (diamond_formula a (reference_formula 0))))) 0 false
    ∷ []

computed : all right regular_cases ≡ true
unfolding every_rule all any nowhere everywhere iterate evaluate_by modal_formula both_formula again_formula below modal expand
computed = refl

-- each state satisfies what is said of it, by paths, and does not where that is said
pub regular-cases : (c : Case) → In c regular_cases → Told c.formula c.state c.holds
regular-cases c m =
    let (l, e) = and-true (ltb c.state 3) (same (value c.formula c.state) c.holds) (all_in right regular_cases computed c m) in
    told c.formula c.state (ltb-true c.state 3 l) c.holds (same-value _ _ e)
