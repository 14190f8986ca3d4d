-- The nine clauses told apart from wrong ones, by computation: formulas that a state of a small system satisfies, and
-- formulas that it does not. Assumes nothing.
use mathlib.Core.Path.{◌≡◌, refl, sym, ◌∙◌}
use mathlib.Core.Bool.{Bool, true, false, ◌&&◌, true≢false}
use mathlib.Core.List.{List, [], ◌∷◌}
use Prim.Native.Nat.{ℕ, ◌<◌}
use lib.Dec.{ltb}
use borrow.Author.Tests.{ltb-true}
use Rattle.std.specs.declared.result.Result.TheVariants.{Ok}
use Rattle.rules.specs.declared.Room.{Room}
use Rattle.rules.specs.Lists.{In}
use Rattle.rules.specs.Words.{Input, input_of, room_of, game_length, work_length}
use Rattle.rules.specs.Refusal.{refusal}
use Rattle.rules.proofs.Unfold.{every_rule}
use Rattle.rules.proofs.Print.{words}
use Rattle.lists.proofs.Tests.{and-true}
use Rattle.tables.specs.Good.{GoodInput}
use Rattle.tables.proofs.Accepted.{accepted_words}
use Rattle.writing.specs.ActionSyntax.{ActionSyntax, label_action, read_action}
use Rattle.writing.specs.FormulaSyntax.{FormulaSyntax, true_formula, false_formula, and_formula, or_formula, box_formula, diamond_formula, least_formula, greatest_formula, reference_formula}
use Rattle.meaning.specs.Quantifiers.{all, any}
use Rattle.meaning.specs.Satisfies.{nowhere, Satisfies}
use Rattle.meaning.specs.Evaluation.{everywhere, iterate, evaluate_by, evaluate}
use Rattle.meaning.proofs.Quantifiers.{all_in}
use Rattle.meaning.proofs.Evaluates.{evaluates}

-- ---- the system

-- Label 0 is the action 7, label 1 the action 8; the action formulas are the two labels, a and b. State 0 has
-- transitions on a to states 1 and 2, state 1 one on a to itself, state 2 one on b to state 0
abbrev pub row : List ActionSyntax
row = label_action 0 ∷ label_action 1 ∷ []

abbrev pub here : Input
here = input_of (words "2 2, 0 1, 7 8") (words "3 4 0, 2 1 1, 0 0 0 1, 1 2 1 0") (words "2, 2 2, 0 1") (words "1, 0, 0")

abbrev room : Room
room = room_of 1 1

passed : refusal here room (game_length room) (work_length room) ≡ Ok tt
unfolding every_rule
passed = refl

-- ---- what is said of a state

pub record Case : Type 0 where
  pub formula : FormulaSyntax
  pub state : ℕ
  pub holds : Bool

abbrev pub Told : FormulaSyntax → ℕ → Bool → Type 0
Told f s true = Satisfies here row f [] s
Told f s false = ¬ Satisfies here row f [] s

abbrev pub same : Bool → Bool → Bool
same true b = b
same false true = false
same false false = true

pub same-value : (a b : Bool) → same a b ≡ true → a ≡ b
same-value true b e = sym e
same-value false true e = e
same-value false false e = refl

pub good : GoodInput here
good = accepted_words here room (game_length room) (work_length room) passed

told : (f : FormulaSyntax) (s : ℕ) → s < 3 → (b : Bool) → evaluate here row f [] s ≡ b → Told f s b
told f s l true e = (evaluates here good row f [] s l).1 e
told f s l false e = λ h. true≢false (sym ((evaluates here good row f [] s l).0 h) ∙ e)

abbrev right : Case → Bool
right c = ltb c.state 3 && same (evaluate here row c.formula [] c.state) c.holds

abbrev pub case : FormulaSyntax → ℕ → Bool → Case
case f s b = record { formula = f; state = s; holds = b }

-- ---- the cases

-- some transition on a, some on b
abbrev pub can_a : FormulaSyntax
can_a = diamond_formula 0 true_formula

abbrev pub can_b : FormulaSyntax
can_b = diamond_formula 1 true_formula

-- <a> of the nearest fixpoint, and of the one around it
abbrev pub nearest : FormulaSyntax
nearest = diamond_formula 0 (reference_formula 0)

abbrev pub outer : FormulaSyntax
outer = diamond_formula 0 (reference_formula 1)

abbrev pub clause_cases : List Case
clause_cases =
    -- true, false, and, or
    case true_formula 0 true
    ∷ case false_formula 0 false
    ∷ case (and_formula true_formula true_formula) 0 true
    ∷ case (and_formula true_formula false_formula) 0 false
    ∷ case (and_formula false_formula true_formula) 0 false
    ∷ case (or_formula false_formula false_formula) 0 false
    ∷ case (or_formula true_formula false_formula) 0 true
    ∷ case (or_formula false_formula true_formula) 0 true
    -- box: every transition that matches, and no other; what holds where it leads
    ∷ case (box_formula 0 can_a) 0 false
    ∷ case (box_formula 0 (or_formula can_a can_b)) 0 true
    ∷ case (box_formula 1 false_formula) 0 true
    ∷ case (box_formula 1 false_formula) 2 false
    ∷ case (box_formula 1 can_a) 2 true
    ∷ case (box_formula 0 false_formula) 2 true
    -- diamond: some transition that matches
    ∷ case (diamond_formula 0 can_b) 0 true
    ∷ case (diamond_formula 0 can_a) 0 true
    ∷ case (diamond_formula 0 false_formula) 0 false
    ∷ case can_b 0 false
    ∷ case (diamond_formula 0 can_b) 1 false
    -- least: a way that ends, in one step or in two; none where a can only go on
    ∷ case (least_formula nearest) 0 false
    ∷ case (least_formula (or_formula can_b nearest)) 2 true
    ∷ case (least_formula (or_formula can_b nearest)) 0 true
    ∷ case (least_formula (or_formula can_b nearest)) 1 false
    ∷ case (least_formula (box_formula 0 (reference_formula 0))) 2 true
    ∷ case (least_formula (box_formula 0 (reference_formula 0))) 0 false
    -- greatest: a way that never ends
    ∷ case (greatest_formula nearest) 1 true
    ∷ case (greatest_formula nearest) 0 true
    ∷ case (greatest_formula nearest) 2 false
    ∷ case (greatest_formula (and_formula can_a (box_formula 0 (reference_formula 0)))) 1 true
    ∷ case (greatest_formula (and_formula can_a (box_formula 0 (reference_formula 0)))) 0 false
    -- reference: the fixpoint that it names, not another
    ∷ case (greatest_formula (least_formula outer)) 0 true
    ∷ case (greatest_formula (least_formula nearest)) 0 false
    ∷ case (least_formula (greatest_formula outer)) 0 false
    ∷ case (least_formula (greatest_formula nearest)) 0 true
    ∷ []

computed : all right clause_cases ≡ true
unfolding every_rule all any nowhere everywhere iterate evaluate_by read_action
computed = refl

-- each state satisfies what is said of it, by the clauses, and does not where that is said
pub clause-cases : (c : Case) → In c clause_cases → Told c.formula c.state c.holds
clause-cases c m =
    let (l, e) = and-true (ltb c.state 3) (same (evaluate here row c.formula [] c.state) c.holds) (all_in right clause_cases computed c m) in
    told c.formula c.state (ltb-true c.state 3 l) c.holds (same-value _ _ e)
