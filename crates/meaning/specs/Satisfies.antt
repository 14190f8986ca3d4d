-- The modal mu-calculus on the system of an input, by the clauses of the textbooks (after Bradfield and Stirling): when
-- a state satisfies a formula. The clauses speak of states, transitions and sets of states alone: no equation, item,
-- pair, priority or game is mentioned. Assumes nothing: these are definitions.
use Rattle.std.specs.Prelude.{◌≡◌, Bool, true, false, List, [], ◌∷◌, ◌⊎◌, ℕ, ◌<◌, get_or}
use Rattle.rules.specs.Lists.{In}
use Rattle.rules.specs.Words.{Input}
use Rattle.rules.specs.Labels.{multiset}
use Rattle.rules.specs.System.{state_count, initial_state, transition_label, transition_target, transitions}
use Rattle.rules.specs.Actions.{Action, matches}
use Rattle.writing.specs.ActionSyntax.{ActionSyntax}
use Rattle.writing.specs.FormulaSyntax.{FormulaOver, FormulaSyntax, true_formula, false_formula, and_formula, or_formula, box_formula, diamond_formula, least_formula, greatest_formula, reference_formula, read_tree, Written}

-- ---- transitions

-- the label of transition i matches the action formula
abbrev pub label_matches : Input → Action → (i : ℕ) → Bool
label_matches x a i = matches (multiset x.labels (transition_label x.system i)) a

-- state s has a transition to state t that passes the test
abbrev pub MovesBy : (ss : List ℕ) → (test : (i : ℕ) → Bool) → (s t : ℕ) → Type 0
MovesBy ss test s t = (i : ℕ) × In i (transitions ss s) × (test i ≡ true) × (transition_target ss i ≡ t)

-- ---- sets of states

-- A set of states, by its test. (The system is finite, so each of its sets of states has one)
abbrev pub StateSet : Type 0
StateSet = ℕ → Bool

unfoldable pub nowhere : StateSet
nowhere s = false

-- the states of a set
abbrev pub Of : StateSet → ℕ → Type 0
Of E s = E s ≡ true

-- every state of the system of which P holds has Q too
abbrev pub Within : (ss : List ℕ) → (P Q : ℕ → Type 0) → Type 0
Within ss P Q = (s : ℕ) → s < state_count ss → P s → Q s

-- ---- the clauses

-- `ss` are the words of the system. What a modality carries leads from state to state
module _ {M : Type 0} (ss : List ℕ) (leads : M → (s t : ℕ) → Type 0) where
  -- State s satisfies the formula. `env` gives each fixpoint around the formula its set of states, the nearest first,
  -- and a reference names one of them by its place. The fixpoints are Knaster and Tarski's: least, s is in every set E
  -- that contains all states that satisfy the body under E; greatest, s is in some set E all of whose states satisfy
  -- the body under E
  unfoldable pub SatisfiesBy : FormulaOver M → (env : List StateSet) → (s : ℕ) → Type 0
  SatisfiesBy true_formula env s = Unit {0}
  SatisfiesBy false_formula env s = ⊥
  SatisfiesBy (and_formula f g) env s = SatisfiesBy f env s × SatisfiesBy g env s
  SatisfiesBy (or_formula f g) env s = SatisfiesBy f env s ⊎ SatisfiesBy g env s
  SatisfiesBy (box_formula m f) env s = (t : ℕ) → leads m s t → SatisfiesBy f env t
  SatisfiesBy (diamond_formula m f) env s = (t : ℕ) × leads m s t × SatisfiesBy f env t
  SatisfiesBy (least_formula f) env s = (E : StateSet) → Within ss (SatisfiesBy f (E ∷ env)) (Of E) → Of E s
  SatisfiesBy (greatest_formula f) env s = (E : StateSet) × Within ss (Of E) (SatisfiesBy f (E ∷ env)) × Of E s
  SatisfiesBy (reference_formula i) env s = Of (get_or env i nowhere) s

module _ (x : Input) (row : List ActionSyntax) where
  -- state s has a transition to state t whose label matches action formula a of the row
  abbrev pub Moves : (a s t : ℕ) → Type 0
  Moves a = MovesBy x.system (label_matches x (read_tree x.labels row a))

  -- state s satisfies a formula of document 01, whose modalities lead by one transition
  abbrev pub Satisfies : FormulaSyntax → (env : List StateSet) → (s : ℕ) → Type 0
  Satisfies = SatisfiesBy x.system Moves

-- ---- an input

-- The formula holds: the words of the input are those of a row of action formulas and a closed formula (theorem
-- `accepted_input_is_written`; of one only, theorems `one-row` and `one_formula`), and the initial state satisfies it
abbrev pub Satisfied : Input → Type 0
Satisfied x = Written x × ((w : Written x) → Satisfies x w.row w.whole [] (initial_state x.system))
