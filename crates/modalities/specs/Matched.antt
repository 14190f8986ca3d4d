-- The targets that a modality's transitions give, as keys, and what matching their labels asks of the words. Assumes
-- nothing: these are definitions.
use Rattle.std.specs.Prelude.{◌≡◌, Bool, false, cond, List, [], map, ℕ, ◌+◌, ◌-◌, ◌≤◌, ◌<◌, leb, ltb, length, get_or}
use Rattle.rules.specs.declared.Room.{Room}
use Rattle.rules.specs.Lists.{word, from, filter}
use Rattle.rules.specs.Words.{Input, input_of}
use Rattle.rules.specs.Labels.{multiset}
use Rattle.rules.specs.System.{state_count, transition_label, transition_target, transitions}
use Rattle.rules.specs.Table.{size}
use Rattle.rules.specs.Actions.{Action, action_tree, matches}
use Rattle.rules.specs.Pairs.{matching_transitions, successors, leading_to}
use Rattle.pairs.specs.Slot.{key_of}
use Rattle.settling.specs.declared.Counters.{Counters}
use Rattle.settling.specs.declared.MarkedBy.{MarkedBy}
use Rattle.settling.specs.declared.MarkedBy.TheVariants.{State, Vertex}
use Rattle.settling.specs.declared.Operand.{Operand}
use Rattle.settling.specs.Stand.{marks_of}
use Rattle.settling.specs.Made.{Marks, Ready}
use Rattle.modalities.specs.declared.Modality.{Modality}
use Rattle.modalities.specs.declared.moves.Moves.{Moves}
use Rattle.modalities.specs.declared.model.ModelTables.{ModelTables}

-- no mark is past the edges, so that no vertex has the mark of an edge that is made from here on
abbrev pub Unmarked : List ℕ → Room → Counters → Type 0
Unmarked w room c = Ready w room.vertices room.edges c × Marks w room.vertices c.edges

-- how many marks a step has: of v vertices and e edges that fit, beside so many edges, states and transitions
unfoldable pub mark_count : (v e edges states transitions : ℕ) → ℕ
mark_count v e edges states transitions =
    cond (leb states v) v
    (cond (ltb transitions (states - v)) v (cond (ltb (edges + states + (states - v)) e) states v))

-- what tells so many marks: the states, where there is a mark for each of so many
abbrev pub marked_by : (states marks : ℕ) → MarkedBy
marked_by states marks = cond (leb states marks) State Vertex

-- So many marks, beside so many edges: one for each of v vertices, or one for each state. Where that is more than the
-- region has, they and the edges of a step, at most one for each state, have different words
pub record Counted (v e edges states many : ℕ) : Type 0 where
  pub least : v ≤ many
  pub apart : v < many → (many ≡ states) × (many + (edges + states) < v + e)

-- none of so many marks is past the edges, and marks by state have one for each state
pub record Spacious (w : List ℕ) (states : ℕ) (room : Room) (many : ℕ) (o : Operand) (c : Counters) : Type 0 where
  pub marks : (i : ℕ) → i < many → word (marks_of w room.vertices many) i ≤ c.edges
  pub counted : Counted room.vertices room.edges c.edges states many
  pub one-each : o.marked_by ≡ State → states ≤ many

-- ---- a modality at a state

-- the words that are lent, as an input of an empty formula: successors do not depend on one
abbrev pub model_in : ModelTables → Input
model_in t = input_of t.labels.now t.system.now t.actions.now []

-- its state, its action formula and its operand are there
abbrev pub Inside : Input → Modality → Type 0
Inside x m = (m.state < state_count x.system) × (m.action < size x.actions) × (m.operand < 2048)

-- the keys of its targets: of the state's successors by the action formula, each with the operand
abbrev pub modality_keys : Input → Modality → List ℕ
modality_keys x m =
    map (λ s. key_of s m.operand) (successors x (action_tree x.labels x.actions m.action) m.state)

-- the count of each: how many of the matching transitions lead to the successor
abbrev pub modality_counts : Input → Modality → List ℕ
modality_counts x m =
    let a = action_tree x.labels x.actions m.action in
    map (leading_to x (matching_transitions x a m.state)) (successors x a m.state)

-- ---- transitions, each as its label and its target, and those of them that match

-- those of state s, in order
abbrev pub state_moves : List ℕ → ℕ → List (ℕ × ℕ)
state_moves ss s = map (λ t. (transition_label ss t, transition_target ss t)) (transitions ss s)

-- the first n of those that are read
abbrev pub first_moves : (labels targets : List ℕ) → ℕ → List (ℕ × ℕ)
first_moves labels targets n = map (λ i. (word labels i, word targets i)) (from 0 n)

-- all of them
abbrev pub moves_in : Moves → List (ℕ × ℕ)
moves_in m = first_moves m.labels.now m.targets.now (length m.targets.now)

-- they are those of state s of the system
pub record OfState (ss : List ℕ) (s : ℕ) (m : Moves) : Type 0 where
  pub states : m.states ≡ state_count ss
  pub moves : moves_in m ≡ state_moves ss s

-- of transitions in order, those whose label passes, each as the key of its target and the item
unfoldable pub passing_keys : (ℕ → Bool) → ℕ → List (ℕ × ℕ) → List ℕ
passing_keys passes item ms = map (λ m. key_of m.1 item) (filter (λ m. passes m.0) ms)

-- those whose label matches the action formula
abbrev pub matched_keys : (ls : List ℕ) → Action → ℕ → List (ℕ × ℕ) → List ℕ
matched_keys ls a item ms = passing_keys (λ l. matches (multiset ls l) a) item ms

-- ---- answers, one for each label

-- a system can have so many labels
abbrev pub answer_count : ℕ
answer_count = 4_096

-- the answer for a label
abbrev pub answer : List Bool → ℕ → Bool
answer answers l = get_or answers l false

-- for the first n of the labels they say whether the action formula matches
abbrev pub Answered : (ls : List ℕ) → Action → List Bool → (labels : List ℕ) → ℕ → Type 0
Answered ls a answers labels n =
    (i : ℕ) → i < n → answer answers (word labels i) ≡ matches (multiset ls (word labels i)) a

-- those whose label has the answer `true`
abbrev pub answered_keys : List Bool → ℕ → List (ℕ × ℕ) → List ℕ
answered_keys answers item ms = passing_keys (answer answers) item ms
