-- The transition system (document 01, "Words handed over": "S (1 to 65,535), T (0 to 262,144), initial state, S
-- out-degrees summing to T; then T labels and T targets, grouped by source state"). Assumes nothing: these are
-- definitions.
use Rattle.std.specs.Prelude.{ℕ, ◌+◌, List}
use Rattle.rules.specs.Lists.{word, from, sum_words}

abbrev pub state_count : List ℕ → ℕ
state_count ss = word ss 0

abbrev pub transition_count : List ℕ → ℕ
transition_count ss = word ss 1

abbrev pub initial_state : List ℕ → ℕ
initial_state ss = word ss 2

abbrev pub degree : List ℕ → ℕ → ℕ
degree ss s = word ss (3 + s)

-- transition t, counted from 0
abbrev pub transition_label : List ℕ → ℕ → ℕ
transition_label ss t = word ss (3 + state_count ss + t)

abbrev pub transition_target : List ℕ → ℕ → ℕ
transition_target ss t = word ss (3 + state_count ss + transition_count ss + t)

-- the first transition of state s: those of the states before it come first
unfoldable pub first_transition : List ℕ → ℕ → ℕ
first_transition ss s = sum_words ss 3 s

-- the transitions of state s in order, each by its number
unfoldable pub transitions : List ℕ → ℕ → List ℕ
transitions ss s = from (first_transition ss s) (degree ss s)
