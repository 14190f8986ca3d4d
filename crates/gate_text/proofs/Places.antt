-- Number and place of a refusal are small, so that they are words: each limit is checked before what it limits. Assumes
-- nothing.
use mathlib.Core.Path.{◌≡◌}
use mathlib.Core.List.{List}
use mathlib.Core.Logic.{inl, inr}
use Prim.Native.Nat.{ℕ, ◌≤◌, ◌<◌}
use native.Mathlib.Omega.{arith}
use native.Mathlib.Decide.{dec_lt}
use Rattle.rules.specs.Answers.{fault}
use Rattle.rules.specs.declared.Room.{Room}
use Rattle.rules.specs.Words.{Input}
use Rattle.rules.specs.Labels.{label_count, action_count}
use Rattle.rules.specs.System.{state_count, transition_count}
use Rattle.rules.specs.Table.{size, action_children}
use Rattle.rules.specs.Refusal.{refusal}
use Rattle.rules.specs.Faulty.{FaultyRoom, few_vertices, many_vertices, few_edges, many_edges, wrong_game, wrong_work}
use Rattle.rules.specs.Faulty.{FaultyLabels, few_label_words, wrong_label_words, many_labels, many_actions}
use Rattle.rules.specs.Faulty.{label_too_large, label_falls}
use Rattle.rules.specs.Faulty.{FaultySystem, few_system_words, wrong_system_words, few_states, many_states, many_transitions}
use Rattle.rules.specs.Faulty.{wrong_initial, wrong_degrees, wrong_label, wrong_target}
use Rattle.rules.specs.Faulty.{FaultyActions, no_action_words, wrong_action_words, many_action_nodes, action_kind_too_large}
use Rattle.rules.specs.Faulty.{action_not_zero, action_no_label, action_not_right, action_unfinished}
use Rattle.rules.specs.Faulty.{FaultyFormula, no_formula_words, wrong_formula_words, no_formula_nodes, many_formula_nodes}
use Rattle.rules.specs.Faulty.{formula_kind_too_large, formula_not_zero, formula_not_right, formula_no_action, formula_no_root}
use Rattle.rules.specs.Faulty.{formula_unfinished, formula_left_over, wrong_reference}
use Rattle.rules.specs.Faulty.{Faulty, faulty_room, faulty_labels, faulty_system, faulty_actions, faulty_formula, NoLater}
use Rattle.tables.proofs.Exact.{exact}

abbrev pub Small : ℕ → ℕ → Type 0
Small n p = (n ≤ 60) × (p ≤ 1_000_000)

room_small : (r : Room) (game work : ℕ) {n p : ℕ} → FaultyRoom r game work n p → Small n p
room_small r game work (few_vertices l) = (omega arith, omega arith)
room_small r game work (many_vertices l) = (omega arith, omega arith)
room_small r game work (few_edges l) = (omega arith, omega arith)
room_small r game work (many_edges l) = (omega arith, omega arith)
room_small r game work (wrong_game d) = (omega arith, omega arith)
room_small r game work (wrong_work d) = (omega arith, omega arith)

label_small : (ls : List ℕ) {n p : ℕ} → FaultyLabels ls n p → (12 < n → action_count ls ≤ 16_384) → Small n p
label_small ls (few_label_words l) few = (omega arith, omega arith)
label_small ls (wrong_label_words d) few = (omega arith, omega arith)
label_small ls (many_labels l) few = (omega arith, omega arith)
label_small ls (many_actions l) few = (omega arith, omega arith)
label_small ls (label_too_large w a b l) few = (omega arith, omega (arith, few (omega arith)))
label_small ls (label_falls w a b l) few = (omega arith, omega (arith, few (omega arith)))

system_small : (l : ℕ) (ss : List ℕ) {n p : ℕ} → FaultySystem l ss n p
    → (22 < n → state_count ss ≤ 65_535) → (22 < n → transition_count ss ≤ 262_144) → Small n p
system_small m ss (few_system_words l) few less = (omega arith, omega arith)
system_small m ss (wrong_system_words d) few less = (omega arith, omega arith)
system_small m ss (few_states l) few less = (omega arith, omega arith)
system_small m ss (many_states l) few less = (omega arith, omega arith)
system_small m ss (many_transitions l) few less = (omega arith, omega arith)
system_small m ss (wrong_initial l) few less = (omega arith, omega arith)
system_small m ss (wrong_degrees d) few less = (omega arith, omega arith)
system_small m ss (wrong_label t a l) few less = (omega arith, omega (arith, few (omega arith), less (omega arith)))
system_small m ss (wrong_target t a l) few less = (omega arith, omega (arith, few (omega arith), less (omega arith)))

action_small : (l : ℕ) (acts : List ℕ) {n p : ℕ} → FaultyActions l acts n p → (32 < n → size acts ≤ 1_024) → Small n p
action_small m acts (no_action_words e) few = (omega arith, omega arith)
action_small m acts (wrong_action_words d) few = (omega arith, omega arith)
action_small m acts (many_action_nodes l) few = (omega arith, omega arith)
action_small m acts (action_kind_too_large v a l) few = (omega arith, omega (arith, few (omega arith)))
action_small m acts (action_not_zero v a k d) few = (omega arith, omega (arith, few (omega arith)))
action_small m acts (action_no_label v a k l) few = (omega arith, omega (arith, few (omega arith)))
action_small m acts (action_not_right v e a k t d) few = (omega arith, omega (arith, few (omega arith)))
action_small m acts (action_unfinished v a t) few = (omega arith, omega (arith, few (omega arith)))

formula_small : (children : ℕ → ℕ) (m : ℕ) (f : List ℕ) {n p : ℕ} → FaultyFormula children m f n p → (42 < n → size f ≤ 1_024) → Small n p
formula_small children m f (no_formula_words e) few = (omega arith, omega arith)
formula_small children m f (wrong_formula_words d) few = (omega arith, omega arith)
formula_small children m f (no_formula_nodes l) few = (omega arith, omega arith)
formula_small children m f (many_formula_nodes l) few = (omega arith, omega arith)
formula_small children m f (formula_kind_too_large v a l) few = (omega arith, omega (arith, few (omega arith)))
formula_small children m f (formula_not_zero v a k d) few = (omega arith, omega (arith, few (omega arith)))
formula_small children m f (formula_not_right v e a k t d) few = (omega arith, omega (arith, few (omega arith)))
formula_small children m f (formula_no_action v a k l) few = (omega arith, omega (arith, few (omega arith)))
formula_small children m f (formula_no_root v a k d) few = (omega arith, omega (arith, few (omega arith)))
formula_small children m f (formula_unfinished t) few = (omega arith, omega (arith, few (omega arith)))
formula_small children m f (formula_left_over e t l) few = (omega arith, omega (arith, few (omega arith)))
formula_small children m f (wrong_reference v a k d) few = (omega arith, omega (arith, few (omega arith)))

not_later : (n p m q : ℕ) → m < n → ¬ NoLater (λ k. k) n p m q
not_later n p m q h (inl l) = absurd (omega arith)
not_later n p m q h (inr e) = absurd (omega (arith, e.0))

module _ (x : Input) (r : Room) (game work n p : ℕ) (refused : refusal x r game work ≡ fault n p) where
  -- a limit that has an earlier number holds
  limited : (m a b : ℕ) → m < n → (a < b → Faulty x r game work m 0) → b ≤ a
  limited m a b h f = go (dec_lt a b)
    where
      go : Dec (a < b) → b ≤ a
      go (yes l) = absurd (not_later n p m 0 h (((exact x r game work n p).0 refused).1 m 0 (f l)))
      go (no l) = omega arith

  refusal_small : Faulty x r game work n p → Small n p
  refusal_small (faulty_room f) = room_small r game work f
  refusal_small (faulty_labels f) =
      label_small x.labels f (λ h. limited 12 16_384 _ h (λ l. faulty_labels (many_actions l)))
  refusal_small (faulty_system f) =
      system_small (label_count x.labels) x.system f
      (λ h. limited 22 65_535 _ h (λ l. faulty_system (many_states l)))
      (λ h. limited 22 262_144 _ h (λ l. faulty_system (many_transitions l)))
  refusal_small (faulty_actions f) =
      action_small (label_count x.labels) x.actions f
      (λ h. limited 32 1_024 _ h (λ l. faulty_actions (many_action_nodes l)))
  refusal_small (faulty_formula f) =
      formula_small (action_children x.actions) (size x.actions) x.formula f (λ h. limited 42 1_024 _ h (λ l. faulty_formula (many_formula_nodes l)))

  pub refused_small : Small n p
  refused_small = refusal_small ((exact x r game work n p).0 refused).0
