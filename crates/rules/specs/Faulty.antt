-- What is wrong with an input, in the words of document 01 ("Who can cause a refusal"): one clause for each condition,
-- with its number and its place. A clause speaks of one word or one node; that earlier numbers pass is not asked.
-- Theorem `exact`: a run is refused with the first of these, and with none if there is none. Assumes nothing: these are
-- definitions.
use Rattle.std.specs.Prelude.{◌≡◌, List, [], ◌∷◌, ◌⊎◌, ℕ, suc, ◌+◌, ◌*◌, ◌≤◌, ◌<◌, length}
use Rattle.std.proofs.Math.Option.{none, some}
use Rattle.rules.specs.Lists.{word, sum_words, In}
use Rattle.rules.specs.declared.Room.{Room}
use Rattle.rules.specs.Words.{Input, most_labels, most_actions, most_states, most_transitions, most_nodes, most_vertices, most_edges, game_length, work_length}
use Rattle.rules.specs.Labels.{label_count, action_count}
use Rattle.rules.specs.System.{state_count, transition_count, initial_state, transition_label, transition_target}
use Rattle.rules.specs.Table.{size, kind, operand, action_children, formula_children, tree_end}
use Rattle.rules.specs.Rows.{Root}

-- "1: V or E out of range"; "2: a lent slice of the wrong length"
pub data FaultyRoom (r : Room) (game work : ℕ) : (n p : ℕ) → Type 0 where
  few_vertices : r.vertices < 1 → FaultyRoom r game work 1 0
  many_vertices : most_vertices < r.vertices → FaultyRoom r game work 1 0
  few_edges : r.edges < 1 → FaultyRoom r game work 1 0
  many_edges : most_edges < r.edges → FaultyRoom r game work 1 0
  wrong_game : (¬ (game ≡ game_length r)) → FaultyRoom r game work 2 0
  wrong_work : (¬ (work ≡ work_length r)) → FaultyRoom r game work 2 0

-- "11: label words fewer than 2 or not 2 + 2A. 12: L or A too large. 13: a label number is L or more, or falls": the
-- label numbers are the words from 2 on
pub data FaultyLabels (ls : List ℕ) : (n p : ℕ) → Type 0 where
  few_label_words : length ls < 2 → FaultyLabels ls 11 0
  wrong_label_words : (¬ (length ls ≡ 2 + 2 * action_count ls)) → FaultyLabels ls 11 0
  many_labels : most_labels < label_count ls → FaultyLabels ls 12 0
  many_actions : most_actions < action_count ls → FaultyLabels ls 12 0
  label_too_large : (w : ℕ) → 2 ≤ w → w < 2 + action_count ls → label_count ls ≤ word ls w → FaultyLabels ls 13 w
  label_falls : (w : ℕ) → 2 ≤ w → suc w < 2 + action_count ls → word ls (suc w) < word ls w → FaultyLabels ls 13 (suc w)

-- "21: system words fewer than 3 or not 3 + S + 2T. 22: S or T out of range. 23: initial state. 24: degrees don't sum
-- to T (place 1). 25: label. 26: target"; for l labels
pub data FaultySystem (l : ℕ) (ss : List ℕ) : (n p : ℕ) → Type 0 where
  few_system_words : length ss < 3 → FaultySystem l ss 21 0
  wrong_system_words : (¬ (length ss ≡ 3 + state_count ss + 2 * transition_count ss)) → FaultySystem l ss 21 0
  few_states : state_count ss < 1 → FaultySystem l ss 22 0
  many_states : most_states < state_count ss → FaultySystem l ss 22 0
  many_transitions : most_transitions < transition_count ss → FaultySystem l ss 22 0
  wrong_initial : state_count ss ≤ initial_state ss → FaultySystem l ss 23 2
  wrong_degrees : (¬ (sum_words ss 3 (state_count ss) ≡ transition_count ss)) → FaultySystem l ss 24 1
  wrong_label : (t : ℕ) → t < transition_count ss → l ≤ transition_label ss t → FaultySystem l ss 25 (3 + state_count ss + t)
  wrong_target : (t : ℕ) → t < transition_count ss → state_count ss ≤ transition_target ss t → FaultySystem l ss 26 (3 + state_count ss + transition_count ss + t)

-- "31: no action words, or not 1 + 2m. 32: m. 33: kind above 5. 34: operand or unfinished tree"; for l labels.
-- "Operands of 0, 1, 5 are 0"; of a multi-action a label; "the operand of 3 and 4 is the right child, just past the
-- left child's tree", and "isn't judged if its left tree is unfinished"
pub data FaultyActions (l : ℕ) (acts : List ℕ) : (n p : ℕ) → Type 0 where
  no_action_words : length acts ≡ 0 → FaultyActions l acts 31 0
  wrong_action_words : (¬ (length acts ≡ 1 + 2 * size acts)) → FaultyActions l acts 31 0
  many_action_nodes : most_nodes < size acts → FaultyActions l acts 32 0
  action_kind_too_large : (v : ℕ) → v < size acts → 5 < kind acts v → FaultyActions l acts 33 v
  action_not_zero : (v : ℕ) → v < size acts → In (kind acts v) (0 ∷ 1 ∷ 5 ∷ []) → (¬ (operand acts v ≡ 0)) → FaultyActions l acts 34 v
  action_no_label : (v : ℕ) → v < size acts → kind acts v ≡ 2 → l ≤ operand acts v → FaultyActions l acts 34 v
  action_not_right : (v e : ℕ) → v < size acts → In (kind acts v) (3 ∷ 4 ∷ []) → tree_end (action_children acts) (size acts) (suc v) ≡ some e → (¬ (operand acts v ≡ e))
      → FaultyActions l acts 34 v
  action_unfinished : (v : ℕ) → v < size acts → tree_end (action_children acts) (size acts) v ≡ none → FaultyActions l acts 34 (size acts)

-- "8 reference (operand: an enclosing node of kind 6 or 7)": u is such a node of node v
pub record EnclosingFixpoint (f : List ℕ) (u v : ℕ) : Type 0 where
  pub fixpoint : In (kind f u) (6 ∷ 7 ∷ [])
  pub before : u < v
  pub past : ℕ
  pub ends : tree_end (formula_children f) (size f) u ≡ some past
  pub inside : v < past

-- "41: no formula words, or not 1 + 2n. 42: n. 43: kind above 8. 44: operand of kinds 0 to 7, unfinished tree, or nodes
-- left over"; "45: reference"; "Operands of 0, 1, 6, 7 are 0"; of 2 and 3 the right child; of 4 and 5 the "first node
-- of one of the row's trees", of a table of m nodes with so many children each: of the action formulas, or of the
-- regular formulas (document 02, #104)
pub data FaultyFormula (children : ℕ → ℕ) (m : ℕ) (f : List ℕ) : (n p : ℕ) → Type 0 where
  no_formula_words : length f ≡ 0 → FaultyFormula children m f 41 0
  wrong_formula_words : (¬ (length f ≡ 1 + 2 * size f)) → FaultyFormula children m f 41 0
  no_formula_nodes : size f < 1 → FaultyFormula children m f 42 0
  many_formula_nodes : most_nodes < size f → FaultyFormula children m f 42 0
  formula_kind_too_large : (v : ℕ) → v < size f → 8 < kind f v → FaultyFormula children m f 43 v
  formula_not_zero : (v : ℕ) → v < size f → In (kind f v) (0 ∷ 1 ∷ 6 ∷ 7 ∷ []) → (¬ (operand f v ≡ 0)) → FaultyFormula children m f 44 v
  formula_not_right : (v e : ℕ) → v < size f → In (kind f v) (2 ∷ 3 ∷ []) → tree_end (formula_children f) (size f) (suc v) ≡ some e → (¬ (operand f v ≡ e))
      → FaultyFormula children m f 44 v
  formula_no_action : (v : ℕ) → v < size f → In (kind f v) (4 ∷ 5 ∷ []) → m ≤ operand f v → FaultyFormula children m f 44 v
  formula_no_root : (v : ℕ) → v < size f → In (kind f v) (4 ∷ 5 ∷ []) → (¬ Root children m (operand f v)) → FaultyFormula children m f 44 v
  formula_unfinished : tree_end (formula_children f) (size f) 0 ≡ none → FaultyFormula children m f 44 (size f)
  formula_left_over : (e : ℕ) → tree_end (formula_children f) (size f) 0 ≡ some e → e < size f → FaultyFormula children m f 44 e
  wrong_reference : (v : ℕ) → v < size f → kind f v ≡ 8 → (¬ EnclosingFixpoint f (operand f v) v) → FaultyFormula children m f 45 v

-- fault n at place p; `game` and `work` are the lengths of the slices lent
pub data Faulty (x : Input) (r : Room) (game work n p : ℕ) : Type 0 where
  faulty_room : FaultyRoom r game work n p → Faulty x r game work n p
  faulty_labels : FaultyLabels x.labels n p → Faulty x r game work n p
  faulty_system : FaultySystem (label_count x.labels) x.system n p → Faulty x r game work n p
  faulty_actions : FaultyActions (label_count x.labels) x.actions n p → Faulty x r game work n p
  faulty_formula : FaultyFormula (action_children x.actions) (size x.actions) x.formula n p → Faulty x r game work n p

-- "Within a number the smallest place wins": fault n at place p comes no later than fault m at place q, where `turn`
-- orders the numbers
abbrev pub NoLater : (turn : ℕ → ℕ) → (n p m q : ℕ) → Type 0
NoLater turn n p m q = (turn n < turn m) ⊎ ((n ≡ m) × (p ≤ q))

-- of these faults, n at place p is the first
abbrev pub First : (turn : ℕ → ℕ) → (ℕ → ℕ → Type 0) → (n p : ℕ) → Type 0
First turn F n p = F n p × ((m q : ℕ) → F m q → NoLater turn n p m q)

-- "Order for a run: 1, 2, then ascending"
abbrev pub FirstFaulty : Input → Room → (game work n p : ℕ) → Type 0
FirstFaulty x r game work n p = First (λ k. k) (Faulty x r game work) n p

-- there is no fault (theorem `faultless_or_first`: else there is a first one)
abbrev pub Faultless : Input → Room → (game work : ℕ) → Type 0
Faultless x r game work = (n p : ℕ) → ¬ Faulty x r game work n p
