-- Why a run is refused before it begins (document 01, "Who can cause a refusal"): one definition for each number, with
-- its place. "Within a number the smallest place wins"; "The place is a word number (13, 23, 25, 26, 52, 53), a node
-- number (33, 34, 43, 44, 45; an unfinished tree gives the node count, leftovers their first node), else 0 unless
-- said". All sums are of integers: none wraps. Assumes nothing: these are definitions.
use Rattle.std.specs.Prelude.{ℕ, suc, ◌+◌, ◌*◌, ◌-◌, min, Bool, false, not, ◌&&◌, ◌||◌, List, [], ◌∷◌, length, eqb, ltb, leb}
use Rattle.std.proofs.Math.Option.{Option, none, some}
use Rattle.rules.specs.Answers.{Check}
use Rattle.std.specs.declared.result.Result.TheVariants.{Ok, Err}
use Rattle.rules.specs.Answers.{fault}
use Rattle.rules.specs.Lists.{word, seek, sum_words}
use Rattle.rules.specs.declared.Room.{Room}
use Rattle.rules.specs.Words.{Input, most_labels, most_actions, most_states, most_transitions, most_nodes, most_vertices, most_edges, game_length, work_length}
use Rattle.rules.specs.Answers.{fault_if, first_fault}
use Rattle.rules.specs.Labels.{label_count, action_count}
use Rattle.rules.specs.System.{state_count, transition_count, initial_state}
use Rattle.rules.specs.Table.{size, kind, operand, OperandRule, zero_operand, right_child, outside_name, not_judged}
use Rattle.rules.specs.Table.{action_node, action_shape, action_children}
use Rattle.rules.specs.Table.{formula_node, formula_shape, formula_children, reference_of}
use Rattle.rules.specs.Table.{tree_end, is_not_end, is_before_end, on_row}
use Rattle.rules.specs.Formula.{is_fixpoint}

-- not from a to b
unfoldable pub outside : (a b n : ℕ) → Bool
outside a b n = ltb n a || ltb b n

unfoldable pub differ : ℕ → ℕ → Bool
differ m n = not (eqb m n)

-- fault n at the smallest of the places p up to e, e not among them, that has it
unfoldable pub fault_from : (n p e : ℕ) → (ℕ → Bool) → Check
fault_from n p e bad = let found = seek bad p (e - p) in fault_if n found (ltb found e)

-- of two checks for one number the fault at the smaller place
unfoldable pub lower_fault : Check → Check → Check
lower_fault (Ok u) d = d
lower_fault (Err f) (Ok u) = Err f
lower_fault (Err f) (Err g) = fault f.number (min f.place g.place)

-- ---- the host program

-- "1: V or E out of range"
unfoldable pub refusal1 : Room → Check
refusal1 r = fault_if 1 0 (outside 1 most_vertices r.vertices || outside 1 most_edges r.edges)

-- "2: a lent slice of the wrong length"; the lengths of the game slice and the work slice (decision A10)
unfoldable pub refusal2 : Room → (game work : ℕ) → Check
refusal2 r game work = fault_if 2 0 (differ game (game_length r) || differ work (work_length r))

-- ---- the modeller: labels

-- "11: label words fewer than 2 or not 2 + 2A"
unfoldable pub refusal11 : List ℕ → Check
refusal11 ls = fault_if 11 0 (ltb (length ls) 2 || differ (length ls) (2 + 2 * action_count ls))

-- "12: L or A too large"
unfoldable pub refusal12 : List ℕ → Check
refusal12 ls = fault_if 12 0 (ltb most_labels (label_count ls) || ltb most_actions (action_count ls))

-- the word w is a label number that is L or more, or less than the one before it: the label numbers are the words from
-- 2 on (decision A3)
unfoldable pub bad_label : List ℕ → ℕ → Bool
bad_label ls w = leb (label_count ls) (word ls w) || (ltb 2 w && ltb (word ls w) (word ls (w - 1)))

-- "13: a label number is L or more, or falls"
unfoldable pub refusal13 : List ℕ → Check
refusal13 ls = fault_from 13 2 (2 + action_count ls) (bad_label ls)

-- ---- the modeller: the system

-- "21: system words fewer than 3 or not 3 + S + 2T"
unfoldable pub refusal21 : List ℕ → Check
refusal21 ss = fault_if 21 0 (ltb (length ss) 3 || differ (length ss) (3 + state_count ss + 2 * transition_count ss))

-- "22: S or T out of range"
unfoldable pub refusal22 : List ℕ → Check
refusal22 ss = fault_if 22 0 (outside 1 most_states (state_count ss) || ltb most_transitions (transition_count ss))

-- "23: initial state"
unfoldable pub refusal23 : List ℕ → Check
refusal23 ss = fault_if 23 2 (leb (state_count ss) (initial_state ss))

-- "24: degrees don't sum to T (place 1)"
unfoldable pub refusal24 : List ℕ → Check
refusal24 ss = fault_if 24 1 (differ (sum_words ss 3 (state_count ss)) (transition_count ss))

-- the word w is not below a bound
unfoldable pub too_large : List ℕ → (bound w : ℕ) → Bool
too_large ws bound w = leb bound (word ws w)

-- "25: label"
unfoldable pub refusal25 : List ℕ → List ℕ → Check
refusal25 ls ss = fault_from 25 (3 + state_count ss) (3 + state_count ss + transition_count ss) (too_large ss (label_count ls))

-- "26: target"
unfoldable pub refusal26 : List ℕ → Check
refusal26 ss = fault_from 26 (3 + state_count ss + transition_count ss) (3 + state_count ss + 2 * transition_count ss) (too_large ss (state_count ss))

-- ---- the formula's writer: action formulas

-- "31: no action words, or not 1 + 2m"
unfoldable pub refusal31 : List ℕ → Check
refusal31 acts = fault_if 31 0 (eqb (length acts) 0 || differ (length acts) (1 + 2 * size acts))

-- "32: m"
unfoldable pub refusal32 : List ℕ → Check
refusal32 acts = fault_if 32 0 (ltb most_nodes (size acts))

-- "33: kind above 5", in the whole table (decision A11)
unfoldable pub refusal33 : List ℕ → Check
refusal33 acts = fault_from 33 0 (size acts) (λ v. ltb 5 (kind acts v))

-- An operand is not what the rule of its node asks, in any table. `end` is where the tree of the next node ends: "a
-- right-child operand isn't judged if its left tree is unfinished" (decisions A5 to A7)
unfoldable pub wrong_operand : (names_nothing : ℕ → Bool) → (operand : ℕ) → (end : Option ℕ) → OperandRule → Bool
wrong_operand names_nothing o end zero_operand = differ o 0
wrong_operand names_nothing o end right_child = is_not_end o end
wrong_operand names_nothing o end outside_name = names_nothing o
wrong_operand names_nothing o end not_judged = false

-- the operand of node v is wrong; that of a multi-action names a label (decision A4)
unfoldable pub bad_action_operand : List ℕ → List ℕ → ℕ → Bool
bad_action_operand ls acts v =
    wrong_operand (leb (label_count ls)) (operand acts v) (tree_end (action_children acts) (size acts) (suc v))
    (action_shape (action_node acts v)).rule

-- "34: operand or unfinished tree"
unfoldable pub refusal34 : List ℕ → List ℕ → Check
refusal34 ls acts =
    lower_fault (fault_from 34 0 (size acts) (bad_action_operand ls acts))
    (fault_if 34 (size acts) (not (on_row (action_children acts) (size acts) (size acts))))

-- ---- the formula's writer: the formula

-- "41: no formula words, or not 1 + 2n"
unfoldable pub refusal41 : List ℕ → Check
refusal41 f = fault_if 41 0 (eqb (length f) 0 || differ (length f) (1 + 2 * size f))

-- "42: n"
unfoldable pub refusal42 : List ℕ → Check
refusal42 f = fault_if 42 0 (outside 1 most_nodes (size f))

-- "43: kind above 8", in the whole table (decision A11)
unfoldable pub refusal43 : List ℕ → Check
refusal43 f = fault_from 43 0 (size f) (λ v. ltb 8 (kind f v))

-- a is not the first node of one of the trees of a row of m nodes (decision A8)
unfoldable pub names_no_root : (children : ℕ → ℕ) → (m a : ℕ) → Bool
names_no_root children m a = leb m a || not (on_row children m a)

-- of the trees of the action formulas
abbrev pub names_no_tree : List ℕ → ℕ → Bool
names_no_tree acts = names_no_root (action_children acts) (size acts)

-- the operand of node v is wrong; that of a modality names a tree, that of a reference is judged by 45
unfoldable pub bad_formula_operand : (names_no_tree : ℕ → Bool) → List ℕ → ℕ → Bool
bad_formula_operand no_tree f v =
    wrong_operand no_tree (operand f v) (tree_end (formula_children f) (size f) (suc v))
    (formula_shape (formula_node f v)).rule

-- the formula's tree is unfinished, or nodes are left over past its end
unfoldable pub wrong_end : (size : ℕ) → Option ℕ → Check
wrong_end n none = fault 44 n
wrong_end n (some e) = fault_if 44 e (ltb e n)

-- "44: operand of kinds 0 to 7, unfinished tree, or nodes left over": one pool (decision A12)
unfoldable pub refusal44 : (names_no_tree : ℕ → Bool) → List ℕ → Check
refusal44 no_tree f =
    lower_fault (fault_from 44 0 (size f) (bad_formula_operand no_tree f))
    (wrong_end (size f) (tree_end (formula_children f) (size f) 0))

-- node v stands in the tree of node u, below u
unfoldable pub encloses : List ℕ → (u v : ℕ) → Bool
encloses f u v = ltb u v && is_before_end v (tree_end (formula_children f) (size f) u)

-- node v is a reference to something other than an enclosing fixpoint
unfoldable pub wrong_reference : List ℕ → ℕ → Option ℕ → Bool
wrong_reference f v none = false
wrong_reference f v (some u) = not (is_fixpoint (formula_node f u) && encloses f u v)

-- "45: reference" (decision A9)
unfoldable pub refusal45 : List ℕ → Check
refusal45 f = fault_from 45 0 (size f) (λ v. wrong_reference f v (reference_of (formula_node f v)))

-- ---- "Order for a run: 1, 2, then ascending, 60 last": 60 stands in Run

unfoldable pub input_refusal : Input → Check
input_refusal x =
    first_fault
    (refusal11 x.labels ∷ refusal12 x.labels ∷ refusal13 x.labels
    ∷ refusal21 x.system ∷ refusal22 x.system ∷ refusal23 x.system ∷ refusal24 x.system
    ∷ refusal25 x.labels x.system ∷ refusal26 x.system
    ∷ refusal31 x.actions ∷ refusal32 x.actions ∷ refusal33 x.actions ∷ refusal34 x.labels x.actions
    ∷ refusal41 x.formula ∷ refusal42 x.formula ∷ refusal43 x.formula
    ∷ refusal44 (names_no_tree x.actions) x.formula ∷ refusal45 x.formula
    ∷ [])

-- the lengths are those of the game slice and the work slice
unfoldable pub refusal : Input → Room → (game work : ℕ) → Check
refusal x r game work = first_fault (refusal1 r ∷ refusal2 r game work ∷ input_refusal x ∷ [])
