-- Pairs of a state and an item number: owner, priority and targets (document 01, "One step", "Pairs"), and the
-- transitions behind an edge (document 02, #102). Only this module looks into items. Assumes nothing: these are
-- definitions.
use Rattle.std.specs.Prelude.{ℕ, Bool, cond, ◌&&◌, List, [], ◌∷◌, map, get_or, eqb, ltb}
use Rattle.player.specs.declared.Player.{Player}
use Rattle.player.specs.declared.Player.TheVariants.{Even, Odd}
use Rattle.rules.specs.Lists.{filter, occurrences, once}
use Rattle.rules.specs.Words.{Input}
use Rattle.rules.specs.Labels.{multiset}
use Rattle.rules.specs.System.{initial_state, transition_label, transition_target, transitions}
use Rattle.rules.specs.Actions.{Action, matches}
use Rattle.rules.specs.Formula.{Operator, least, greatest, equation_count, Formula, truth, falsity, conjunction, disjunction, box, diamond, reference, body_tree}
use Rattle.rules.specs.Depth.{Ranking}
use Rattle.rules.specs.Items.{Item, equation, subformula, items, item_number}

-- state and item number
abbrev pub Pair : Type 0
Pair = ℕ × ℕ

unfoldable pub same_pair : Pair → Pair → Bool
same_pair p q = eqb p.0 q.0 && eqb p.1 q.1

-- "Vertex 0 is (initial state, equation 0)"
abbrev pub initial_pair : Input → Pair
initial_pair x = (initial_state x.system, 0)

-- item q. The default is never used for a pair whose item is one of the items (theorem `targets_inside`)
unfoldable pub item_at : Input → ℕ → Item
item_at x q = get_or (items x) q (subformula truth)

-- ---- owners: "least Odd, greatest Even", "True: Odd. False: Even", "And: Odd. Or: Even", "Reference: Odd", "Box: Odd.
-- Diamond: Even"

unfoldable pub operator_owner : Operator → Player
operator_owner least = Odd
operator_owner greatest = Even

unfoldable pub formula_owner : Formula → Player
formula_owner truth = Odd
formula_owner falsity = Even
formula_owner (conjunction l r) = Odd
formula_owner (disjunction l r) = Even
formula_owner (box a b) = Odd
formula_owner (diamond a b) = Even
formula_owner (reference i) = Odd

unfoldable pub item_owner : Item → Player
item_owner (equation e) = operator_owner e.operator
item_owner (subformula f) = formula_owner f

unfoldable pub owner : Input → Pair → Player
owner x p = item_owner (item_at x p.1)

-- ---- priorities: an equation's by the ranking; "Priority is 0 where not said"

unfoldable pub priority : Ranking → Input → Pair → ℕ
priority rank x p = let ranked = rank x p.1 in cond (ltb p.1 (equation_count x.formula)) ranked 0

-- ---- targets

-- "each matching transition in order": the numbers of the state's transitions whose label has a multiset that matches
unfoldable pub matching_transitions : Input → Action → (state : ℕ) → List ℕ
matching_transitions x a s =
    filter (λ t. matches (multiset x.labels (transition_label x.system t)) a) (transitions x.system s)

-- "For each matching transition in order, an edge to (target state, operand), once per target"
unfoldable pub successors : Input → Action → ℕ → List ℕ
successors x a s = once eqb (map (transition_target x.system) (matching_transitions x a s))

unfoldable pub formula_targets : Input → ℕ → Formula → List Pair
formula_targets x s truth = []
formula_targets x s falsity = []
formula_targets x s (conjunction l r) = (s, item_number x l) ∷ (s, item_number x r) ∷ []
formula_targets x s (disjunction l r) = (s, item_number x l) ∷ (s, item_number x r) ∷ []
formula_targets x s (box a b) = map (λ t. (t, item_number x b)) (successors x a s)
formula_targets x s (diamond a b) = map (λ t. (t, item_number x b)) (successors x a s)
formula_targets x s (reference i) = (s, i) ∷ []

unfoldable pub item_targets : Input → ℕ → Item → List Pair
item_targets x s (equation e) = (s, item_number x (body_tree x e)) ∷ []
item_targets x s (subformula f) = formula_targets x s f

-- "A pair's targets are those listed above, in order; all but box and diamond keep the state"
unfoldable pub targets : Input → Pair → List Pair
targets x p = item_targets x p.0 (item_at x p.1)

-- ---- transitions behind an edge (document 02, #102)

-- the matching transitions of a pair's modality; a pair whose item is no box and no diamond has none
unfoldable pub formula_transitions : Input → ℕ → Formula → List ℕ
formula_transitions x s truth = []
formula_transitions x s falsity = []
formula_transitions x s (conjunction l r) = []
formula_transitions x s (disjunction l r) = []
formula_transitions x s (box a b) = matching_transitions x a s
formula_transitions x s (diamond a b) = matching_transitions x a s
formula_transitions x s (reference i) = []

unfoldable pub item_transitions : Input → ℕ → Item → List ℕ
item_transitions x s (equation e) = []
item_transitions x s (subformula f) = formula_transitions x s f

unfoldable pub modal_transitions : Input → Pair → List ℕ
modal_transitions x p = item_transitions x p.0 (item_at x p.1)

-- how many of the transitions ts lead to state s
abbrev pub leading_to : Input → List ℕ → ℕ → ℕ
leading_to x ts s = occurrences eqb s (map (transition_target x.system) ts)

-- "each target's count of matching transitions": how many of those of p lead to the state of q
unfoldable pub transitions_behind : Input → Pair → Pair → ℕ
transitions_behind x p q = leading_to x (modal_transitions x p) q.0
