-- What the laws of items and pairs speak of besides the rules: the subformulas that the first nodes carry, and all
-- pairs. Assumes nothing: these are definitions.
use Rattle.std.specs.Prelude.{ℕ, zero, suc, ◌-◌, ◌≤◌, ◌<◌, ◌≡◌, List, [], ◌++◌, map, length}
use Rattle.rules.specs.Lists.{from, once}
use Rattle.rules.specs.Words.{Input}
use Rattle.rules.specs.Table.{size}
use Rattle.rules.specs.System.{state_count}
use Rattle.rules.specs.Formula.{Formula, truth, falsity, conjunction, disjunction, box, diamond, reference, equation_count, first_body_node, formula_tree}
use Rattle.rules.specs.Items.{alike, items}
use Rattle.rules.specs.Pairs.{Pair}

-- node v stands in a body
abbrev pub BodyNode : List ℕ → ℕ → Type 0
BodyNode f v = (first_body_node f ≤ v) × (v < size f)

-- some body node has this tree
abbrev pub Carried : Input → Formula → Type 0
Carried x f = (v : ℕ) × BodyNode x.formula v × (formula_tree x v ≡ f)

-- its operands are carried, its reference is to an equation
abbrev pub Parts : Input → Formula → Type 0
Parts x truth = Unit {0}
Parts x falsity = Unit {0}
Parts x (conjunction l r) = Carried x l × Carried x r
Parts x (disjunction l r) = Carried x l × Carried x r
Parts x (box a b) = Carried x b
Parts x (diamond a b) = Carried x b
Parts x (reference i) = i < equation_count x.formula

-- the subformulas of the body nodes before node v, each once, by the lowest node that carries it
unfoldable pub subformulas_before : Input → ℕ → List Formula
subformulas_before x v = once alike (map (formula_tree x) (from (first_body_node x.formula) (v - first_body_node x.formula)))

-- the state and the item of a pair are there
abbrev pub Inside : Input → Pair → Type 0
Inside x p = (p.0 < state_count x.system) × (p.1 < length (items x))

-- the pairs of the first n states with the items from 0 on, `count` of them
unfoldable pub pairs_of_states : (n count : ℕ) → List Pair
pairs_of_states zero count = []
pairs_of_states (suc n) count = pairs_of_states n count ++ map (λ q. (n, q)) (from 0 count)

-- every state with every item
unfoldable pub all_pairs : Input → List Pair
all_pairs x = pairs_of_states (state_count x.system) (length (items x))
