-- Nodes with equal trees have one number: the last node that has the tree. A node is shown by three words, its kind
-- and the numbers of its operands, so that two nodes have equal trees exactly if their words are equal. Assumes
-- nothing: these are definitions.
use Rattle.std.specs.Prelude.{◌≡◌, ◌⊎◌, List, ℕ, ◌+◌, ◌≤◌, ◌<◌, length}
use Rattle.std.specs.List.{HoldsAt, AllWithin}
use Rattle.rules.specs.Lists.{word}
use Rattle.rules.specs.Words.{Input}
use Rattle.rules.specs.Table.{size, kind}
use Rattle.rules.specs.Actions.{Action, action_tree, any_action, never_action, multi_action, union, intersection, negation}
use Rattle.rules.specs.Formula.{Formula, truth, falsity, conjunction, disjunction, box, diamond, reference}
use Rattle.rules.specs.Formula.{equation_number, formula_tree}
use Rattle.node_kinds.specs.declared.ActionKind.{ActionKind}
use Rattle.node_kinds.specs.declared.FormulaKind.{FormulaKind}
use Rattle.node_kinds.specs.Codes.{action_code, formula_code}
use Rattle.node_kinds.specs.declared.Shape.{Shape}

-- ---- numbers of nodes

-- node l is the last of the n nodes whose tree is t
pub record Last {A : Type 0} (tree : ℕ → A) (n : ℕ) (t : A) (l : ℕ) : Type 0 where
  pub below : l < n
  pub carries : tree l ≡ t
  pub later : (w : ℕ) → w < n → tree w ≡ t → w ≤ l

-- from node i on each node's number is the last node that has its tree
pub record Numbered {A : Type 0} (tree : ℕ → A) (n i : ℕ) (numbers : List ℕ) : Type 0 where
  pub room : n ≤ length numbers
  pub number : (v : ℕ) → i ≤ v → v < n → Last tree n (tree v) (word numbers v)

-- some node past v has tree t and number l
pub record Later {A : Type 0} (tree : ℕ → A) (n v : ℕ) (numbers : List ℕ) (t : A) (l : ℕ) : Type 0 where
  pub node : ℕ
  pub past : v < node
  pub below : node < n
  pub carries : tree node ≡ t
  pub number : word numbers node ≡ l

-- every node of the action formulas has its number
abbrev pub ActionNumbers : Input → List ℕ → Type 0
ActionNumbers x numbers = Numbered (action_tree x.labels x.actions) (size x.actions) 0 numbers

-- and every node of the formula
abbrev pub FormulaNumbers : Input → List ℕ → Type 0
FormulaNumbers x numbers = Numbered (formula_tree x) (size x.formula) 0 numbers

-- each fixpoint's word is the number of its equation
pub record EquationNumbers (f numbers : List ℕ) : Type 0 where
  pub room : size f ≤ length numbers
  pub number : (v : ℕ) → v < size f → 6 ≤ kind f v → kind f v ≤ 7 → word numbers v ≡ equation_number f v

-- ---- the words that show a tree, given which numbers its operands may have

abbrev pub ActionShown : (Action → ℕ → Type 0) → Action → (kind left right : ℕ) → Type 0
ActionShown Number any_action k l r = (k ≡ 0) × (l ≡ 0) × (r ≡ 0)
ActionShown Number never_action k l r = (k ≡ 1) × (l ≡ 0) × (r ≡ 0)
ActionShown Number (multi_action m) k l r = (k ≡ 2) × (l ≡ m) × (r ≡ 0)
ActionShown Number (union a b) k l r = (k ≡ 3) × Number a l × Number b r
ActionShown Number (intersection a b) k l r = (k ≡ 4) × Number a l × Number b r
ActionShown Number (negation a) k l r = (k ≡ 5) × Number a l × (r ≡ 0)

-- an inner fixpoint is a reference: kind 8. A modality has its operand at the left and its action formula at the right
abbrev pub FormulaShown : (Formula → ℕ → Type 0) → (Action → ℕ → Type 0) → Formula → (kind left right : ℕ) → Type 0
FormulaShown Number OfAction truth k l r = (k ≡ 0) × (l ≡ 0) × (r ≡ 0)
FormulaShown Number OfAction falsity k l r = (k ≡ 1) × (l ≡ 0) × (r ≡ 0)
FormulaShown Number OfAction (conjunction f g) k l r = (k ≡ 2) × Number f l × Number g r
FormulaShown Number OfAction (disjunction f g) k l r = (k ≡ 3) × Number f l × Number g r
FormulaShown Number OfAction (box a f) k l r = (k ≡ 4) × Number f l × OfAction a r
FormulaShown Number OfAction (diamond a f) k l r = (k ≡ 5) × Number f l × OfAction a r
FormulaShown Number OfAction (reference i) k l r = (k ≡ 8) × (l ≡ i) × (r ≡ 0)

-- the shapes that show a tree, by the numbers of the nodes
abbrev pub ActionShows : (ls acts : List ℕ) → Action → Shape ActionKind → Type 0
ActionShows ls acts t s = ActionShown (Last (action_tree ls acts) (size acts)) t (action_code s.kind) s.left s.right

abbrev pub FormulaShows : Input → Formula → Shape FormulaKind → Type 0
FormulaShows x t s =
    FormulaShown (Last (formula_tree x) (size x.formula)) (Last (action_tree x.labels x.actions) (size x.actions)) t
    (formula_code s.kind) s.left s.right

-- the shape of a node of the formula, by the numbers of the nodes past it
abbrev pub NodeShown : Input → (numbers : List ℕ) (v : ℕ) → Shape FormulaKind → Type 0
NodeShown x numbers v s =
    FormulaShown (Later (formula_tree x) (size x.formula) v numbers)
    (Last (action_tree x.labels x.actions) (size x.actions))
    (formula_tree x v) (formula_code s.kind) s.left s.right

-- ---- the numbers of the nodes as they are given

-- r is the number of a node of shape s, given the shapes of the later nodes: the number of the first of these that has
-- the shape, or, if none has it, the node's own
abbrev pub NumberGiven : {K : Type 0} (later : List (Shape K)) (numbers : List ℕ) (node : ℕ) → Shape K → ℕ → Type 0
NumberGiven later numbers node s r =
    ((k : ℕ) × (k < length later) × HoldsAt (λ o. o ≡ s) later k × AllWithin (λ o. ¬ (o ≡ s)) later 0 k
    × (r ≡ word numbers (node + 1 + k)))
    ⊎ (AllWithin (λ o. ¬ (o ≡ s)) later 0 (length later) × (r ≡ node))
