-- The table of items: for each item number three words that show the item; and the table of their priorities. A run
-- reads nothing else of the formula, a step only the first. Assumes nothing: these are definitions.
use Rattle.std.specs.Prelude.{◌≡◌, ◌⊎◌, List, [], ◌∷◌, ℕ, ◌+◌, ◌≤◌, ◌<◌, length, get_or, set}
use Rattle.player.specs.declared.Player.{Player}
use Rattle.player.specs.declared.Player.TheVariants.{Even, Odd}
use Rattle.rules.specs.Lists.{word}
use Rattle.rules.specs.Words.{Input}
use Rattle.rules.specs.Table.{size}
use Rattle.rules.specs.Actions.{Action, action_tree}
use Rattle.rules.specs.Formula.{Operator, least, greatest, formula_tree, body_tree, first_body_node}
use Rattle.rules.specs.Depth.{Ranking}
use Rattle.rules.specs.Items.{Item, equation, subformula, items, item_number}
use Rattle.rules.specs.Pairs.{item_at, priority}
use Rattle.node_kinds.specs.Codes.{formula_code}
use Rattle.node_kinds.specs.declared.FormulaKind.{FormulaKind}
use Rattle.node_kinds.specs.declared.Shape.{Shape}
use Rattle.compiled.specs.declared.Compiled.{Compiled}
use Rattle.compiled.specs.Tables.{kinds_in, lefts_in, rights_in, priorities_in, classes_in, samples_in}
use Rattle.alike_nodes.specs.Nodes.{FormulaShown}

-- "6 least, 7 greatest"
abbrev pub operator_kind : Operator → ℕ
operator_kind least = 6
operator_kind greatest = 7

-- node r of the action formulas has this tree
abbrev pub ActionAt : Input → Action → ℕ → Type 0
ActionAt x a r = (r < size x.actions) × (action_tree x.labels x.actions r ≡ a)

-- The words that show an item. An equation: kind 6 or 7, and at the left the item number of its body. A subformula:
-- its kind in a body, 0 to 5 or 8; the item numbers of its operands; for a modality at the right a node of its action
-- formula; for a reference at the left its equation
abbrev pub ItemShown : Input → Item → (kind left right : ℕ) → Type 0
ItemShown x (equation e) k l r = (k ≡ operator_kind e.operator) × (l ≡ item_number x (body_tree x e)) × (r ≡ 0)
ItemShown x (subformula f) k l r = FormulaShown (λ g n. n ≡ item_number x g) (ActionAt x) f k l r

-- these words show item q
abbrev pub Entry : Input → (q kind left right : ℕ) → Type 0
Entry x q k l r = ItemShown x (item_at x q) k l r

-- the words that the table has for item q show it
abbrev pub ShownAt : Input → (kinds lefts rights : List ℕ) (q : ℕ) → Type 0
ShownAt x kinds lefts rights q = Entry x q (word kinds q) (word lefts q) (word rights q)

-- the table of all items
pub record ItemTable (x : Input) (kinds lefts rights : List ℕ) : Type 0 where
  pub kinds_room : length (items x) ≤ length kinds
  pub lefts_room : length (items x) ≤ length lefts
  pub rights_room : length (items x) ≤ length rights
  pub entry : (q : ℕ) → q < length (items x) → ShownAt x kinds lefts rights q

-- the table of the items' priorities by a ranking. A pair's priority is that of its item, whatever its state
pub record Ranks (rank : Ranking) (x : Input) (priorities : List ℕ) : Type 0 where
  pub room : length (items x) ≤ length priorities
  pub ranked : (q : ℕ) → word priorities q ≡ priority rank x (0, q)

-- the owner of an item, by its kind
unfoldable pub kind_owner : ℕ → Player
kind_owner k = get_or (Odd ∷ Even ∷ Odd ∷ Even ∷ Odd ∷ Even ∷ Odd ∷ Even ∷ Odd ∷ []) k Odd

-- ---- on the way to the table

-- each body node's word is the item number of its subformula
pub record ItemNumbers (x : Input) (numbers : List ℕ) : Type 0 where
  pub room : size x.formula ≤ length numbers
  pub number : (v : ℕ) → first_body_node x.formula ≤ v → v < size x.formula → word numbers v ≡ item_number x (formula_tree x v)

-- A node gets a number, where `class` stands for all nodes with its tree: the number of `class`, or, if that has none
-- yet (0), the next number, which `class` gets too
abbrev pub NodeNumbered : (before after : List ℕ) (node class next result : ℕ) → Type 0
NodeNumbered before after node class next result =
    ((word before class ≡ 0) × (after ≡ set (set before class next) node next) × (result ≡ next + 1))
    ⊎ ((¬ (word before class ≡ 0)) × (after ≡ set before node (word before class)) × (result ≡ next))

-- the words of the first n items show them
pub record FirstShown (x : Input) (n : ℕ) (kinds lefts rights : List ℕ) : Type 0 where
  pub shown : (q : ℕ) → q < n → ShownAt x kinds lefts rights q

-- ---- in what a run compiles

-- the words of the first n items show them
abbrev pub ShownIn : Input → (n : ℕ) → Compiled → Type 0
ShownIn x n c = FirstShown x n (kinds_in c) (lefts_in c) (rights_in c)

-- only the tables of the items, with their priorities, were written: the others stayed
pub record ItemsOnly (before after : Compiled) : Type 0 where
  pub sized : length (kinds_in after) ≡ length (kinds_in before)
  pub classes : classes_in after ≡ classes_in before
  pub samples : samples_in after ≡ samples_in before

-- each item has a kind
abbrev pub KindsRoom : Compiled → Type 0
KindsRoom c = length (kinds_in c) ≡ 2_048

-- and two operands
pub record Rooms (c : Compiled) : Type 0 where
  pub lefts : length (lefts_in c) ≡ 2_048
  pub rights : length (rights_in c) ≡ 2_048

-- the words that show item q were put
pub record EntryPut (before after : Compiled) (q : ℕ) (w : Shape FormulaKind) : Type 0 where
  pub kinds : kinds_in after ≡ set (kinds_in before) q (formula_code w.kind)
  pub lefts : lefts_in after ≡ set (lefts_in before) q w.left
  pub rights : rights_in after ≡ set (rights_in before) q w.right
  pub kinds_room : KindsRoom before
  pub rooms : Rooms before
  pub only : ItemsOnly before after

-- only the priorities were written
pub record PrioritiesOnly (before after : Compiled) : Type 0 where
  pub items : after.items ≡ before.items
  pub room : length (priorities_in after) ≡ 2_048
  pub only : ItemsOnly before after
