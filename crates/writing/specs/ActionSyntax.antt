-- Action formulas as plain syntax trees, and a row of them written as words (document 01, "Words handed over": "The
-- table is a row of complete trees. A first child is the next node; the operand of 3 and 4 is the right child, just
-- past the left child's tree"). Assumes nothing: these are definitions.
use Rattle.std.specs.Prelude.{◌≡◌, List, [], ◌∷◌, ◌++◌, ℕ, zero, suc, ◌+◌, ◌≤◌, ◌<◌}
use Rattle.std.specs.declared.result.Result.TheVariants.{Ok}
use Rattle.rules.specs.Words.{most_nodes}
use Rattle.rules.specs.Labels.{multiset}
use Rattle.rules.specs.Actions.{Action, any_action, never_action, multi_action, union, intersection, negation}
use Rattle.rules.specs.Refusal.{refusal31, refusal32, refusal33, refusal34}
use Rattle.writing.specs.Nodes.{Node, table_words}

pub data ActionSyntax : Type 0 where
  true_action false_action : ActionSyntax
  label_action : (label : ℕ) → ActionSyntax
  union_action intersection_action : (left right : ActionSyntax) → ActionSyntax
  negation_action : (action : ActionSyntax) → ActionSyntax

-- ---- writing

-- its number of nodes
unfoldable pub action_size : ActionSyntax → ℕ
action_size true_action = 1
action_size false_action = 1
action_size (label_action l) = 1
action_size (union_action a b) = suc (action_size a + action_size b)
action_size (intersection_action a b) = suc (action_size a + action_size b)
action_size (negation_action a) = suc (action_size a)

-- its nodes, the first of them being node v of the table
unfoldable pub write_action : ActionSyntax → (v : ℕ) → List Node
write_action true_action v = (0, 0) ∷ []
write_action false_action v = (1, 0) ∷ []
write_action (label_action l) v = (2, l) ∷ []
write_action (union_action a b) v = (3, suc v + action_size a) ∷ (write_action a (suc v) ++ write_action b (suc v + action_size a))
write_action (intersection_action a b) v = (4, suc v + action_size a) ∷ (write_action a (suc v) ++ write_action b (suc v + action_size a))
write_action (negation_action a) v = (5, 0) ∷ write_action a (suc v)

-- a row of trees, one after the other
unfoldable pub row_size : List ActionSyntax → ℕ
row_size [] = 0
row_size (t ∷ ts) = action_size t + row_size ts

unfoldable pub write_row : List ActionSyntax → (v : ℕ) → List Node
write_row [] v = []
write_row (t ∷ ts) v = write_action t v ++ write_row ts (v + action_size t)

unfoldable pub row_words : List ActionSyntax → List ℕ
row_words row = table_words (write_row row 0)

-- the first node of tree i: the trees before it have as many nodes
unfoldable pub first_node : List ActionSyntax → (i : ℕ) → ℕ
first_node [] i = 0
first_node (t ∷ ts) zero = 0
first_node (t ∷ ts) (suc i) = action_size t + first_node ts i

-- ---- the limits

-- every label that is named is one of the first `labels`
abbrev pub LabelsBelow : (labels : ℕ) → ActionSyntax → Type 0
LabelsBelow labels true_action = Unit {0}
LabelsBelow labels false_action = Unit {0}
LabelsBelow labels (label_action l) = l < labels
LabelsBelow labels (union_action a b) = LabelsBelow labels a × LabelsBelow labels b
LabelsBelow labels (intersection_action a b) = LabelsBelow labels a × LabelsBelow labels b
LabelsBelow labels (negation_action a) = LabelsBelow labels a

abbrev pub RowLabelsBelow : (labels : ℕ) → List ActionSyntax → Type 0
RowLabelsBelow labels [] = Unit {0}
RowLabelsBelow labels (t ∷ ts) = LabelsBelow labels t × RowLabelsBelow labels ts

pub record RowFits (labels : ℕ) (row : List ActionSyntax) : Type 0 where
  pub below : RowLabelsBelow labels row
  pub few : row_size row ≤ most_nodes

-- ---- what the rules say of the words

-- the words of the action formulas are not refused, given those of the labels
pub record ActionsAccepted (ls acts : List ℕ) : Type 0 where
  pub long : refusal31 acts ≡ Ok tt
  pub few : refusal32 acts ≡ Ok tt
  pub kinds : refusal33 acts ≡ Ok tt
  pub operands : refusal34 ls acts ≡ Ok tt

-- the tree that a run goes by: a label stands for its multiset
unfoldable pub read_action : List ℕ → ActionSyntax → Action
read_action ls true_action = any_action
read_action ls false_action = never_action
read_action ls (label_action l) = multi_action (multiset ls l)
read_action ls (union_action a b) = union (read_action ls a) (read_action ls b)
read_action ls (intersection_action a b) = intersection (read_action ls a) (read_action ls b)
read_action ls (negation_action a) = negation (read_action ls a)
