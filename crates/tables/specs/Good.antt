-- What holds of the words of an input that is not refused (theorem `accepted`): the functions that read them ask for
-- it. Assumes nothing: these are statements.
use Rattle.std.specs.Prelude.{◌≡◌, true, List, ℕ, suc, ◌+◌, ◌*◌, ◌≤◌, ◌<◌, length}
use Rattle.rules.specs.Lists.{sum_words}
use Rattle.rules.specs.Words.{Input, most_labels, most_actions, most_states, most_transitions, most_nodes}
use Rattle.rules.specs.Labels.{label_count, action_count, label_at}
use Rattle.rules.specs.System.{state_count, transition_count, initial_state, transition_label, transition_target}
use Rattle.rules.specs.Table.{size, kind, operand, formula_node}
use Rattle.rules.specs.Formula.{is_fixpoint}

pub record GoodLabels (ls : List ℕ) : Type 0 where
  pub sized : length ls ≡ 2 + 2 * action_count ls
  pub few : label_count ls ≤ most_labels
  pub small : action_count ls ≤ most_actions
  pub below : (p : ℕ) → p < action_count ls → label_at ls p < label_count ls
  pub order : (p q : ℕ) → p ≤ q → q < action_count ls → label_at ls p ≤ label_at ls q

-- for l labels
pub record GoodSystem (l : ℕ) (ss : List ℕ) : Type 0 where
  pub sized : length ss ≡ 3 + state_count ss + 2 * transition_count ss
  pub some : 1 ≤ state_count ss
  pub states : state_count ss ≤ most_states
  pub moves : transition_count ss ≤ most_transitions
  pub initial : initial_state ss < state_count ss
  pub total : sum_words ss 3 (state_count ss) ≡ transition_count ss
  pub labels : (t : ℕ) → t < transition_count ss → transition_label ss t < l
  pub targets : (t : ℕ) → t < transition_count ss → transition_target ss t < state_count ss

-- node v of the action formulas, for l labels
pub record GoodActionNode (l : ℕ) (acts : List ℕ) (v : ℕ) : Type 0 where
  pub known : kind acts v ≤ 5
  pub label : 2 ≤ kind acts v → kind acts v ≤ 2 → operand acts v < l
  pub next : 3 ≤ kind acts v → suc v < size acts
  pub right : 3 ≤ kind acts v → kind acts v ≤ 4 → (suc v < operand acts v) × (operand acts v < size acts)

pub record GoodActions (l : ℕ) (acts : List ℕ) : Type 0 where
  pub sized : length acts ≡ 1 + 2 * size acts
  pub few : size acts ≤ most_nodes
  pub nodes : (v : ℕ) → v < size acts → GoodActionNode l acts v

-- node v of the formula, for m nodes of action formulas
pub record GoodFormulaNode (m : ℕ) (f : List ℕ) (v : ℕ) : Type 0 where
  pub known : kind f v ≤ 8
  pub next : 2 ≤ kind f v → kind f v ≤ 7 → suc v < size f
  pub right : 2 ≤ kind f v → kind f v ≤ 3 → (suc v < operand f v) × (operand f v < size f)
  pub action : 4 ≤ kind f v → kind f v ≤ 5 → operand f v < m
  pub refers : 8 ≤ kind f v → (operand f v < v) × (is_fixpoint (formula_node f (operand f v)) ≡ true)

pub record GoodFormula (m : ℕ) (f : List ℕ) : Type 0 where
  pub sized : length f ≡ 1 + 2 * size f
  pub some : 1 ≤ size f
  pub few : size f ≤ most_nodes
  pub nodes : (v : ℕ) → v < size f → GoodFormulaNode m f v

pub record GoodInput (x : Input) : Type 0 where
  pub labels : GoodLabels x.labels
  pub system : GoodSystem (label_count x.labels) x.system
  pub actions : GoodActions (label_count x.labels) x.actions
  pub formula : GoodFormula (size x.actions) x.formula
