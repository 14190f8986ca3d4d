-- Listing the equations node by node: what the table shows before a node, and what one step asks and gives. Assumes
-- nothing: these are definitions.
use Rattle.std.specs.Prelude.{◌≡◌, List, ℕ, ◌-◌, ◌≤◌, ◌<◌, length, get_or}
use Rattle.rules.specs.Table.{kind}
use Rattle.rules.specs.Formula.{least, Equation, equations_before, equation_number}
use Rattle.rules.specs.Depth.{least_bit}
use Rattle.modal_equation_system.specs.declared.EquationTable.{EquationTable}
use Rattle.modal_equation_system.specs.System.{link_in, kind_in, body_in, operator_in, Linked}

-- the placeholder, and the entry of an equation that is not there
abbrev pub missing : Equation
missing = record { operator = least; body = 0 }

-- a field of each equation, shown one after the other
abbrev pub Shows : (Equation → ℕ) → List Equation → (ℕ → ℕ) → Type 0
Shows field es shown = (i : ℕ) → i < length es → shown i ≡ field (get_or es i missing)

-- the table shows the nodes before node v, and the equations that begin there, with the placeholder
pub record Listing (f : List ℕ) (v : ℕ) (table : EquationTable) : Type 0 where
  pub count : table.count ≡ equation_number f v
  pub link : Linked f v table
  pub kinds : (u : ℕ) → u < v → kind_in table u ≡ kind f u
  pub body : Shows (λ e. e.body) (equations_before f v) (body_in table)
  pub operator : Shows (λ e. 7 - least_bit e.operator) (equations_before f v) (operator_in table)

-- ---- the link of a node with kind k and operand o, before which the listed equations come

-- what is asked: the numbers fit a word, and a reference's fixpoint has its link
pub record Linkable (table : EquationTable) (k o : ℕ) : Type 0 where
  pub right : 2 ≤ k → k ≤ 3 → o < 4_294_967_296
  pub own : table.count < 4_294_967_296
  pub outer : 8 ≤ k → o < 1_024

pub record LinkBy (table : EquationTable) (k o link : ℕ) : Type 0 where
  pub right : 2 ≤ k → k ≤ 3 → link ≡ o
  pub own : 6 ≤ k → k ≤ 7 → link ≡ table.count
  pub outer : 8 ≤ k → link ≡ link_in table o
