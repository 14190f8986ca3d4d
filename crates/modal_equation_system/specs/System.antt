-- The table of the equations of a formula, and what is read off it. Assumes nothing: these are definitions.
use Rattle.std.specs.Prelude.{◌≡◌, List, [], map, ℕ, suc, ◌-◌, ◌≤◌, ◌<◌, length, eqb}
use Rattle.rules.specs.Lists.{word, one, largest}
use Rattle.rules.specs.Words.{Input, input_of}
use Rattle.rules.specs.Table.{size, kind, operand}
use Rattle.rules.specs.Formula.{equation_count, equation_of, equation_number, formula_tree}
use Rattle.rules.specs.Depth.{references, contribution, reading, Ranking, least_bit}
use Rattle.tables.specs.Good.{GoodFormula}
use Rattle.node_kinds.specs.declared.FormulaKind.TheVariants.{True, Least}
use Rattle.node_kinds.specs.Codes.{formula_code}
use Rattle.modal_equation_system.specs.declared.EquationEntry.{EquationEntry}
use Rattle.modal_equation_system.specs.declared.EquationTable.{EquationTable}

-- an input with this formula: depths and priorities depend on nothing else (law `by_depth_words` of crate trees)
abbrev pub formula_only : List ℕ → Input
formula_only f = input_of [] [] [] f

-- more than every word of the formula: for so many nodes of action formulas it is in order, if it is for any number
-- (law `good_formula`)
unfoldable pub named : List ℕ → ℕ
named f = suc (largest f)

-- the formula is in order, for some number of nodes of action formulas
pub record Good (f : List ℕ) : Type 0 where
  pub formula : GoodFormula (named f) f

-- the entry that is made of zeros
abbrev pub zero_entry : EquationEntry
zero_entry = record { kind = True; body = 0 }

-- the entry of the placeholder
abbrev pub placeholder_entry : EquationEntry
placeholder_entry = record { kind = Least; body = 0 }

-- ---- what the table has: the links of nodes, their kinds, the first body nodes of equations, their operators

abbrev pub link_in : EquationTable → (node : ℕ) → ℕ
link_in t v = word t.links v

abbrev pub kind_in : EquationTable → (node : ℕ) → ℕ
kind_in t v = word (map formula_code t.kinds) v

abbrev pub body_in : EquationTable → (equation : ℕ) → ℕ
body_in t i = word (map (λ e. e.body) t.equations) i

-- the word for the kind of its fixpoint
abbrev pub operator_in : EquationTable → (equation : ℕ) → ℕ
operator_in t i = word (map (λ e. formula_code e.kind) t.equations) i

-- 1 for a least equation
abbrev pub least_in : EquationTable → (equation : ℕ) → ℕ
least_in t i = one (eqb (operator_in t i) 6)

-- ---- what they are

-- the link of node v: its right operand, or the equation that it stands for in a body. (Of a node of another kind
-- anything)
pub record Link (f : List ℕ) (v link : ℕ) : Type 0 where
  pub right : 2 ≤ kind f v → kind f v ≤ 3 → link ≡ operand f v
  pub own : 6 ≤ kind f v → kind f v ≤ 7 → link ≡ equation_number f v
  pub outer : 8 ≤ kind f v → link ≡ equation_number f (operand f v)

-- the nodes before v have their links
abbrev pub Linked : List ℕ → (v : ℕ) (table : EquationTable) → Type 0
Linked f v t = (u : ℕ) → u < v → Link f u (link_in t u)

-- The table of the equations of f: for each node its link and its kind; for each equation the first node of its body,
-- and 1 if it is a least one
pub record Listed (f : List ℕ) (table : EquationTable) : Type 0 where
  pub good : Good f
  pub link : Linked f (size f) table
  pub kinds : (v : ℕ) → v < size f → kind_in table v ≡ kind f v
  pub body : (i : ℕ) → i < equation_count f → body_in table i ≡ (equation_of f i).body
  pub operator : (i : ℕ) → i < equation_count f → least_in table i ≡ least_bit (equation_of f i).operator

-- what the table has of the equations of f besides: for each the word for its kind, and how many there are. Depths and
-- priorities are read without it
pub record Entered (f : List ℕ) (table : EquationTable) : Type 0 where
  pub fixpoint : (i : ℕ) → i < equation_count f → operator_in table i ≡ 7 - least_bit (equation_of f i).operator
  pub count : table.count ≡ equation_count f

-- ---- reading

-- what a reference to j counts, when it is read for t in the body of equation i
unfoldable pub counted : List ℕ → (t i j : ℕ) → ℕ
counted f t i j = contribution f t i j (reading (formula_only f) t j)

-- the largest of these over the references in the subformula of node v
unfoldable pub body_reading : List ℕ → (t i v : ℕ) → ℕ
body_reading f t i v = largest (map (counted f t i) (references (formula_tree (formula_only f) v)))

-- the table is that of a formula with this node and this equation
pub record ListedNode (table : EquationTable) (node equation : ℕ) : Type 0 where
  pub formula : List ℕ
  pub listed : Listed formula table
  pub inside : node < size formula
  pub below : equation < equation_count formula

-- the table is that of a formula with this equation
pub record ListedEquation (table : EquationTable) (equation : ℕ) : Type 0 where
  pub formula : List ℕ
  pub listed : Listed formula table
  pub below : equation < equation_count formula

-- r is the reading of a body, whatever formula the table is of
abbrev pub ReadsBody : (table : EquationTable) (node equation target r : ℕ) → Type 0
ReadsBody t v i target r = (f : List ℕ) → Listed f t → v < size f → i < equation_count f → r ≡ body_reading f target i v

-- r is the reading of an equation, whatever formula the table is of
abbrev pub ReadsEquation : (table : EquationTable) (equation target r : ℕ) → Type 0
ReadsEquation t i target r = (f : List ℕ) → Listed f t → i < equation_count f → r ≡ reading (formula_only f) target i

-- a table that shows the priorities of the first n equations by this ranking, and past them what it showed before
pub record RankedBy (rank : Ranking) (f : List ℕ) (n : ℕ) (before after : List ℕ) : Type 0 where
  pub sized : length after ≡ length before
  pub ranked : (i : ℕ) → i < n → word after i ≡ rank (formula_only f) i
  pub rest : (i : ℕ) → n ≤ i → word after i ≡ word before i
