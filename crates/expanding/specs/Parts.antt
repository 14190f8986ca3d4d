-- The table that is written from right to left: what a function leaves of it as it was, the node that it puts, the
-- nodes that it carries; and a formula that stands in a part of it. Assumes nothing: these are definitions.
use Rattle.std.specs.Prelude.{◌≡◌, ℕ, suc, ◌+◌, ◌-◌, ◌≤◌, ◌<◌, List, [], ◌∷◌, length}
use Rattle.rules.specs.Lists.{In}
use Rattle.rules.specs.Words.{most_nodes}
use Rattle.rules.specs.Table.{size, kind, operand}
use Rattle.writing.specs.Nodes.{Holds}
use Rattle.writing.specs.FormulaSyntax.{FormulaOver, formula_size, write_over, Fits}
use Rattle.writing.specs.FormulaReading.{itself}
use Rattle.regular_rules.specs.Refusals.{table_length}
use Rattle.regular_rules.specs.Moving.{moved_operand, carried}
use Rattle.expanding.specs.declared.table.Part.{Part}
use Rattle.expanding.specs.declared.table.Renumbering.{Renumbering}

-- the slice lent, with the number of nodes in its first word
abbrev pub Roomy : List ℕ → Type 0
Roomy ws = (length ws ≡ table_length) × (size ws ≤ most_nodes)

-- the part lies in its table
pub record Within (p : Part) (ws : List ℕ) : Type 0 where
  pub roomy : Roomy ws
  pub order : p.start ≤ p.end
  pub inside : p.end ≤ size ws

abbrev pub part_size : Part → ℕ
part_size p = p.end - p.start

-- ---- nodes

-- node u is as it was
abbrev pub SameNode : (ws vs : List ℕ) → ℕ → Type 0
SameNode ws vs u = (kind vs u ≡ kind ws u) × (operand vs u ≡ operand ws u)

-- the slice is as long, there are as many nodes as there were, and those from e on are as they were
pub record SameFrom (e : ℕ) (ws vs : List ℕ) : Type 0 where
  pub long : length vs ≡ length ws
  pub few : size vs ≡ size ws
  pub kept : (u : ℕ) → e ≤ u → u < size ws → SameNode ws vs u

-- node v became (k, o), all others are as they were
pub record Put (v k o : ℕ) (ws vs : List ℕ) : Type 0 where
  pub after : SameFrom (suc v) ws vs
  pub before : (u : ℕ) → u < v → SameNode ws vs u
  pub has_kind : kind vs v ≡ k
  pub has_operand : operand vs v ≡ o

-- a node (k, o) was put just before a part, which became this one
pub record Extended (p : Part) (k o : ℕ) (ws vs : List ℕ) (q : Part) : Type 0 where
  pub rest : SameFrom p.start ws vs
  pub begins : suc q.start ≡ p.start
  pub ends : q.end ≡ p.end
  pub has_kind : kind vs q.start ≡ k
  pub has_operand : operand vs q.start ≡ o

-- what becomes of an operand, where it is a node of the table
abbrev pub renumbered : Renumbering → ℕ → ℕ
renumbered r = carried r.low r.high r.target

-- of the nodes of a part so many are carried to those from `to` on; what stands past them is as it was
pub record Carried (p : Part) (to count : ℕ) (r : Renumbering) (ws vs : List ℕ) : Type 0 where
  pub rest : SameFrom (to + count) ws vs
  pub kinds : (i : ℕ) → i < count → kind vs (to + i) ≡ kind ws (p.start + i)
  pub operands : (i : ℕ) → i < count
      → operand vs (to + i) ≡ moved_operand (renumbered r) (kind ws (p.start + i)) (operand ws (p.start + i))

-- ---- formulas

-- any action formula will do
abbrev pub Any : ℕ → Type 0
Any a = Unit {0}

-- a formula stands in a part, where the fixpoints around it, the nearest first, have these numbers
pub record Stands (t : FormulaOver ℕ) (around : List ℕ) (p : Part) (ws : List ℕ) : Type 0 where
  pub ends : p.start + formula_size t ≡ p.end
  pub fits : Fits Any (length around) t
  pub nodes : Holds (write_over itself t around p.start) ws p.start

-- a fixpoint that is not written yet has a number past all nodes
abbrev pub Unwritten : List ℕ → Type 0
Unwritten [] = Unit {0}
Unwritten (x ∷ xs) = (most_nodes ≤ x) × Unwritten xs

-- a part was copied up to node `end`: the formula that stands in it stands in the copy too
pub record Copied (p : Part) (end : ℕ) (ws vs : List ℕ) (q : Part) : Type 0 where
  pub rest : SameFrom end ws vs
  pub ends : q.end ≡ end
  pub begins : q.start + part_size p ≡ end
  pub stands : (t : FormulaOver ℕ) (around : List ℕ) → Unwritten around → Stands t around p ws → Stands t around q vs

-- the nearest fixpoint around the formula that stands in a part has its node now, where it had a mark
pub record Bound (p : Part) (mark fixpoint : ℕ) (ws vs : List ℕ) : Type 0 where
  pub rest : SameFrom p.end ws vs
  pub stands : (t : FormulaOver ℕ) (around : List ℕ) → (¬ In mark around) → Stands t (mark ∷ around) p ws
      → Stands t (fixpoint ∷ around) p vs
