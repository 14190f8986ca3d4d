-- Nodes carried to another place of the table, as the program does it: operands that are nodes of the table move, all
-- others stay. Assumes nothing: these are definitions.
use Rattle.std.specs.Prelude.{ℕ, ◌+◌, ◌-◌, Bool, true, false, cond, ◌&&◌, [], ◌∷◌, get_or, leb, ltb}
use Rattle.writing.specs.Nodes.{Node}

-- the operand is a node of the table: of "and", "or" and a reference
unfoldable pub names_node : (kind : ℕ) → Bool
names_node k = get_or (false ∷ false ∷ true ∷ true ∷ false ∷ false ∷ false ∷ false ∷ true ∷ []) k false

unfoldable pub moved_operand : (ℕ → ℕ) → (kind operand : ℕ) → ℕ
moved_operand place k o = cond (names_node k) (place o) o

unfoldable pub moved_node : (ℕ → ℕ) → Node → Node
moved_node place n = (n.0, moved_operand place n.0 n.1)

-- the numbers from low up to high go to target and on
unfoldable pub carried : (low high target : ℕ) → ℕ → ℕ
carried low high target o = cond (leb low o && ltb o high) (o - low + target) o
