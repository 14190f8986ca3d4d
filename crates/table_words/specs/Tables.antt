-- What a program keeps of a table of trees: where each tree ends, and which nodes begin a tree of the row; and the
-- checks that all tables begin with. Assumes nothing: these are definitions.
use Rattle.std.specs.Prelude.{ℕ, suc, ◌+◌, ◌*◌, ◌≤◌, ◌≡◌, Bool, false, ◌||◌, List, [], ◌∷◌, length, get_or, eqb, ltb}
use Rattle.rules.specs.Answers.{Check}
use Rattle.rules.specs.Words.{most_nodes}
use Rattle.rules.specs.Answers.{fault_if}
use Rattle.rules.specs.Refusal.{fault_from, outside, differ, wrong_operand}
use Rattle.rules.specs.Table.{Shape, size, kind, operand, tree_end, on_row}
use Rattle.tables.specs.Ends.{end_of}

-- the words have the length of their table, which is not too large
abbrev pub Sized : List ℕ → Type 0
Sized ws = (size ws ≤ most_nodes) × (length ws ≡ 1 + 2 * size ws)

-- how many children a node has, where `shapes` says what the rules say of it
abbrev pub children_of : (shapes : List ℕ → ℕ → Shape) → List ℕ → ℕ → ℕ
children_of shapes ws v = (shapes ws v).children

-- the list has the end of each node's tree, and n + 1 at n and at n + 1
abbrev pub Ends : (ℕ → ℕ) → ℕ → List ℕ → Type 0
Ends children n es = (v : ℕ) → v ≤ n + 1 → get_or es v 0 ≡ end_of children n v

-- so it is for some numbers of children
abbrev pub SomeEnds : ℕ → List ℕ → Type 0
SomeEnds n es = (children : ℕ → ℕ) × Ends children n es

-- the list says of each node whether it is the first one of a tree of the row, and at n whether the row's last tree is
-- finished
abbrev pub Firsts : (ℕ → ℕ) → ℕ → List Bool → Type 0
Firsts children n fs = (v : ℕ) → v ≤ n → get_or fs v false ≡ on_row children n v

-- the operand of node v is wrong, for any test that an operand names nothing
abbrev pub bad_in : (shapes : List ℕ → ℕ → Shape) → (unnamed_at : ℕ → Bool) → List ℕ → ℕ → Bool
bad_in shapes unnamed_at ws v =
    wrong_operand unnamed_at (operand ws v) (tree_end (children_of shapes ws) (size ws) (suc v)) (shapes ws v).rule

-- the length, the number of nodes (`fewest` at least) and the kinds (`most` at most), with faults from `number` on
abbrev pub table_checks : (number fewest most : ℕ) → List ℕ → List Check
table_checks number fewest most ws =
    fault_if number 0 (eqb (length ws) 0 || differ (length ws) (1 + 2 * size ws))
    ∷ fault_if (number + 1) 0 (outside fewest most_nodes (size ws))
    ∷ fault_from (number + 2) 0 (size ws) (λ v. ltb most (kind ws v)) ∷ []
