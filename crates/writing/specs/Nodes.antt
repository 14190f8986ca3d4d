-- A table of nodes as words (document 01, "Words handed over": "m kinds, m operands"). Assumes nothing: these are
-- definitions.
use Rattle.std.specs.Prelude.{◌≡◌, List, [], ◌∷◌, ◌++◌, map, ℕ, suc, length}
use Rattle.rules.specs.Table.{kind, operand}

-- a node: its kind and its operand
abbrev pub Node : Type 0
Node = ℕ × ℕ

-- how many nodes, their kinds, their operands
unfoldable pub table_words : List Node → List ℕ
table_words nodes = length nodes ∷ (map (λ (n : Node). n.0) nodes ++ map (λ (n : Node). n.1) nodes)

-- these nodes stand in the words from node v on
abbrev pub Holds : List Node → List ℕ → ℕ → Type 0
Holds [] ws v = Unit {0}
Holds (n ∷ ns) ws v = (kind ws v ≡ n.0) × (operand ws v ≡ n.1) × Holds ns ws (suc v)
