-- What is asked of a node of a table of trees (m, m kinds, m operands), so that its kind, and its operand, can be read.
-- Assumes nothing: these are definitions.
use Rattle.std.specs.Prelude.{ℕ, ◌+◌, ◌<◌, List, length}
use Rattle.rules.specs.Table.{size}

-- the node's kind stands among the words
abbrev pub has_kind : List ℕ → ℕ → Type 0
has_kind ws node = 1 + node < length ws

-- so does its operand
abbrev pub has_operand : List ℕ → ℕ → Type 0
has_operand ws node = 1 + size ws + node < length ws
