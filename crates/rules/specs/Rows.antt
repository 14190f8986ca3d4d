-- The first nodes of a row's trees, without a search: 0, and the end of each tree that begins at one. Assumes nothing:
-- these are definitions.
use Rattle.std.specs.Prelude.{◌≡◌, true, ◌↔◌, ℕ}
use Rattle.std.proofs.Math.Option.{some}
use Rattle.rules.specs.Table.{tree_end, on_row}

-- Where the row's last tree is finished, its end, the number of nodes, is among them
pub data Root (children : ℕ → ℕ) (n : ℕ) : ℕ → Type 0 where
  first_root : Root children n 0
  next_root : (u e : ℕ) → Root children n u → tree_end children n u ≡ some e → Root children n e

-- `on_row` finds exactly these (theorem `root_row`)
abbrev pub RootsOnRow : (children : ℕ → ℕ) → (n v : ℕ) → Type 0
RootsOnRow children n v = on_row children n v ≡ true ↔ Root children n v
