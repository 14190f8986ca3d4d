-- Which nodes are fixpoints, by their kind. Assumes nothing.
use mathlib.Core.Path.{◌≡◌}
use mathlib.Core.Bool.{true, false}
use mathlib.Core.List.{List}
use Prim.Native.Nat.{ℕ, ◌≤◌, ◌<◌}
use native.Mathlib.Omega.{arith}
use Rattle.rules.specs.Table.{size, kind, formula_node}
use Rattle.rules.specs.Formula.{is_fixpoint}
use Rattle.tables.proofs.Decode as decode

-- nodes of kind 6 and 7 are fixpoints, all others are not
pub fixpoint_at : (f : List ℕ) (v : ℕ) → v < size f → 6 ≤ kind f v → kind f v ≤ 7 → is_fixpoint (formula_node f v) ≡ true
fixpoint_at f v h p q = decode.fixpoint_yes f v h p q

pub no_fixpoint_below : (f : List ℕ) (v : ℕ) → v < size f → kind f v ≤ 5 → is_fixpoint (formula_node f v) ≡ false
no_fixpoint_below f v h p = decode.fixpoint_low f v h (omega arith)

pub no_fixpoint_above : (f : List ℕ) (v : ℕ) → v < size f → 8 ≤ kind f v → is_fixpoint (formula_node f v) ≡ false
no_fixpoint_above f v h p = decode.fixpoint_high f v h p

-- a fixpoint is a node of the table
pub fixpoint_inside : (f : List ℕ) (v : ℕ) → is_fixpoint (formula_node f v) ≡ true → v < size f
fixpoint_inside f v t = (decode.fixpoint_kind f v t).0

pub fixpoint_kind : (f : List ℕ) (v : ℕ) → is_fixpoint (formula_node f v) ≡ true → (6 ≤ kind f v) × (kind f v ≤ 7)
fixpoint_kind f v t = let p = decode.fixpoint_kind f v t in (p.1, p.2)
