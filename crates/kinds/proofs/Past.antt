-- A word past the last kind is read as a reference (`FormulaKind::of`), and what is said of kinds by their words says
-- of it the same as of a reference. So nothing is lost where a kind is asked for in place of any word. Assumes nothing.
use Rattle.std.proofs.Common.{◌≡◌, ℕ, ◌/◌, ◌≤◌, ◌<◌, eqb, arith}
use Rattle.std.specs.Prelude.{min}
use Rattle.item_table.specs.Entries.{kind_owner}

pub owner_past : (w : ℕ) → kind_owner (min w 8) ≡ kind_owner w
unfolding kind_owner
owner_past w = grind arith

pub modality_past : (w : ℕ) → eqb (min w 8 / 2) 2 ≡ eqb (w / 2) 2
modality_past w = grind arith

pub operands_past : (w n : ℕ) → (min w 8 < 4 → n ≡ 2) × (4 ≤ min w 8 → n ≡ 1) → (w < 4 → n ≡ 2) × (4 ≤ w → n ≡ 1)
operands_past w n (few, more) = (λ h. few (omega arith), λ h. more (omega arith))
