-- What holds of a regular table that is not refused (theorem `good_regulars`): the functions that read it ask for it.
-- Assumes nothing: these are statements.
use Rattle.std.specs.Prelude.{◌≡◌, List, ℕ, suc, ◌+◌, ◌*◌, ◌≤◌, ◌<◌, length}
use Rattle.std.specs.declared.result.Result.TheVariants.{Ok}
use Rattle.rules.specs.Words.{most_nodes}
use Rattle.rules.specs.Table.{size, kind, operand}
use Rattle.rules.specs.Refusal.{refusal43, refusal44, refusal45}
use Rattle.tables.specs.Good.{GoodFormula}
use Rattle.regular_rules.specs.Refusals.{names_no_regular}

pub record GoodRegularNode (regs : List ℕ) (v : ℕ) : Type 0 where
  pub known : kind regs v ≤ 4
  pub next : 1 ≤ kind regs v → suc v < size regs
  pub right : 1 ≤ kind regs v → kind regs v ≤ 2 → (suc v < operand regs v) × (operand regs v < size regs)

pub record GoodRegulars (regs : List ℕ) : Type 0 where
  pub sized : length regs ≡ 1 + 2 * size regs
  pub few : size regs ≤ most_nodes
  pub nodes : (v : ℕ) → v < size regs → GoodRegularNode regs v

-- regular formulas and a formula over them that were not refused
pub record GoodTables (regs f : List ℕ) : Type 0 where
  pub regulars : GoodRegulars regs
  pub formula : GoodFormula (size regs) f
  pub kinds : refusal43 f ≡ Ok tt
  pub operands : refusal44 (names_no_regular regs) f ≡ Ok tt
  pub references : refusal45 f ≡ Ok tt
