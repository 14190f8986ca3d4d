-- What is proved of the table that is written, and what users rely on. Assumes nothing: these are statements.
use Rattle.std.specs.Prelude.{◌≡◌, List, ℕ, ◌≤◌, length, take, drop, replicate, ◌-◌}
use Rattle.std.specs.declared.result.Result.TheVariants.{Ok}
use Rattle.rules.specs.declared.Answer.{Answer}
use Rattle.rules.specs.declared.Answer.TheVariants.{Done, Cut, Refused}
use Rattle.rules.specs.Refusal.{refusal11, refusal12, refusal13}
use Rattle.writing.specs.ActionSyntax.{ActionsAccepted}
use Rattle.writing.specs.FormulaSyntax.{FormulaAccepted}
use Rattle.regular_rules.specs.Regular.{Regular, action, sequence, choice, star, plus}
use Rattle.writing.specs.FormulaReading.{formula_syntax, itself}
use Rattle.regular_rules.specs.Refusals.{RegularInput, table_length}
use Rattle.regular_rules.specs.Faulty.{FaultyExpansion, FirstFaultyExpansion}
use Rattle.regular_rules.specs.Expansion.{expanded}

-- what every leaf carries is fit
abbrev pub Leaves : (ℕ → Type 0) → Regular → Type 0
Leaves fit (action a) = fit a
Leaves fit (sequence r s) = Leaves fit r × Leaves fit s
Leaves fit (choice r s) = Leaves fit r × Leaves fit s
Leaves fit (star r) = Leaves fit r
Leaves fit (plus r) = Leaves fit r

-- "01's checks accept the table written", for the labels and the action formulas handed over; read back it is the
-- expanded formula
pub record Accepts (x : RegularInput) (written : List ℕ) : Type 0 where
  pub labels : (refusal11 x.labels ≡ Ok tt) × (refusal12 x.labels ≡ Ok tt) × (refusal13 x.labels ≡ Ok tt)
  pub actions : ActionsAccepted x.labels x.actions
  pub formula : FormulaAccepted x.actions written
  pub read_back : formula_syntax itself written ≡ expanded x

-- What an answer says of the slice, `out` before and `out'` after the call: Done (words written, 0, 0) where there is
-- no fault, the words are a table that 01 accepts, zeros stand past them; or a fault, the first of all, and nothing is
-- altered. There is no fault or a first one (theorem `expansion_none_or_first`)
abbrev pub ExpansionDemand : RegularInput → (out : List ℕ) → Answer → (out' : List ℕ) → Type 0
ExpansionDemand x out (Done w zero_1 zero_2) out' =
    ((n p : ℕ) → ¬ FaultyExpansion x (length out) n p)
    × (zero_1 ≡ 0) × (zero_2 ≡ 0) × (length out' ≡ table_length) × (w ≤ table_length)
    × Accepts x (take w out') × (drop w out' ≡ replicate (table_length - w) 0)
ExpansionDemand x out (Cut w v e) out' = ⊥
ExpansionDemand x out (Refused n p) out' = FirstFaultyExpansion x (length out) n p × (out' ≡ out)
