-- The checks of the regular formulas as the code makes them, with the numbers of those of the action formulas. Assumes
-- nothing: this is a definition.
use Rattle.std.specs.Prelude.{ℕ, not, List, [], ◌∷◌, ◌++◌}
use Rattle.rules.specs.Answers.{Check, fault_if}
use Rattle.rules.specs.Table.{size, regular_children, on_row}
use Rattle.rules.specs.Refusal.{fault_from}
use Rattle.table_words.specs.Tables.{table_checks}
use Rattle.regular_rules.specs.Refusals.{bad_regular_operand}

abbrev pub regular_checks : (acts regs : List ℕ) → List Check
regular_checks acts regs =
    table_checks 31 0 4 regs
    ++ (fault_from 34 0 (size regs) (bad_regular_operand acts regs)
    ∷ fault_if 34 (size regs) (not (on_row (regular_children regs) (size regs) (size regs)))
    ∷ [])
