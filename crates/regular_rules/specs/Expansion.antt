-- What the expander answers, and what the slice lent to it holds afterwards (document 02, #104: "keeps the action table
-- and writes a formula table of 01 into 2,049 words"). Assumes nothing: these are definitions.
use Rattle.std.specs.Prelude.{ℕ, List, length}
use Rattle.std.specs.declared.result.Result.TheVariants.{Ok, Err}
use Rattle.rules.specs.declared.Answer.{Answer}
use Rattle.rules.specs.declared.Answer.TheVariants.{Done, Refused}
use Rattle.rules.specs.Answers.{Check}
use Rattle.rules.specs.Game.{padded}
use Rattle.writing.specs.FormulaSyntax.{FormulaOver, words_over}
use Rattle.regular_rules.specs.Regular.{Regular, regular_tree}
use Rattle.writing.specs.FormulaReading.{formula_syntax, itself}
use Rattle.regular_rules.specs.Expand.{expand}
use Rattle.regular_rules.specs.Refusals.{RegularInput, expansion_refusal}

-- the formula handed over, and the expanded one
unfoldable pub regular_formula : RegularInput → FormulaOver Regular
regular_formula x = formula_syntax (regular_tree x.regulars) x.formula

unfoldable pub expanded : RegularInput → FormulaOver ℕ
expanded x = expand (regular_formula x)

-- the words that it is written as
unfoldable pub expanded_words : RegularInput → List ℕ
expanded_words x = words_over itself (expanded x)

-- the answer, and the slice as the call leaves it
pub record Expansion : Type 0 where
  pub answer : Answer
  pub out : List ℕ

-- Done (words written, 0, 0), zeros past them; "A refusal alters nothing"
unfoldable pub expanded_or : Check → (words out : List ℕ) → Expansion
expanded_or (Ok u) words out = record { answer = Done (length words) 0 0; out = padded (length out) words }
expanded_or (Err f) words out = record { answer = Refused f.number f.place; out = out }

-- the call on x, with the slice as it is at entry
unfoldable pub expansion : RegularInput → (out : List ℕ) → Expansion
expansion x out = expanded_or (expansion_refusal x (length out)) (expanded_words x) out
