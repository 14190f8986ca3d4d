-- What the survey of a text promises. Assumes nothing: these are definitions.
use Rattle.std.specs.Prelude.{ℕ, ◌+◌, ◌*◌, ◌≤◌, ◌<◌, min, max, ◌≡◌, true, false, ◌&&◌, List, map, length, eqb}
use Rattle.std.specs.Prelude.{Some, None}
use Rattle.std.specs.declared.option.Option.{Option}
use Rattle.std.proofs.Math.Option.{none, some}
use Rattle.rules.specs.Lists.{Distinct}
use Rattle.rules.specs.Game.{edge_count}
use Rattle.rules.specs.PgsolverParse.{parse}
use Rattle.rules.specs.PgsolverReading.{vertex_of, numbers_of}
use Rattle.pgsolver_scan.specs.declared.VertexLine.{VertexLine}
use Rattle.pgsolver_scan.specs.Told.{saturated}
use Rattle.pgsolver_check.specs.declared.Found.{Found}
use Rattle.pgsolver_check.specs.Lines.{solver_text, lines_in, lines_at, tops_of, ranks_of, in_order}
use Rattle.pgsolver_check.specs.Windows.{Apart, Noted, Again}
use Rattle.pgsolver_check.specs.Numbers.{in_turn, apart}

-- one line more can be counted
pub record Addable (found : Found) (row : VertexLine) : Type 0 where
  pub highest : found.plan.highest < 18_446_744_073_709_551_615
  pub lines : found.lines < 18_446_744_073_709_551_615
  pub listed : found.listed + row.listed < 18_446_744_073_709_551_616

-- a line was added to what was found, and its number noted
pub record Added (found : Found) (row : VertexLine) (found' : Found) (bits bits' : List ℕ) : Type 0 where
  pub header : found'.plan.highest ≡ found.plan.highest
  pub begun : found'.plan.first ≡ found.plan.first
  pub many : found'.lines ≡ found.lines + 1
  pub tops : found'.top ≡ max found.top (max row.number row.largest)
  pub ranks : found'.rank ≡ max found.rank row.priority
  pub lists : found'.listed ≡ found.listed + min row.listed (found.plan.highest + 1)
  pub order : apart found'.plan.numbering ≡ true → in_turn found'.plan.numbering
      ≡ (in_turn found.plan.numbering && eqb row.number found.lines)
  pub new : apart found'.plan.numbering ≡ true → (apart found.plan.numbering ≡ true) × Noted 0 row.number bits bits'
  pub again : apart found'.plan.numbering ≡ false → apart found.plan.numbering ≡ true → Again 0 row.number bits

-- a text with the form, surveyed
pub record Seen (text : List ℕ) (found : Found) : Type 0 where
  pub says : parse text ≡ some (solver_text text)
  pub header : found.plan.highest ≡ saturated (solver_text text).highest
  pub within : found.plan.first ≤ length text
  pub lines : lines_at text found.plan.first ≡ some (lines_in text)
  pub many : found.lines ≡ length (lines_in text)
  pub few : 2 * found.lines ≤ length text
  pub tops : found.top ≡ saturated (tops_of (lines_in text))
  pub ranks : found.rank ≡ saturated (ranks_of (lines_in text))
  -- where every number is a vertex, there are no more edges
  pub enough : tops_of (lines_in text) ≤ found.plan.highest → found.plan.highest < 18_446_744_073_709_551_610
      → edge_count (map vertex_of (lines_in text)) ≤ found.listed
  pub order : apart found.plan.numbering ≡ true → in_turn found.plan.numbering ≡ in_order 0 (lines_in text)
  pub new : apart found.plan.numbering ≡ true → Apart 0 (numbers_of (lines_in text))
  pub again : apart found.plan.numbering ≡ false → ¬ Distinct (numbers_of (lines_in text))

-- a text has the form and was surveyed, or does not have it
abbrev pub ToldSurvey : Option Found → List ℕ → Type 0
ToldSurvey (Some found) text = Seen text found
ToldSurvey None text = parse text ≡ none
