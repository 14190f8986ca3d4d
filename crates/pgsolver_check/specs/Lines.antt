-- The lines of a text, as the passes over it speak of them. Assumes nothing: these are definitions.
use Rattle.std.specs.Prelude.{ℕ, suc, ◌<◌, ◌≤◌, max, ◌≡◌, Bool, true, ◌&&◌, List, [], ◌∷◌, map, length, eqb}
use Rattle.std.proofs.Math.Option.{Option, none, some}
use Rattle.rules.specs.Lists.{largest}
use Rattle.rules.specs.Words.{most_vertices}
use Rattle.rules.specs.Pgsolver.{SolverLine, SolverText}
use Rattle.rules.specs.TextReading.{front, read_field}
use Rattle.rules.specs.PgsolverParse.{read_list, read_lines, parse}
use Rattle.pgsolver_scan.specs.Told.{since}

-- what a text says; no lines where it does not have the form
unfoldable pub text_or : Option SolverText → SolverText
text_or none = record { highest = 0; lines = [] }
text_or (some t) = t

unfoldable pub solver_text : List ℕ → SolverText
solver_text text = text_or (parse text)

abbrev pub lines_in : List ℕ → List SolverLine
lines_in text = (solver_text text).lines

-- the lines from a place on
unfoldable pub lines_at : List ℕ → ℕ → Option (List SolverLine)
lines_at text place = read_lines (length (since text place)) (since text place)

-- the same; none where a line does not have the form
unfoldable pub or_none : Option (List SolverLine) → List SolverLine
or_none none = []
or_none (some ls) = ls

unfoldable pub lines_from : List ℕ → ℕ → List SolverLine
lines_from text place = or_none (lines_at text place)

-- ---- what is told of lines

-- the highest number on a line: its own or a successor's
unfoldable pub top_of : SolverLine → ℕ
top_of l = max l.number (largest l.successors)

-- of all lines: the highest number and the highest priority
unfoldable pub tops_of : List SolverLine → ℕ
tops_of ls = largest (map top_of ls)

unfoldable pub ranks_of : List SolverLine → ℕ
ranks_of ls = largest (map (λ l. l.priority) ls)

-- their numbers are v, v + 1, ..
unfoldable pub in_order : ℕ → List SolverLine → Bool
in_order v [] = true
in_order v (l ∷ ls) = eqb l.number v && in_order (suc v) ls

-- all lines from the first on have the form, and their numbers are not saturated
pub record Readable (text : List ℕ) (first : ℕ) : Type 0 where
  pub within : first ≤ length text
  pub lines : lines_at text first ≡ some (lines_from text first)
  pub exact : tops_of (lines_from text first) < 18_446_744_073_709_551_610

-- the same, of lines whose numbers are vertices and whose priorities fit 32 bits
pub record Narrow (text : List ℕ) (first : ℕ) : Type 0 where
  pub readable : Readable text first
  pub low : tops_of (lines_from text first) < most_vertices
  pub ranks : ranks_of (lines_from text first) < 4_294_967_296

-- priority, owner and successors of a line stand at the front of these bytes, one after the other, and the end of the
-- line behind them
pub record Body (bytes : List ℕ) (line : SolverLine) : Type 0 where
  pub ranked : List ℕ
  pub owned : List ℕ
  pub listed : List ℕ
  pub priority : read_field 32 bytes ≡ some (front line.priority ranked)
  pub owner : read_field 32 ranked ≡ some (front line.owner owned)
  pub successors : read_list owned ≡ some (front line.successors listed)
  pub small : line.owner ≤ 1
  pub ended : 1 ≤ length listed
