-- Writing a game as PGSolver text (document 02, #101: "Write finished games so"; "Refused in writing: after 53, 98 for
-- a vertex without successors, then 2 for too short a text slice"). Assumes nothing: these are definitions.
use Rattle.std.specs.Prelude.{ℕ, ◌-◌, Bool, not, List, map, length, eqb}
use Rattle.std.proofs.Math.Option.{none}
use Rattle.rules.specs.declared.Answer.TheVariants.{Refused}
use Rattle.rules.specs.Answers.{Check}
use Rattle.std.specs.declared.result.Result.TheVariants.{Ok, Err}
use Rattle.rules.specs.Lists.{from, once, every}
use Rattle.rules.specs.Answers.{fault_if, and_then}
use Rattle.rules.specs.Game.{vertex_count, owner_in, priority_in, targets_in}
use Rattle.rules.specs.GameRefusal.{game_refusal}
use Rattle.rules.specs.Texts.{Written, text_into}
use Rattle.rules.specs.Pgsolver.{SolverLine, SolverText, spelled}

-- ---- the text of a game

-- "successors, parted by commas, each once, by first appearance"; names are not written
unfoldable pub line_in : List ℕ → ℕ → SolverLine
line_in g v =
    record {
      number = v;
      priority = priority_in g v;
      owner = owner_in g v;
      successors = once eqb (targets_in g v);
      name = none;
    }

-- "the highest vertex number, then each vertex's" line
unfoldable pub text_in : List ℕ → SolverText
text_in g = record { highest = vertex_count g - 1; lines = map (line_in g) (from 0 (vertex_count g)) }

unfoldable pub game_text : List ℕ → List ℕ
game_text g = spelled (text_in g)

-- ---- the answer, and what the lent slice holds afterwards

unfoldable pub has_successor : List ℕ → ℕ → Bool
has_successor g v = not (eqb (length (targets_in g v)) 0)

-- "98 for a vertex without successors" (decision E2: at place 0)
unfoldable pub refusal98 : List ℕ → Check
refusal98 g = fault_if 98 0 (not (every (has_successor g) 0 (vertex_count g)))

-- "after 53, 98": what is refused before the text slice is looked at
unfoldable pub writing_refusal : List ℕ → Check
writing_refusal g = and_then (game_refusal g) (refusal98 g)

-- "then 2 for too short a text slice" (decision E1): one that has fewer bytes than the text
unfoldable pub written_or : Check → List ℕ → List ℕ → Written
written_or (Ok u) g text = text_into (length (game_text g)) (game_text g) text
written_or (Err f) g text = record { answer = Refused f.number f.place; text = text }

-- game g as text, with the text slice as it is at entry
unfoldable pub written_game : List ℕ → (text : List ℕ) → Written
written_game g text = written_or (writing_refusal g) g text
