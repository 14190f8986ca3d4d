-- The line of a vertex, by what a `Vertex` holds. Assumes nothing: these are definitions.
use Rattle.std.specs.Prelude.{ℕ, List, [], ◌∷◌, ◌++◌, eqb}
use Rattle.rules.specs.Lists.{once}
use Rattle.rules.specs.Texts.{decimal}
use Rattle.pgsolver_writer.specs.Successors.{spaced_list}
use Rattle.pgsolver_writer.specs.declared.Vertex.{Vertex}

-- a line: number, priority, owner and successors, each of these once
unfoldable pub line_by : (number priority owner : ℕ) → List ℕ → List ℕ
line_by number priority owner targets =
    decimal number
    ++ ((32 ∷ decimal priority) ++ ((32 ∷ decimal owner) ++ (spaced_list (once eqb targets) ++ (59 ∷ 10 ∷ []))))

abbrev pub line_of : Vertex → List ℕ
line_of v = line_by v.number v.priority v.owner v.targets.words.now
