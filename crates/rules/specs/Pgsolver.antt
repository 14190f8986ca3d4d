-- Games as PGSolver text (document 02, #101: "the highest vertex number, then each vertex's number, priority, owner and
-- successors, parted by commas"). What a text says, how that is spelled, and when a text has the form: in at most one
-- way (theorem `form_once`). Assumes nothing: these are definitions.
use Rattle.std.specs.Prelude.{ℕ, ◌≤◌, ◌≡◌, List, [], ◌∷◌, ◌++◌, length}
use Rattle.std.proofs.Math.Option.{Option, none, some}
use Rattle.rules.specs.Lists.{In}
use Rattle.rules.specs.Texts.{decimal}

-- what the line of a vertex says
pub record SolverLine : Type 0 where
  pub number : ℕ
  pub priority : ℕ
  pub owner : ℕ
  pub successors : List ℕ
  pub name : Option (List ℕ)

-- what a text says: the highest vertex number, and its lines in their order
pub record SolverText : Type 0 where
  pub highest : ℕ
  pub lines : List SolverLine

-- ---- how it is spelled: "single spaces", "a newline ends each line"

-- p a r i t y and a space
unfoldable pub parity_word : List ℕ
parity_word = 112 ∷ 97 ∷ 114 ∷ 105 ∷ 116 ∷ 121 ∷ 32 ∷ []

-- "`parity 2;`"
unfoldable pub header_text : ℕ → List ℕ
header_text h = parity_word ++ (decimal h ++ (59 ∷ 10 ∷ []))

-- a comma and a number, for each
unfoldable pub comma_text : List ℕ → List ℕ
comma_text [] = []
comma_text (n ∷ ns) = 44 ∷ (decimal n ++ comma_text ns)

-- "parted by commas" (decision E6)
unfoldable pub list_text : List ℕ → List ℕ
list_text [] = []
list_text (n ∷ ns) = decimal n ++ comma_text ns

-- "a name in double quotes", where there is one, with a space before it (decision E5)
unfoldable pub name_text : Option (List ℕ) → List ℕ
name_text none = []
name_text (some cs) = 32 ∷ 34 ∷ (cs ++ (34 ∷ []))

-- "`0 0 0 1;`": number, priority, owner and successors
unfoldable pub line_text : SolverLine → List ℕ
line_text l =
    decimal l.number ++ (32 ∷ (decimal l.priority ++ (32 ∷ (decimal l.owner ++ (32 ∷ (list_text l.successors
    ++ (name_text l.name ++ (59 ∷ 10 ∷ []))))))))

unfoldable pub lines_text : List SolverLine → List ℕ
lines_text [] = []
lines_text (l ∷ ls) = line_text l ++ lines_text ls

unfoldable pub spelled : SolverText → List ℕ
spelled t = header_text t.highest ++ lines_text t.lines

-- ---- when a text has the form

-- "itself without quote or newline" (decision E12)
abbrev pub PlainName : Option (List ℕ) → Type 0
PlainName none = Unit {0}
PlainName (some cs) = (¬ In 34 cs) × (¬ In 10 cs)

-- "owners 0 or 1, at least one successor"
pub record ProperLine (l : SolverLine) : Type 0 where
  pub owned : l.owner ≤ 1
  pub leads : 1 ≤ length l.successors
  pub plain : PlainName l.name

-- the bytes have the form, and say t; "vertex lines in any order"
pub record HasForm (bytes : List ℕ) (t : SolverText) : Type 0 where
  pub spelling : bytes ≡ spelled t
  pub proper : (l : SolverLine) → In l t.lines → ProperLine l
