-- The successors of a line, number by number. Assumes nothing: these are definitions.
use Rattle.std.specs.Prelude.{ℕ, ◌≤◌, ◌<◌, ◌≡◌, List, [], ◌∷◌, length}
use Rattle.std.specs.Prelude.{Some, None}
use Rattle.std.specs.declared.option.Option.{Option as Answer}
use Rattle.std.proofs.Math.Option.{Option, none, some}
use Rattle.rules.specs.Words.{most_vertices}
use Rattle.rules.specs.Lists.{In}
use Rattle.rules.specs.TextReading.{Front, front}
use Rattle.rules.specs.PgsolverParse.{read_list}
use Rattle.pgsolver_scan.specs.declared.Number.{Number}
use Rattle.pgsolver_scan.specs.declared.Successors.{Successors}
use Rattle.pgsolver_scan.specs.Told.{since, past_line}

unfoldable pub value_or : Option (Front (List ℕ)) → List ℕ
value_or none = []
value_or (some r) = r.value

-- the numbers from a place on; none where there is no list
unfoldable pub list_at : List ℕ → ℕ → List ℕ
list_at text place = value_or (read_list (since text place))

-- there is a list, of vertices, and something behind it
pub record Listed (text : List ℕ) (place : ℕ) : Type 0 where
  pub within : place ≤ length text
  pub rest : List ℕ
  pub reads : read_list (since text place) ≡ some (front (list_at text place) rest)
  pub ended : 1 ≤ length rest
  pub small : (s : ℕ) → In s (list_at text place) → s < most_vertices

-- ---- a list as it is gone over

-- what is left of it: from the place of the next number on; nothing where there is none
abbrev pub left_from : List ℕ → Answer ℕ → List ℕ
left_from text (Some place) = list_at text place
left_from text None = []

abbrev pub left : Successors → List ℕ
left s = left_from s.text.now s.at

-- a list stands there
abbrev pub GoesFrom : List ℕ → Answer ℕ → Type 0
GoesFrom text (Some place) = Listed text place
GoesFrom text None = Unit {0}

abbrev pub Goes : Successors → Type 0
Goes s = GoesFrom s.text.now s.at

-- nothing was given yet of the list that begins at a place
abbrev pub Begun : Successors → List ℕ → ℕ → Type 0
Begun s text list = (s.text.now ≡ text) × (s.at ≡ Some list)

-- the next number, if there is one, stands further on in the same line
abbrev pub FollowsAt : List ℕ → ℕ → Answer ℕ → Type 0
FollowsAt text place (Some next) = (place ≤ next) × (past_line text place ≡ past_line text next)
FollowsAt text place None = Unit {0}

-- the number was given that stands at a place; behind it the list goes on, or ends
pub record Gave (s : Successors) (n : Number) (t : Successors) : Type 0 where
  pub place : ℕ
  pub at : s.at ≡ Some place
  pub within : n.next < length s.text.now
  pub first : list_at s.text.now place ≡ n.value ∷ left t
  pub small : n.value < most_vertices
  pub text : t.text ≡ s.text
  pub further : place < n.next
  pub line : past_line s.text.now place ≡ past_line s.text.now n.next
  pub follows : FollowsAt s.text.now n.next t.at

-- a number was given; none is left
abbrev pub Turn : Successors → Answer Number → Successors → Type 0
Turn s (Some n) t = Gave s n t
Turn s None t = (s.at ≡ None) × (t ≡ s)
