-- What the readers of a text promise: each answers what the reader of rules/specs/TextReading or PgsolverParse of the
-- same name reads from its place on. Numbers are handed on saturated: equal up to a bound that is above every count of
-- lines that fits in memory. Assumes nothing: these are definitions.
use Rattle.std.specs.Prelude.{ℕ, suc, ◌+◌, ◌<◌, ◌≤◌, min, max, ◌≡◌, cond, List, [], ◌∷◌, length, drop, eqb}
use Rattle.std.specs.Prelude.{◌-◌, ◌⊎◌, ◌||◌, ◌==◌, true, false, Some, None}
use Rattle.std.specs.List.{position}
use Rattle.std.specs.declared.option.Option.{Option as Answer}
use Rattle.std.proofs.Math.Option.{Option, none, some}
use Rattle.rules.specs.Lists.{word, largest}
use Rattle.rules.specs.TextReading.{Front, front, then_read, read_byte, read_bytes, read_number, read_field}
use Rattle.rules.specs.TextReading.{is_digit, digits_at, past_digits, value_on}
use Rattle.rules.specs.Pgsolver.{SolverLine}
use Rattle.rules.specs.PgsolverParse.{read_commas, read_list, read_named}
use Rattle.pgsolver_scan.specs.declared.Number.{Number}
use Rattle.pgsolver_scan.specs.declared.Numbers.{Numbers}
use Rattle.pgsolver_scan.specs.declared.VertexLine.{VertexLine}

-- the bound is ten times a number: whoever is above its tenth is above it with one digit more
unfoldable pub saturated : ℕ → ℕ
saturated n = min n 18_446_744_073_709_551_610

-- the bytes from a place on
abbrev pub since : List ℕ → ℕ → List ℕ
since text place = drop place text

-- the numbers with a comma before each, from a place on
unfoldable pub commas_at : List ℕ → ℕ → Option (Front (List ℕ))
commas_at text place = read_commas (length (since text place)) (since text place)

-- successors; a name, if there is one, and the end of the line are passed over
unfoldable pub read_successors : List ℕ → Option (Front (List ℕ))
read_successors ts =
    then_read (read_list ts) (λ s. then_read (read_named s.rest) (λ n.
    then_read (read_bytes (59 ∷ 10 ∷ []) n.rest) (λ r. some (front s.value r))))

-- how many bytes there are up to the first newline and with it; all of them where there is none
unfoldable pub line_length : List ℕ → ℕ
line_length [] = 0
line_length (c ∷ cs) = let more = suc (line_length cs) in cond (eqb c 10) 1 more

-- the place past the first newline from a place on
unfoldable pub past_line : List ℕ → ℕ → ℕ
past_line text place = place + line_length (since text place)

-- the digits from a place on end at `next` and make this value
pub record Stopped (text : List ℕ) (place next value : ℕ) : Type 0 where
  pub ordered : place ≤ next
  pub within : next ≤ length text
  pub count : place + length (digits_at (since text place)) ≡ next
  pub past : past_digits (since text place) ≡ since text next
  pub right : value ≡ saturated (value_on (digits_at (since text place)) 0)

-- a number stands at a place, and fits 32 bits; something stands behind it
pub record Stands (text : List ℕ) (place : ℕ) : Type 0 where
  pub within : place ≤ length text
  pub number : ℕ
  pub rest : List ℕ
  pub reads : read_number (since text place) ≡ some (front number rest)
  pub behind : 1 ≤ length rest
  pub small : number < 4_294_967_296

-- the same, with a space behind it
pub record StandsField (text : List ℕ) (place : ℕ) : Type 0 where
  pub within : place ≤ length text
  pub number : ℕ
  pub rest : List ℕ
  pub reads : read_field 32 (since text place) ≡ some (front number rest)
  pub small : number < 4_294_967_296

-- a digit was read: none stands there, or this one
abbrev pub ToldDigit : Answer ℕ → List ℕ → (place : ℕ) → Type 0
ToldDigit (Some digit) text place =
    (place < length text) × (is_digit (word text place) ≡ true) × (digit ≡ word text place - 48)
ToldDigit None text place = place < length text → is_digit (word text place) ≡ false

-- a number was read
abbrev pub Told : Answer Number → Option (Front ℕ) → List ℕ → Type 0
Told (Some x) m text =
    (n : ℕ) × (m ≡ some (front n (since text x.next))) × (x.value ≡ saturated n) × (x.next ≤ length text)
Told None m text = m ≡ none

-- this byte stands behind a number, which goes on past it; it does not
abbrev pub Followed : Answer Number → Number → (byte : ℕ) → List ℕ → Type 0
Followed (Some x) n byte text =
    (x ≡ record { value = n.value; next = n.next + 1 }) × (n.next < length text)
    × (read_byte byte (since text n.next) ≡ some (since text (n.next + 1)))
Followed None n byte text = read_byte byte (since text n.next) ≡ none

-- numbers were read
abbrev pub ToldList : Answer Numbers → Option (Front (List ℕ)) → List ℕ → Type 0
ToldList (Some l) m text =
    (ns : List ℕ) × (m ≡ some (front ns (since text l.next))) × (l.largest ≡ saturated (largest ns))
    × (l.listed ≡ length ns) × (l.next ≤ length text)
ToldList None m text = m ≡ none

-- numbers were read behind a first one, which is counted with them
abbrev pub ToldMore : Answer Numbers → ℕ → Option (Front (List ℕ)) → List ℕ → Type 0
ToldMore (Some l) first m text =
    (ns : List ℕ) × (m ≡ some (front ns (since text l.next))) × (l.largest ≡ max first (saturated (largest ns)))
    × (l.listed ≡ suc (length ns)) × (l.next ≤ length text)
ToldMore None first m text = m ≡ none

-- none of the bytes from p up to q is one of these two
pub record Lacks (text : List ℕ) (p q one other : ℕ) : Type 0 where
  pub ordered : p ≤ q
  pub within : q ≤ length text
  pub free : (i : ℕ) → p ≤ i → i < q → (¬ (word text i ≡ one)) × (¬ (word text i ≡ other))

-- which of some bytes is the first that is one of these two
unfoldable pub first_of : (one other : ℕ) → List ℕ → Answer ℕ
first_of one other bytes = position (λ c. (c == one) || (c == other)) bytes

-- the first from p on that is one of these two stands there; there is none
abbrev pub ToldFirst : Answer ℕ → List ℕ → (p one other : ℕ) → Type 0
ToldFirst (Some q) text p one other =
    Lacks text p q one other × (q < length text) × ((word text q ≡ one) ⊎ (word text q ≡ other))
ToldFirst None text p one other = Lacks text p (length text) one other

-- something was passed over
abbrev pub ToldSkip : {A : Type 0} → Answer ℕ → Option (Front A) → List ℕ → Type 0
ToldSkip {A = A} (Some next) m text = (a : A) × (m ≡ some (front a (since text next))) × (next ≤ length text)
ToldSkip None m text = m ≡ none

-- what is told of a line that was read
pub record RowAt (text : List ℕ) (line : SolverLine) (row : VertexLine) : Type 0 where
  pub number : row.number ≡ saturated line.number
  pub priority : row.priority ≡ saturated line.priority
  pub owner : row.owner ≡ line.owner
  pub top : row.largest ≡ saturated (largest line.successors)
  pub listed : row.listed ≡ length line.successors

-- a line was read
abbrev pub ToldRow : Answer VertexLine → Option (Front SolverLine) → List ℕ → Type 0
ToldRow (Some row) m text =
    (line : SolverLine) × (m ≡ some (front line (since text row.next))) × RowAt text line row
    × (row.next ≤ length text)
ToldRow None m text = m ≡ none
