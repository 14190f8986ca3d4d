-- Reading a text from its front (document 02: "In every text handed over, numbers are decimal without leading zeros and
-- a newline ends each line"). Each reader takes what it reads from the front of the bytes and hands on the rest; none
-- where something else stands there. Numbers are integers of any length: none is wrapped or cut. Assumes nothing: these
-- are definitions.
use Rattle.std.specs.Prelude.{ℕ, ◌+◌, ◌*◌, ◌-◌, Bool, true, false, cond, ◌&&◌, List, [], ◌∷◌, eqb, leb}
use Rattle.std.proofs.Math.Option.{Option, none, some}

-- what was read, and the bytes behind it
pub record Front (A : Type 0) : Type 0 where
  pub value : A
  pub rest : List ℕ

abbrev pub front : {A : Type 0} → A → List ℕ → Front A
front a ts = record { value = a; rest = ts }

-- then read on, if something was read
unfoldable pub then_read : {A B : Type 0} → Option A → (A → Option B) → Option B
then_read none f = none
then_read (some a) f = f a

-- one more in front of those that were read behind it
unfoldable pub with_first : {A : Type 0} → A → Option (Front (List A)) → Option (Front (List A))
with_first a none = none
with_first a (some r) = some (front (a ∷ r.value) r.rest)

-- ---- bytes

-- this byte
unfoldable pub read_byte : ℕ → List ℕ → Option (List ℕ)
read_byte c [] = none
read_byte c (x ∷ xs) = cond (eqb x c) (some xs) none

-- these bytes
unfoldable pub read_bytes : List ℕ → List ℕ → Option (List ℕ)
read_bytes [] ts = some ts
read_bytes (c ∷ cs) ts = then_read (read_byte c ts) (read_bytes cs)

-- ---- numbers

-- "decimal"
unfoldable pub is_digit : ℕ → Bool
is_digit c = leb 48 c && leb c 57

-- the digits at the front of some bytes, and the bytes behind them
unfoldable pub digits_at : List ℕ → List ℕ
digits_at [] = []
digits_at (c ∷ cs) = let more = c ∷ digits_at cs in cond (is_digit c) more []

unfoldable pub past_digits : List ℕ → List ℕ
past_digits [] = []
past_digits (c ∷ cs) = let more = past_digits cs in cond (is_digit c) more (c ∷ cs)

-- the number whose digits are those of a, then these
unfoldable pub value_on : List ℕ → ℕ → ℕ
value_on [] a = a
value_on (d ∷ ds) a = value_on ds (10 * a + (d - 48))

-- these digits are no number: "without leading zeros" the first of several is not 0, and there is one
unfoldable pub no_numeral : List ℕ → Bool
no_numeral [] = true
no_numeral (d ∷ []) = false
no_numeral (d ∷ e ∷ ds) = eqb d 48

-- a number (theorem `number_exact`: what stands in front of the rest is `decimal` of it)
unfoldable pub read_number : List ℕ → Option (Front ℕ)
read_number ts =
    let n = front (value_on (digits_at ts) 0) (past_digits ts) in
    cond (no_numeral (digits_at ts)) none (some n)

-- a number and this byte
unfoldable pub read_field : ℕ → List ℕ → Option (Front ℕ)
read_field c ts = then_read (read_number ts) (λ n. then_read (read_byte c n.rest) (λ r. some (front n.value r)))
