-- Texts, byte by byte: numbers in decimal, lines, and what a call that writes a text leaves (document 01, "Who can
-- cause a refusal"). Assumes nothing: these are definitions.
use Rattle.std.specs.Prelude.{ℕ, zero, suc, ◌+◌, ◌/◌, ◌%◌, ◌≡◌, cond, List, [], ◌∷◌, ◌++◌, length, ltb}
use Rattle.rules.specs.declared.Answer.{Answer}
use Rattle.rules.specs.declared.Answer.TheVariants.{Done, Refused}
use Rattle.rules.specs.Game.{padded}

-- ---- numbers in decimal, a space between, a newline at the end of each line (decision D4)

-- the digits of n, with fuel for so many of them
unfoldable pub digits_to : (fuel : ℕ) → ℕ → List ℕ
digits_to zero n = []
digits_to (suc f) n = let more = digits_to f (n / 10) ++ ((48 + n % 10) ∷ []) in cond (ltb n 10) ((48 + n) ∷ []) more

-- the digits of n, without leading zeros: there are at most n + 1
unfoldable pub decimal : ℕ → List ℕ
decimal n = digits_to (suc n) n

-- the same without fuel: theorem `decimal_equation`
abbrev pub DecimalEquation : ℕ → Type 0
DecimalEquation n = decimal n ≡ cond (ltb n 10) ((48 + n) ∷ []) (decimal (n / 10) ++ ((48 + n % 10) ∷ []))

-- a space and a number, for each
unfoldable pub spaced : List ℕ → List ℕ
spaced [] = []
spaced (n ∷ ns) = 32 ∷ (decimal n ++ spaced ns)

-- a name, then numbers
unfoldable pub line : List ℕ → List ℕ → List ℕ
line text ns = text ++ (spaced ns ++ (10 ∷ []))

-- ---- a text in a slice that is lent

-- the answer, and the text slice as the call leaves it
pub record Written : Type 0 where
  pub answer : Answer
  pub text : List ℕ

-- a text into a slice that must have at least so many bytes: "A call that writes something other than a game answers
-- Done (words or bytes written, 0, 0), zeros past them"; "2: a lent slice of the wrong length"; "a refusal alters
-- nothing"
unfoldable pub text_into : (least : ℕ) → (text slice : List ℕ) → Written
text_into least text slice =
    let refused : Written = record { answer = Refused 2 0; text = slice } in
    let done : Written = record { answer = Done (length text) 0 0; text = padded (length slice) text } in
    cond (ltb (length slice) least) refused done
