-- Words as document 01 prints them: a quoted text with numbers in decimal, and spaces, commas and semicolons between.
-- Only the cases use this. Assumes nothing.
use mathlib.Core.Path.{◌≡◌, refl}
use Prim.Native.Nat.{ℕ, ◌+◌, ◌*◌, ◌-◌, ◌/◌, ◌%◌}
use Prim.Native.Char.{code}
use Prim.Native.String.{String, [] as no_text, ◌∷◌ as ◌before◌}
use mathlib.Core.Bool.{cond, ◌&&◌}
use mathlib.Core.List.{List, [], ◌∷◌}
use mathlib.Core.Option.{Option, none, some}
use lib.Dec.{leb}

-- the characters of a text, as bytes
abbrev pub characters : String → List ℕ
characters no_text = []
characters (c before s) = code c ∷ characters s

-- the number whose digits have been read, if there is one, before the others
abbrev pub ended : Option ℕ → List ℕ → List ℕ
ended none ws = ws
ended (some n) ws = n ∷ ws

-- the number with one more digit
abbrev pub longer : Option ℕ → ℕ → Option ℕ
longer none d = some d
longer (some n) d = some (10 * n + d)

-- the numbers of these characters, of which the first has begun already, if there is one
abbrev pub numbers_after : Option ℕ → List ℕ → List ℕ
numbers_after now [] = ended now []
numbers_after now (c ∷ cs) =
    let digit = numbers_after (longer now (c - 48)) cs in
    let other = ended now (numbers_after none cs) in
    cond (leb 48 c && leb c 57) digit other

-- the numbers of a text
abbrev pub words : String → List ℕ
words s = numbers_after none (characters s)

-- four bytes for each of these words, the lowest first
abbrev pub four_bytes : List ℕ → List ℕ
four_bytes [] = []
four_bytes (w ∷ ws) = w % 256 ∷ w / 256 % 256 ∷ w / 65_536 % 256 ∷ w / 16_777_216 ∷ four_bytes ws

pub words-read : words "3; 7 5 10, 1024" ≡ 3 ∷ 7 ∷ 5 ∷ 10 ∷ 1024 ∷ []
words-read = refl
