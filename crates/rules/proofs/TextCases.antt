-- Small texts, as the rules give them: numbers in decimal, and a text in a slice that is lent. Assumes nothing.
use mathlib.Core.Path.{◌≡◌, refl}
use mathlib.Core.List.{[], ◌∷◌}
use lib.ListN.{replicate}
use Rattle.rules.specs.declared.Answer.TheVariants.{Done, Refused}
use Rattle.rules.specs.Game.{padded}
use Rattle.rules.specs.Texts.{digits_to, decimal, spaced, line, text_into}
use Rattle.rules.specs.Program.{gate_text_length, program_text}

-- no leading zero, but for 0 itself; the largest word and the largest number of 64 bits
pub decimals :
    (decimal 0 ≡ 48 ∷ []) × (decimal 9 ≡ 57 ∷ []) × (decimal 10 ≡ 49 ∷ 48 ∷ []) × (decimal 205 ≡ 50 ∷ 48 ∷ 53 ∷ [])
    × (decimal 4_294_967_295 ≡ 52 ∷ 50 ∷ 57 ∷ 52 ∷ 57 ∷ 54 ∷ 55 ∷ 50 ∷ 57 ∷ 53 ∷ [])
    × (decimal 18_446_744_073_709_551_615
    ≡ 49 ∷ 56 ∷ 52 ∷ 52 ∷ 54 ∷ 55 ∷ 52 ∷ 52 ∷ 48 ∷ 55 ∷ 51 ∷ 55 ∷ 48 ∷ 57 ∷ 53 ∷ 53 ∷ 49 ∷ 54 ∷ 49 ∷ 53 ∷ [])
unfolding digits_to decimal
decimals = (refl, refl, refl, refl, refl, refl)

-- a name and two numbers; a name alone
pub lines :
    (line (97 ∷ []) (7 ∷ 12 ∷ []) ≡ 97 ∷ 32 ∷ 55 ∷ 32 ∷ 49 ∷ 50 ∷ 10 ∷ [])
    × (line (97 ∷ 98 ∷ []) [] ≡ 97 ∷ 98 ∷ 10 ∷ [])
unfolding digits_to decimal spaced line
lines = (refl, refl)

-- a slice of just enough bytes, a longer one, one that is too short; the program's
pub slices :
    (text_into 3 (7 ∷ 8 ∷ []) (9 ∷ 9 ∷ 9 ∷ []) ≡ record { answer = Done 2 0 0; text = 7 ∷ 8 ∷ 0 ∷ [] })
    × (text_into 3 (7 ∷ 8 ∷ []) (9 ∷ 9 ∷ 9 ∷ 9 ∷ 9 ∷ []) ≡ record { answer = Done 2 0 0; text = 7 ∷ 8 ∷ 0 ∷ 0 ∷ 0 ∷ [] })
    × (text_into 3 (7 ∷ 8 ∷ []) (9 ∷ 9 ∷ []) ≡ record { answer = Refused 2 0; text = 9 ∷ 9 ∷ [] })
    × (program_text [] (replicate 16_383 9) ≡ record { answer = Refused 2 0; text = replicate 16_383 9 })
unfolding padded text_into gate_text_length program_text
slices = (refl, refl, refl, refl)
