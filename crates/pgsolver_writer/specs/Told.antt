-- What the writing of a game answers, or why there is no text. Assumes nothing: these are definitions.
use Rattle.std.specs.Prelude.{◌≡◌, ℕ, List, Result, MatchResult}
use Rattle.rules.specs.declared.Answer.{Answer}
use Rattle.rules.specs.declared.Answer.TheVariants.{Refused}
use Rattle.rules.specs.declared.Fault.{Fault}
use Rattle.rules.specs.Texts.{Written}
use Rattle.rules.specs.PgsolverWriting.{written_game}

-- the answer and the slice afterwards are those of the rules' writing; a fault is its refusal
abbrev pub Told : (game text text' : List ℕ) → Result Answer Fault → Type 0
Told game text text' result =
    MatchResult result
    (λ answer. ◌≡◌ {A = Written} (record { answer = answer; text = text' }) (written_game game text))
    (λ fault. ◌≡◌ {A = Written} (record { answer = Refused fault.number fault.place; text = text' })
    (written_game game text))
