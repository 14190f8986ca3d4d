-- What the call promises beside the rules' equation follows from it. Assumes nothing.
use mathlib.Core.Path.{◌≡◌, sym, ap, subst}
use mathlib.Core.List.{List}
use Prim.Native.Nat.{ℕ}
use Rattle.rules.specs.declared.Answer.{Answer}
use Rattle.rules.specs.declared.Room.{Room}
use Rattle.rules.specs.Answers.{said}
use Rattle.rules.specs.PgsolverReading.{Readback, read_game}
use Rattle.rules.specs.PgsolverCalls.{ReadingDemand}
use Rattle.game_texts.proofs.ReadingDemands.{reading_demand}

pub whole_reading : (r : Room) (text game : List ℕ) (a : Answer) (g : List ℕ)
    → ◌≡◌ {A = Readback} (record { answer = a; game = g }) (read_game r text game)
    → (◌≡◌ {A = Readback} (record { answer = a; game = g }) (read_game r text game))
    × ((said a ≡ said (read_game r text game).answer) × ReadingDemand r text game a g)
whole_reading r text game a g e =
    let coded = ap (λ (b : Readback). said b.answer) e in
    let demand = reading_demand r text game in
    (e, (coded, subst (λ (b : Readback). ReadingDemand r text game b.answer b.game) (sym e) demand))
