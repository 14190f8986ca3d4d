-- The whole call: what its parts leave is the rules' writing, and so the answer's words. Assumes nothing.
use mathlib.Core.Path.{◌≡◌, refl, sym, ap, ◌∙◌, subst}
use mathlib.Core.List.{List}
use Prim.Native.Nat.{ℕ, ◌<◌}
use Rattle.std.specs.Prelude.{ltb}
use native.Mathlib.Omega.{arith}
use borrow.Author.Tests.{ltb-true}
use lib.ListN.{length}
use Rattle.rules.specs.declared.Answer.{Answer}
use Rattle.rules.specs.declared.Answer.TheVariants.{Refused}
use Rattle.std.specs.declared.result.Result.{Result}
use Rattle.std.specs.declared.result.Result.TheVariants.{Ok, Err}
use Rattle.std.specs.Result.{MatchResult, IsErrAnd}
use Rattle.rules.specs.declared.Fault.{Fault}
use Rattle.rules.specs.Answers.{fault, fault_if}
use Rattle.rules.specs.Answers.{said}
use Rattle.rules.specs.Texts.{Written, text_into}
use Rattle.rules.specs.PgsolverWriting.{game_text, writing_refusal, written_or, written_game}
use Rattle.rules.specs.PgsolverCalls.{WritingDemand}
use Rattle.game_texts.proofs.WritingDemands.{writing_demand}
use Rattle.tables.proofs.Faults.{if_fault}
use Rattle.text_writer.proofs.Endings.{text_refused}
use Rattle.pgsolver_writer.specs.Told.{Told}

pub refused : (g text : List ℕ) (n p : ℕ) → writing_refusal g ≡ fault n p
    → ◌≡◌ {A = Written} (record { answer = Refused n p; text = text }) (written_game g text)
unfolding written_game written_or
refused g text n p e = rw e refl

pub accepted : (g text : List ℕ) → writing_refusal g ≡ Ok tt
    → text_into (length (game_text g)) (game_text g) text ≡ written_game g text
unfolding written_game written_or
accepted g text e = rw e refl

-- with the answer's words, and what users rely on
pub whole_writing : (g text : List ℕ) (a : Answer) (text' : List ℕ)
    → ◌≡◌ {A = Written} (record { answer = a; text = text' }) (written_game g text)
    → (◌≡◌ {A = Written} (record { answer = a; text = text' }) (written_game g text))
    × ((said a ≡ said (written_game g text).answer) × WritingDemand g text a text')
whole_writing g text a text' e =
    let demand = subst (λ (w : Written). WritingDemand g text w.answer w.text) (sym e) (writing_demand g text) in
    (e, (ap (λ (w : Written). said w.answer) e, demand))

-- ---- the answer, or why there is none

abbrev Refuses : (text : List ℕ) (n p : ℕ) → Written
Refuses text n p = record { answer = Refused n p; text = text }

pub told_fault : (g text : List ℕ) (r : Result Answer Fault) (f : Fault) → IsErrAnd r (λ e. e ≡ f)
    → Err f ≡ writing_refusal g → Told g text text r
told_fault g text (Ok a) f e w = absurd e
told_fault g text (Err e) f same w = refused g text e.number e.place (sym w ∙ ap Err (sym same))

-- 2 for a slice that is too short
pub told_short : (g text : List ℕ) (size : ℕ) (r : Result Answer Fault) (f : Fault) → writing_refusal g ≡ Ok tt
    → size ≡ length (game_text g) → IsErrAnd r (λ e. e ≡ f) → Err f ≡ fault_if 2 0 (ltb (length text) size)
    → Told g text text r
told_short g text size (Ok a) f h s e w = absurd e
told_short g text size (Err e) f h s same w =
    let (short, number, place) = if_fault 2 0 (ltb (length text) size) {m = f.number} {q = f.place} (sym w) in
    let l : length text < length (game_text g) = omega (arith, ltb-true _ _ short, s) in
    ap (λ (x : Fault). Refuses text x.number x.place) same
    ∙ (ap (λ (n : ℕ). Refuses text n f.place) (sym number) ∙ (ap (λ (p : ℕ). Refuses text 2 p) (sym place)
    ∙ (text_refused (length (game_text g)) (game_text g) text l ∙ accepted g text h)))

-- one answer of both
pub told_answer : (g text text' : List ℕ) (r : Result Answer Fault) (a : Answer) → Told g text text' r
    → MatchResult r (λ b. a ≡ b) (λ f. a ≡ Refused f.number f.place)
    → ◌≡◌ {A = Written} (record { answer = a; text = text' }) (written_game g text)
told_answer g text text' (Ok b) a t e = rw e t
told_answer g text text' (Err f) a t e = rw e t
