-- What users of writing rely on holds of it, for every game and every lent slice. Assumes nothing.
use Prim.Native.Nat.{ℕ, zero, suc, ◌+◌, ◌-◌, ◌≤◌}
use native.Mathlib.Omega.{arith}
use mathlib.Core.Path.{◌≡◌, refl, sym, ap, ap₂, ◌∙◌, subst}
use mathlib.Core.List.{List, ◌++◌}
use lib.ListN.{length, take, replicate}
use lib.Seq.{take-append_seam, get_or-append-add}
use lib.Dec.{ltb}
use borrow.Author.Tests.{ltb-false}
use Rattle.rules.specs.declared.Answer.TheVariants.{Done, Refused}
use Rattle.rules.specs.Answers.{Check}
use Rattle.std.specs.declared.result.Result.TheVariants.{Ok, Err}
use Rattle.rules.specs.Answers.{fault}
use Rattle.rules.specs.Lists.{word}
use Rattle.rules.specs.Answers.{fault_if, and_then}
use Rattle.rules.specs.Game.{padded}
use Rattle.rules.specs.Texts.{Written, text_into}
use Rattle.rules.specs.Pgsolver.{HasForm}
use Rattle.rules.specs.PgsolverCalls.{WritesGame, WritingDemand}
use Rattle.rules.specs.PgsolverWriting.{text_in, game_text, writing_refusal, written_or, written_game}
use Rattle.tables.proofs.Faults.{if_passed, if_fault, then_both, fault_number, fault_place}
use Rattle.restrictions.proofs.Restriction.{padded-length}
use Rattle.game_texts.specs.WritingCheck.{writing_check}
use Rattle.game_texts.proofs.Saying.{game_says}
use Rattle.game_texts.proofs.WritingExact.{writing_exact, writing_passed}

-- ---- by what the check says

module _ (g text : List ℕ) where
  pub writing_refused : (n p : ℕ) → writing_check g (length text) ≡ fault n p
      → written_game g text ≡ record { answer = Refused n p; text = text }
  unfolding written_game writing_check written_or text_into and_then
  writing_refused n p e = go (writing_refusal g) e
    where
      go : (c : Check) → and_then c (fault_if 2 0 (ltb (length text) (length (game_text g)))) ≡ fault n p
          → written_or c g text ≡ record { answer = Refused n p; text = text }
      go (Ok u) e =
          let (a, b, c) = if_fault 2 0 (ltb (length text) (length (game_text g))) e in
          rw a (ap₂ (λ (k q : ℕ). record { answer = Refused k q; text = text }) b c)
      go (Err f) e =
          ap₂ (λ (k r : ℕ). record { answer = Refused k r; text = text }) (fault_number e) (fault_place e)

  pub writing_done : writing_check g (length text) ≡ Ok tt
      → written_game g text ≡ record { answer = Done (length (game_text g)) 0 0; text = padded (length text) (game_text g) }
  unfolding written_game writing_check written_or text_into
  writing_done e =
      let (a, b) = then_both (writing_refusal g) _ e in
      rw (a, if_passed 2 0 (ltb (length text) (length (game_text g))) b) refl

  pub writing_fits : writing_check g (length text) ≡ Ok tt → length (game_text g) ≤ length text
  unfolding writing_check
  writing_fits e = ltb-false (length text) (length (game_text g)) (if_passed 2 0 _ (then_both (writing_refusal g) _ e).1)

-- ---- what stands in the slice

zero_at : (n i : ℕ) → word (replicate n 0) i ≡ 0
zero_at zero i = refl
zero_at (suc n) zero = refl
zero_at (suc n) (suc i) = zero_at n i

padded_past : (n : ℕ) (ws : List ℕ) (i : ℕ) → length ws ≤ i → word (padded n ws) i ≡ 0
unfolding padded
padded_past n ws i h =
    let e : i ≡ length ws + (i - length ws) = omega arith in
    ap (word (ws ++ replicate (n - length ws) 0)) e ∙ get_or-append-add ws (replicate (n - length ws) 0) (i - length ws) 0
    ∙ zero_at (n - length ws) (i - length ws)

pub padded-front : (n : ℕ) (ws : List ℕ) → take (length ws) (padded n ws) ≡ ws
unfolding padded
padded-front n ws = take-append_seam ws (replicate (n - length ws) 0)

-- ---- the theorem

module _ (g text : List ℕ) where
  done_writes : writing_check g (length text) ≡ Ok tt
      → WritesGame g (padded (length text) (game_text g)) (length (game_text g))
  unfolding writing_check
  done_writes e =
      record {
        fits = omega (arith, writing_fits g text e, padded-length (length text) (game_text g) (writing_fits g text e));
        says = subst (λ (bytes : List ℕ). HasForm bytes (text_in g)) (sym (padded-front (length text) (game_text g)))
            (game_says g (then_both (writing_refusal g) _ e).0);
        past = padded_past (length text) (game_text g);
      }

  pub writing_demand : WritingDemand g text (written_game g text).answer (written_game g text).text
  writing_demand =
      record {
        refused = λ n p f.
            let e = writing_refused g text n p ((writing_exact g (length text) n p).1 f) in
            (ap (λ (w : Written). w.answer) e, ap (λ (w : Written). w.text) e);
        accepted = λ f.
            let c = (writing_passed g (length text)).1 f in
            let e = writing_done g text c in (
              length (game_text g),
              ap (λ (w : Written). w.answer) e,
              ap (λ (w : Written). length w.text) e
                  ∙ padded-length (length text) (game_text g) (writing_fits g text c),
              subst (λ (w : Written). WritesGame g w.text (length (game_text g))) (sym e) (done_writes c),
            );
      }
