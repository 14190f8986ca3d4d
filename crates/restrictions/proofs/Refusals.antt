-- Demand 1 of the restriction: it is refused exactly with its first fault, and what a refusal leaves, for all words and
-- lent slices. Assumes nothing.
use mathlib.Core.Path.{◌≡◌, ap, sym, subst, ◌∙◌}
use mathlib.Core.List.{List}
use Prim.Native.Nat.{ℕ}
use lib.ListN.{length}
use Rattle.std.specs.declared.result.Result.TheVariants.{Ok}
use Rattle.rules.specs.Answers.{fault}
use Rattle.rules.specs.declared.Answer.{Answer}
use Rattle.rules.specs.declared.Answer.TheVariants.{Refused}
use Rattle.rules.specs.Lists.{zeros}
use Rattle.rules.specs.Answers.{Accepted}
use Rattle.rules.specs.Restrict.{restriction_refusal, Restricted, restricted_to, restriction}
use Rattle.rules.specs.Restricts.{RestrictionDemand1}
use Rattle.tables.proofs.ExactGame.{game_exact, game_passed}
use Rattle.restrictions.proofs.Restriction.{restriction_passed, restriction_refused}

module _ (g out numbers work : List ℕ) (a : Answer) (out' numbers' work' : List ℕ) where
  abbrev left : Restricted
  left = record { answer = a; out = out'; mapping = numbers'; work = work' }

  refusal_leaves : (n p : ℕ) → left ≡ restriction g out numbers work
      → restriction_refusal g (length out) (length numbers) (length work) ≡ fault n p
      → (a ≡ Refused n p) × (out' ≡ out) × (numbers' ≡ numbers) × (work' ≡ work)
  refusal_leaves n p e f =
      let h = e ∙ restriction_refused g out numbers work n p f in (
        ap (λ (r : Restricted). r.answer) h,
        ap (λ (r : Restricted). r.out) h,
        ap (λ (r : Restricted). r.mapping) h,
        ap (λ (r : Restricted). r.work) h,
      )

  pass_leaves : left ≡ restriction g out numbers work
      → restriction_refusal g (length out) (length numbers) (length work) ≡ Ok tt
      → Accepted a × (work' ≡ zeros work)
  unfolding restricted_to
  pass_leaves e f =
      let h = e ∙ restriction_passed g out numbers work f in (
        subst (λ (r : Restricted). Accepted r.answer) (sym h) tt,
        ap (λ (r : Restricted). r.work) h,
      )

  -- what equals the restriction is as demand 1 has it
  pub restriction_demand1 : record { answer = a; out = out'; mapping = numbers'; work = work' }
      ≡ restriction g out numbers work → RestrictionDemand1 g out numbers work a out' numbers' work'
  restriction_demand1 e =
      record {
        refused = λ n p f. refusal_leaves n p e ((game_exact g (length out) (length numbers) (length work) n p).1 f);
        accepted = λ f. pass_leaves e ((game_passed g (length out) (length numbers) (length work)).1 f);
      }
