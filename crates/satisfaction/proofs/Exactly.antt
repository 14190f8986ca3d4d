-- A verdict is accepted exactly if the formula holds: what an accepted one means, and that where the formula holds
-- there is one. Assumes nothing.
use mathlib.Core.Path.{◌≡◌}
use mathlib.Core.Bool.{Bool, true}
use mathlib.Core.List.{List, []}
use Prim.Native.Nat.{ℕ}
use Rattle.rules.specs.declared.Room.{Room}
use Rattle.rules.specs.Words.{Input}
use Rattle.rules.specs.System.{initial_state}
use Rattle.rules.specs.Depth.{Ranking}
use Rattle.rules.specs.Pairs.{Pair}
use Rattle.rules.specs.Run.{Outcome, run}
use Rattle.tables.specs.Good.{GoodInput}
use Rattle.writing.specs.FormulaSyntax.{Written}
use Rattle.meaning.specs.Satisfies.{Satisfied}
use Rattle.meaning.specs.Evaluation.{evaluate}
use Rattle.meaning.proofs.Told.{satisfied_exactly}
use Rattle.satisfaction.specs.Ranks.{Sound}
use Rattle.satisfaction.specs.Verdict.{Verdict}
use Rattle.satisfaction.specs.Claims.{Finished, VerdictExactly}
use Rattle.satisfaction.proofs.Nesting.{sound_pass_sound}
use Rattle.satisfaction.proofs.Signatures.{claimed_pair, number_pair, claimed_region, initial_claims}
use Rattle.satisfaction.proofs.ToVerdict.{region_at, pick_at, number_at, claims_accepted}
use Rattle.satisfaction.proofs.VerdictMeans.{done_good, done_cut, verdict_means}

module _ (rank : Ranking) (x : Input) (r : Room) (k : ℕ) (game work : List ℕ) (sound : Sound rank x) where
  abbrev o : Outcome
  o = run rank x r k game work

  pub verdict_exists : Finished (run rank x r k game work).answer → Satisfied x → Verdict (run rank x r k game work).game
  verdict_exists d satisfied =
      let (cut, enough) = done_cut rank x r k game work d in
      let good : GoodInput x = done_good rank x r k game work d in
      let w : Written x = satisfied.0 in
      let holds : evaluate x w.row w.whole [] (initial_state x.system) ≡ true = (satisfied_exactly x good w).0 satisfied in
      let claimed : Pair → Bool = claimed_pair rank x good sound w in
      let number : ℕ → Pair → ℕ = number_pair rank x good sound w in
      let region = claimed_region rank x good sound w holds in
      let starts = initial_claims rank x good sound w holds in
      record {
        region = region_at rank x k o.answer o.game cut enough claimed number region starts;
        pick = pick_at rank x k o.answer o.game cut enough claimed number region starts;
        number = number_at rank x k o.answer o.game cut enough claimed number region starts;
        accepted = claims_accepted rank x k o.answer o.game cut enough claimed number region starts;
      }

  -- Under a ranking that puts outer equations above inner ones, for every input, room, limit and content of the slices
  pub verdict_exactly : VerdictExactly x (run rank x r k game work).answer (run rank x r k game work).game
  verdict_exactly d = (verdict_means rank x r k game work (sound_pass_sound rank x sound) d, verdict_exists d)
