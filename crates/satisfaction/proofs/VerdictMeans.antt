-- An accepted verdict means that the formula holds: for every run that finishes, under every ranking that puts least
-- equations above the greatest ones nested in them. Assumes nothing.
use mathlib.Core.Path.{◌≡◌, refl, sym, subst}
use mathlib.Core.List.{List}
use Prim.Native.Nat.{ℕ, ◌≤◌}
use lib.ListN.{length}
use Rattle.rules.specs.Answers.{Check}
use Rattle.std.specs.declared.result.Result.TheVariants.{Ok, Err}
use Rattle.rules.specs.declared.Room.{Room}
use Rattle.rules.specs.Words.{Input}
use Rattle.rules.specs.Answers.{Accepted}
use Rattle.rules.specs.Depth.{Ranking}
use Rattle.rules.specs.Reach.{N}
use Rattle.rules.specs.Refusal.{refusal}
use Rattle.rules.specs.Run.{Outcome, run}
use Rattle.rules.specs.Demands.{CutTheorem}
use Rattle.tables.specs.Good.{GoodInput}
use Rattle.tables.proofs.Accepted.{accepted_input, accepted_words}
use Rattle.theorems.proofs.Runs.{run_refused}
use Rattle.theorems.proofs.Cut.{done_enough}
use Rattle.theorems.proofs.Demand3.{demand3}
use Rattle.writing.proofs.FormulaTheorems.{accepted_input_is_written}
use Rattle.satisfaction.specs.Ranks.{PassSound}
use Rattle.satisfaction.specs.Claims.{Finished, NoFalsePass}
use Rattle.satisfaction.proofs.Whole.{whole_satisfied}
use Rattle.satisfaction.proofs.FromVerdict.{pair_region, pair_number, pair-region, initial_claimed}

module _ (rank : Ranking) (x : Input) (r : Room) (k : ℕ) (game work : List ℕ) where
  abbrev o : Outcome
  o = run rank x r k game work

  -- ---- a finished run

  done_accepted : Finished o.answer → Accepted o.answer
  done_accepted (s, n, m, d) = subst Accepted (sym d) tt

  -- it was not refused
  pub done_passed : Finished o.answer → refusal x r (length game) (length work) ≡ Ok tt
  done_passed d = go (refusal x r (length game) (length work)) refl
    where
      go : (c : Check) → refusal x r (length game) (length work) ≡ c → c ≡ Ok tt
      go (Ok u) e = refl
      go (Err f) e = absurd (subst (λ (u : Outcome). Accepted u.answer) (run_refused rank x r k game work f.number f.place e) (done_accepted d))

  pub done_good : Finished o.answer → GoodInput x
  done_good d = accepted_words x r (length game) (length work) (done_passed d)

  -- its game is as the cut theorem says, and no pair waits
  pub done_cut : Finished o.answer → CutTheorem rank x k o.answer o.game × (N x ≤ k)
  done_cut d =
      let cut = demand3 rank x r k game work (done_accepted d) in
      let (s, n, m, e) = d in
      (cut, done_enough rank x k o.answer o.game cut s n m e)

  -- ---- the theorem

  -- For every input, room, limit and content of the slices, and every ranking under which least equations are above the
  -- greatest ones nested in them
  pub verdict_means : PassSound rank x → NoFalsePass x (run rank x r k game work).answer (run rank x r k game work).game
  verdict_means sound d v =
      let (cut, enough) = done_cut d in (
        accepted_input_is_written x (accepted_input x r (length game) (length work) (done_passed d)),
        λ w. whole_satisfied rank x (done_good d) sound
            (pair_region rank x k o.answer o.game cut enough v.region v.pick v.number v.accepted)
            (pair_number rank x k o.answer o.game cut enough v.region v.pick v.number v.accepted)
            (pair-region rank x k o.answer o.game cut enough v.region v.pick v.number v.accepted)
            (initial_claimed rank x k o.answer o.game cut enough v.region v.pick v.number v.accepted)
            w,
      )
