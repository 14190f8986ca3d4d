-- Demand 3 of the rules' run, and what it rests on: the reachable pairs of an accepted input are within states times
-- items, so the facts of every walk hold of it. Assumes nothing.
use mathlib.Core.Path.{◌≡◌, refl, sym, subst}
use mathlib.Core.Bool.{Bool, true, false}
use mathlib.Core.List.{List}
use mathlib.Core.Logic.{inl, inr, ⊎_elim}
use Prim.Native.Nat.{ℕ, ◌≤◌}
use native.Mathlib.Omega.{arith}
use lib.ListN.{length}
use Rattle.rules.specs.Answers.{Check}
use Rattle.std.specs.declared.result.Result.TheVariants.{Ok, Err}
use Rattle.rules.specs.Lists.{In}
use Rattle.rules.specs.declared.Room.{Room}
use Rattle.rules.specs.Words.{Input, game_length}
use Rattle.rules.specs.Answers.{Accepted}
use Rattle.rules.specs.Depth.{Ranking}
use Rattle.rules.specs.Pairs.{Pair, same_pair, initial_pair, targets}
use Rattle.rules.specs.Reach.{Reachable, pair_count}
use Rattle.rules.specs.Game.{Vertex, game_of}
use Rattle.rules.specs.Refusal.{refusal}
use Rattle.rules.specs.Run.{Outcome, walk_of, exceeds, built_outcome, out_of_room, run}
use Rattle.rules.specs.Vertices.{vertices_of}
use Rattle.rules.specs.Demands.{CutTheorem, Demand3}
use Rattle.tables.specs.Good.{GoodInput}
use Rattle.lists.proofs.Equalities.{pair_equality}
use Rattle.tables.proofs.Accepted.{accepted_words, accepted_lengths}
use Rattle.arena.specs.Arena.{all_pairs}
use Rattle.arena.proofs.Inside.{all_pairs_length, listed_inside, initial_listed, targets_listed}
use Rattle.walks.specs.Facts.{WalkFacts}
use Rattle.walks.proofs.Reached.{reachable_inside}
use Rattle.walks.proofs.Facts.{walk_facts}
use Rattle.walks.proofs.After.{order_after, walk_after, order_settled}
use Rattle.games.proofs.Reading.{length_read}
use Rattle.theorems.proofs.Cut.{Ordered, cut_theorem}
use Rattle.theorems.proofs.Runs.{run_refused, run-exceeds, run_fits, fits}
use Rattle.walks.proofs.Facts.{settled_or_waits}

module _ (x : Input) (good : GoodInput x) where
  pub covered : (p : Pair) → Reachable (targets x) (initial_pair x) p → In p (all_pairs x)
  covered = reachable_inside (targets x) (initial_pair x) (λ p. In p (all_pairs x)) (initial_listed x good) (λ p m q i. targets_listed x good p q m i)

  -- the facts of a walk of k steps
  pub facts : (k : ℕ) → WalkFacts same_pair (targets x) (initial_pair x) (pair_count x) k
  facts = walk_facts pair_equality (targets x) (initial_pair x) (all_pairs x) covered (pair_count x) (omega (arith, all_pairs_length x))

  pub ordered : (k : ℕ) → Ordered x k (walk_of x k)
  unfolding walk_of
  ordered k =
      record {
        order = order_after pair_equality (targets x) (initial_pair x) k;
        after = walk_after pair_equality (targets x) (initial_pair x) k;
        apart = λ v m o. ((order_settled pair_equality (targets x) (initial_pair x) k v).0 o).1 m;
        either = λ v h. ⊎_elim (λ s. inr ((order_settled pair_equality (targets x) (initial_pair x) k v).1 s)) (λ w. inl w) (settled_or_waits (walk_of x k) v h);
      }

module _ (rank : Ranking) (x : Input) (r : Room) (k : ℕ) (game work : List ℕ) where
  abbrev vs : List Vertex
  vs = vertices_of rank x (walk_of x k)

  -- what fits the room fits the game slice
  fits_slice : refusal x r (length game) (length work) ≡ Ok tt → exceeds r vs ≡ false
      → length (game_of 0 vs) ≤ length game
  unfolding game_length
  fits_slice e f =
      let (a, b) = fits rank x r k game work f in
      omega (arith, length_read 0 vs, (accepted_lengths x r (length game) (length work) e).0)

  abbrev Claim : Outcome → Type 0
  Claim o = Accepted o.answer → CutTheorem rank x k o.answer o.game

  pub demand3 : Demand3 rank x k (run rank x r k game work).answer (run rank x r k game work).game
  unfolding out_of_room built_outcome
  demand3 = go (refusal x r (length game) (length work)) refl (exceeds r vs) refl
    where
      go : (c : Check) → refusal x r (length game) (length work) ≡ c → (t : Bool) → exceeds r vs ≡ t → Claim (run rank x r k game work)
      go (Err g) e t f = subst Claim (sym (run_refused rank x r k game work g.number g.place e)) (λ z. absurd z)
      go (Ok u) e true f = subst Claim (sym (run-exceeds rank x r k game work e f)) (λ z. absurd z)
      go (Ok u) e false f =
          let good = accepted_words x r (length game) (length work) e in
          subst Claim (sym (run_fits rank x r k game work e f))
          (λ z. cut_theorem rank x k (facts x good k) (ordered x good k) game work
          (λ p m. listed_inside x p (covered x good p m)) (fits_slice e f))
