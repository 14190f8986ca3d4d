-- A run by cases, and demand 1: refused exactly on the listed conditions, and what a refusal leaves, for every input,
-- room, limit and ranking. Assumes nothing.
use mathlib.Core.Path.{◌≡◌, refl, sym, ap, ◌∙◌, subst}
use mathlib.Core.Bool.{Bool, true, false, ◌||◌, true≢false}
use mathlib.Core.List.{List, [], ◌∷◌}
use mathlib.Core.Logic.{◌⊎◌, inl, inr, ⊎_elim}
use Prim.Native.Nat.{ℕ, ◌-◌, ◌≤◌, ◌<◌}
use lib.ListN.{length}
use lib.Dec.{ltb}
use borrow.Author.Tests.{lt-ltb, ltb-true, ltb-false}
use Rattle.rules.specs.declared.Answer.TheVariants.{Refused}
use Rattle.std.specs.declared.result.Result.TheVariants.{Ok}
use Rattle.rules.specs.Answers.{fault}
use Rattle.rules.specs.Lists.{zeros}
use Rattle.rules.specs.declared.Room.{Room}
use Rattle.rules.specs.Words.{Input}
use Rattle.rules.specs.Answers.{Accepted}
use Rattle.rules.specs.Depth.{Ranking}
use Rattle.rules.specs.Pairs.{Pair, initial_pair, targets}
use Rattle.rules.specs.Walk.{Stand}
use Rattle.rules.specs.Game.{Vertex, edge_count}
use Rattle.rules.specs.Faulty.{FirstFaulty, Faultless}
use Rattle.rules.specs.Refusal.{refusal}
use Rattle.rules.specs.Run.{Outcome, walk_of, exceeds, built_answer, built_outcome, out_of_room, walk_outcome, refused_or, run}
use Rattle.rules.specs.Vertices.{vertices_of}
use Rattle.rules.specs.Demands.{Exceeded, edges_after, Demand1}
use Rattle.lists.proofs.Equalities.{pair_equality}
use Rattle.tables.proofs.Exact.{exact, exact_passed, faultless_or_first}
use Rattle.walks.specs.Sums.{sum_settled}
use Rattle.walks.proofs.After.{exceeded_within}
use Rattle.theorems.proofs.Vertices.{length_vertices, edges_of, count-edges}

-- a test of two orders
either_exceeds : (a b c d : ℕ) → (ltb a b || ltb c d) ≡ true → (a < b) ⊎ (c < d)
either_exceeds a b c d e = go (ltb a b) refl
  where
    go : (t : Bool) → ltb a b ≡ t → (a < b) ⊎ (c < d)
    go true f = inl (ltb-true a b f)
    go false f = inr (ltb-true c d (sym (rw f) ∙ e))

exceeds_either : (a b c d : ℕ) → (ltb a b || ltb c d) ≡ false → ¬ ((a < b) ⊎ (c < d))
exceeds_either a b c d e (inl l) = true≢false (sym (rw (lt-ltb a b l) refl) ∙ e)
exceeds_either a b c d e (inr l) = go (ltb a b) refl
  where
    go : (t : Bool) → ltb a b ≡ t → ⊥
    go true f = true≢false (sym (rw f refl) ∙ e)
    go false f = true≢false (sym (lt-ltb c d l) ∙ sym (rw f) ∙ e)

-- neither a run that ended nor a cut one is refused
pub built_accepted : (ws : List ℕ) (s n m : ℕ) → Accepted (built_answer ws s n m)
unfolding built_answer
built_accepted [] s n m = tt
built_accepted (w ∷ ws) s n m = tt

module _ (rank : Ranking) (x : Input) (r : Room) (k : ℕ) (game work : List ℕ) where
  abbrev st : Stand Pair
  st = walk_of x k

  abbrev vs : List Vertex
  vs = vertices_of rank x st

  -- ---- one law for each way in which a run ends

  pub run_refused : (n p : ℕ) → refusal x r (length game) (length work) ≡ fault n p
      → run rank x r k game work ≡ record { answer = Refused n p; game = game; work = work }
  unfolding run refused_or
  run_refused n p e = rw e refl

  pub run-exceeds : refusal x r (length game) (length work) ≡ Ok tt → exceeds r vs ≡ true → run rank x r k game work ≡ out_of_room game work
  unfolding run refused_or walk_outcome
  run-exceeds e h = rw (e, h) refl

  pub run_fits : refusal x r (length game) (length work) ≡ Ok tt → exceeds r vs ≡ false → run rank x r k game work ≡ built_outcome st vs game work
  unfolding run refused_or walk_outcome
  run_fits e h = rw (e, h) refl

  -- ---- 60

  pub vertices_many : length vs ≡ length st.known
  vertices_many = length_vertices rank x st

  pub edges_many : edge_count vs ≡ sum_settled (edges_of x) (initial_pair x) st
  edges_many = count-edges rank x st

  -- told after k steps, it is so within the first k steps, and the other way round
  pub exceeded : exceeds r vs ≡ true → Exceeded x r k
  unfolding exceeds walk_of edges_after
  exceeded e =
      (exceeded_within pair_equality (targets x) (initial_pair x) (edges_of x) r.vertices r.edges k).1
      (⊎_elim (λ l. inl (subst (λ (n : ℕ). r.vertices < n) vertices_many l)) (λ l. inr (subst (λ (n : ℕ). r.edges < n) edges_many l))
      (either_exceeds r.vertices (length vs) r.edges (edge_count vs) e))

  pub not_exceeded : exceeds r vs ≡ false → ¬ Exceeded x r k
  unfolding exceeds walk_of edges_after
  not_exceeded e h =
      exceeds_either r.vertices (length vs) r.edges (edge_count vs) e
      (⊎_elim (λ l. inl (subst (λ (n : ℕ). r.vertices < n) (sym vertices_many) l)) (λ l. inr (subst (λ (n : ℕ). r.edges < n) (sym edges_many) l))
      ((exceeded_within pair_equality (targets x) (initial_pair x) (edges_of x) r.vertices r.edges k).0 h))

  -- what fits
  pub fits : exceeds r vs ≡ false → (length vs ≤ r.vertices) × (edge_count vs ≤ r.edges)
  unfolding exceeds
  fits e =
      let n = exceeds_either r.vertices (length vs) r.edges (edge_count vs) e in
      (ltb-false r.vertices (length vs) (go_left (ltb r.vertices (length vs)) refl n), ltb-false r.edges (edge_count vs) (go_right (ltb r.edges (edge_count vs)) refl n))
    where
      go_left : (t : Bool) → ltb r.vertices (length vs) ≡ t → (¬ ((r.vertices < length vs) ⊎ (r.edges < edge_count vs))) → ltb r.vertices (length vs) ≡ false
      go_left true f n = absurd (n (inl (ltb-true r.vertices (length vs) f)))
      go_left false f n = f

      go_right : (t : Bool) → ltb r.edges (edge_count vs) ≡ t → (¬ ((r.vertices < length vs) ⊎ (r.edges < edge_count vs))) → ltb r.edges (edge_count vs) ≡ false
      go_right true f n = absurd (n (inr (ltb-true r.edges (edge_count vs) f)))
      go_right false f n = f

  -- ---- demand 1

  abbrev o : Outcome
  o = run rank x r k game work

  pub demand1 : Demand1 x r k game work (run rank x r k game work).answer (run rank x r k game work).game (run rank x r k game work).work
  unfolding out_of_room built_outcome
  demand1 =
      record {
        refused = λ n p h.
            let q = run_refused n p ((exact x r (length game) (length work) n p).1 h) in
            (ap (λ (u : Outcome). u.answer) q, ap (λ (u : Outcome). u.game) q, ap (λ (u : Outcome). u.work) q);
        full = λ z h. full ((exact_passed x r (length game) (length work)).1 z) h (exceeds r vs) refl;
        accepted = λ z n. accepted ((exact_passed x r (length game) (length work)).1 z) n (exceeds r vs) refl;
      }
    where
      full : refusal x r (length game) (length work) ≡ Ok tt → Exceeded x r k → (t : Bool) → exceeds r vs ≡ t
          → (o.answer ≡ Refused 60 0) × (o.game ≡ zeros game) × (o.work ≡ zeros work)
      full e h true f = let q = run-exceeds e f in (ap (λ (u : Outcome). u.answer) q, ap (λ (u : Outcome). u.game) q, ap (λ (u : Outcome). u.work) q)
      full e h false f = absurd (not_exceeded f h)

      accepted : refusal x r (length game) (length work) ≡ Ok tt → (¬ Exceeded x r k) → (t : Bool) → exceeds r vs ≡ t
          → Accepted o.answer × (o.work ≡ zeros work)
      accepted e n true f = absurd (n (exceeded f))
      accepted e n false f =
          let q = run_fits e f in (
            subst (λ (u : Outcome). Accepted u.answer) (sym q)
                (built_accepted st.waiting (length vs - length st.waiting) (length vs) (edge_count vs)),
            ap (λ (u : Outcome). u.work) q,
          )

  -- every run is of one of the three kinds that demand 1 tells apart
  pub kinds_of_run : ((n : ℕ) × (p : ℕ) × FirstFaulty x r (length game) (length work) n p)
      ⊎ (Faultless x r (length game) (length work) × (Exceeded x r k ⊎ (¬ Exceeded x r k)))
  kinds_of_run =
      ⊎_elim (λ z. inr (z, go (exceeds r vs) refl)) (λ f. inl f) (faultless_or_first x r (length game) (length work))
    where
      go : (t : Bool) → exceeds r vs ≡ t → Exceeded x r k ⊎ (¬ Exceeded x r k)
      go true f = inl (exceeded f)
      go false f = inr (not_exceeded f)
