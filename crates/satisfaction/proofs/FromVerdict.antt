-- An accepted verdict on the words of a finished run's game claims, with its reasons, a region of the pairs that the
-- vertices stand for. Assumes nothing.
use mathlib.Core.Path.{◌≡◌, refl, sym, ap, subst, ◌∙◌}
use mathlib.Core.Bool.{Bool, true, ◌&&◌}
use mathlib.Core.List.{List, [], ◌∷◌, ◌++◌, append-nil}
use mathlib.Core.Logic.{inl, inr}
use Prim.Native.Nat.{ℕ, ◌≤◌, ◌<◌}
use native.Mathlib.Omega.{arith}
use Rattle.player.specs.Player.{player_index}
use Rattle.player.specs.declared.Player.{Player}
use Rattle.player.specs.declared.Player.TheVariants.{Even, Odd}
use Rattle.rules.specs.declared.Answer.{Answer}
use Rattle.rules.specs.Lists.{In, has, position}
use Rattle.rules.specs.Words.{Input}
use Rattle.rules.specs.Depth.{Ranking}
use Rattle.rules.specs.Pairs.{Pair, same_pair, initial_pair, owner, priority, targets}
use Rattle.rules.specs.Reach.{N}
use Rattle.rules.specs.Game.{vertex_count, owner_in, priority_in, pair_in, pairs_in, targets_in}
use Rattle.rules.specs.Vertices.{stuck_priority}
use Rattle.rules.specs.Demands.{Stands, Lead, Totalised, SettledRow, CutTheorem}
use Rattle.lists.proofs.Members.{has_in, in_has}
use Rattle.theorems.proofs.Pairs.{lead_in, in_lead, lead_none, stands_in, in_stands, stands_once, stands_position}
use Rattle.lists.proofs.Equalities.{pair_equality}
use Rattle.lists.proofs.Tests.{and-true}
use Rattle.satisfaction.specs.Ranks.{is_even}
use Rattle.satisfaction.specs.Verdict.{Kept, AcceptedVerdict}
use Rattle.satisfaction.proofs.Vertices.{none_plain}
use Rattle.satisfaction.proofs.Regions.{EvenBelow, Goes, Region}
use Rattle.satisfaction.proofs.Measures.{measure, measure_falls}
use Rattle.meaning.proofs.Tests.{both_true}

module _ (rank : Ranking) (x : Input) (k : ℕ) (a : Answer) (g : List ℕ) (cut : CutTheorem rank x k a g) (enough : N x ≤ k)
    (region : ℕ → Bool) (pick : ℕ → ℕ) (number : ℕ → ℕ → ℕ) (accepted : AcceptedVerdict g region pick number) where
  abbrev ps : List Pair
  ps = pairs_in g

  abbrev vertex_of : Pair → ℕ
  vertex_of p = position same_pair p ps

  unfoldable pub pair_region : Pair → Bool
  pair_region p = has same_pair p ps && region (vertex_of p)

  -- the measure of its vertex
  abbrev pub pair_number : ℕ → Pair → ℕ
  pair_number n p = measure g region pick number accepted n (vertex_of p)

  -- ---- a claimed pair and its vertex

  -- the vertex v stands for the pair p and is claimed
  record At (p : Pair) (v : ℕ) : Type 0 where
    known : v < vertex_count g
    claimed : region v ≡ true
    settled : SettledRow rank x g v p

  vertex_settled : (v : ℕ) → v < vertex_count g → owner_in g v < 2
  vertex_settled v h =
      let (u, s, o) = cut.complete enough (pair_in g v) (cut.reached v h) in
      subst (λ (w : ℕ). owner_in g w < 2) (stands_once g cut.distinct u v (pair_in g v) s (h, refl)) o

  pair-at : (p : Pair) → pair_region p ≡ true → At p (vertex_of p)
  unfolding pair_region
  pair-at p r =
      let (i, c) = and-true (has same_pair p ps) (region (vertex_of p)) r in
      let (n, e) = in_stands g p (has_in pair_equality p ps i) in
      record {
        known = n;
        claimed = c;
        settled = subst (λ (q : Pair). SettledRow rank x g (vertex_of p) q) e (cut.settled (vertex_of p) n (vertex_settled (vertex_of p) n));
      }

  stands_vertex : (q : Pair) (w : ℕ) → Stands g w q → vertex_of q ≡ w
  stands_vertex q w s = stands_position g cut.distinct w q s

  stands_claimed : (q : Pair) (w : ℕ) → Stands g w q → region w ≡ true → pair_region q ≡ true
  unfolding pair_region
  stands_claimed q w s r =
      both_true (has same_pair q ps) (region (vertex_of q)) (in_has pair_equality q ps (stands_in g w q s))
      (ap region (stands_vertex q w s) ∙ r)

  -- ---- a stuck vertex of Even is not claimed: its number for priority 1 would have to fall along its own loop

  stuck : (p : Pair) (v : ℕ) → At p v → owner x p ≡ Even → targets_in g v ≡ v ∷ [] → priority_in g v ≡ 1 → ⊥
  unfolding is_even
  stuck p v t o e s =
      let i : owner_in g v ≡ 0 = t.settled.owned ∙ ap player_index o in
      let (m, c) = accepted.picks v t.known t.claimed i in
      let z : pick v ≡ v = same (subst (λ (l : List ℕ). In (pick v) l) e m) in
      let kept : Kept g region pick number v v =
      record { known = t.known; claimed = t.claimed; edge = subst (λ (l : List ℕ). In v l) (sym e) (inl refl); picked = λ h. sym z } in
      let (q, r) = accepted.falls v v 1 kept (refl, (v, t.known, s)) (omega arith) (omega arith) in
      let y = r s in
      omega arith
    where
      same : {n m : ℕ} → In n (m ∷ []) → n ≡ m
      same (inl h) = h
      same (inr h) = absurd h

  -- ---- the priority shown, and the edges: those by the rules

  record Row (p : Pair) (v : ℕ) : Type 0 where
    edges : List ℕ
    leads : Lead g edges (targets x p)
    ranked : priority_in g v ≡ priority rank x p
    -- every edge by the rules is there, and others only where Odd is stuck
    there : (w : ℕ) → In w edges → In w (targets_in g v)
    chosen : owner x p ≡ Even → (w : ℕ) → In w (targets_in g v) → In w edges

  stuck-priority : (p : Pair) (v : ℕ) → At p v → (o : Player) → owner x p ≡ o → targets x p ≡ [] → targets_in g v ≡ v ∷ [] → priority_in g v ≡ stuck_priority o → priority_in g v ≡ priority rank x p
  unfolding stuck_priority
  stuck-priority p v t Even o n e s = absurd (stuck p v t o e s)
  stuck-priority p v t Odd o n e s = s ∙ sym (none_plain x rank p n)

  stuck_owner : (p : Pair) (v : ℕ) → At p v → owner x p ≡ Even → targets_in g v ≡ v ∷ [] → priority_in g v ≡ stuck_priority (owner x p) → ⊥
  unfolding stuck_priority
  stuck_owner p v t o e s = stuck p v t o e (s ∙ ap stuck_priority o)

  row_at : (p : Pair) (v : ℕ) → At p v → Row p v
  row_at p v t = go t.settled.ruled t.settled.added t.settled.edges t.settled.leads t.settled.total
    where
      go : (ruled added : List ℕ) → targets_in g v ≡ ruled ++ added → Lead g ruled (targets x p)
          → Totalised v (owner x p) (priority rank x p) ruled (priority_in g v) added → Row p v
      go [] added e l (s, b) =
          record {
            edges = [];
            leads = l;
            ranked = stuck-priority p v t (owner x p) refl (lead_none g (targets x p) l) (e ∙ b) s;
            there = λ w m. absurd m;
            chosen = λ o w m. absurd (stuck_owner p v t o (e ∙ b) s);
          }
      go (u ∷ us) added e l (s, b) =
          let d : targets_in g v ≡ u ∷ us = e ∙ ap (λ (ws : List ℕ). (u ∷ us) ++ ws) b ∙ append-nil (u ∷ us) in
          record {
            edges = u ∷ us;
            leads = l;
            ranked = s;
            there = λ w m. subst (λ (ws : List ℕ). In w ws) (sym d) m;
            chosen = λ o w m. subst (λ (ws : List ℕ). In w ws) d m;
          }

  -- ---- the region of pairs

  goes_on : (p q : Pair) (v w : ℕ) → At p v → Row p v → vertex_of p ≡ v → Kept g region pick number v w → Stands g w q → region w ≡ true
      → Goes rank x pair_region pair_number EvenBelow p q
  goes_on p q v w t r e kept st c =
      let claimed = stands_claimed q w st c in
      let b = stands_vertex q w st in
      let j = r.ranked in
      record {
        claimed = claimed;
        falls = λ n odd low.
            let (y, z) = measure_falls g region pick number accepted v w kept st.0 n odd (λ h. let d = low (ap is_even (sym j) ∙ h) in omega arith) in
            let ep : pair_number n p ≡ measure g region pick number accepted n v = ap (measure g region pick number accepted n) e in
            let eq : pair_number n q ≡ measure g region pick number accepted n w = ap (measure g region pick number accepted n) b in
            (omega arith, λ h. let f = z (j ∙ h) in omega arith);
      }

  pub pair-region : Region rank x pair_region pair_number EvenBelow
  pair-region =
      record {
        even = λ p h o.
            let v = vertex_of p in
            let t = pair-at p h in
            let r = row_at p v t in
            let i : owner_in g v ≡ 0 = t.settled.owned ∙ ap player_index o in
            let (m, c) = accepted.picks v t.known t.claimed i in
            let (q, n, s) = lead_in g (pick v) r.edges (targets x p) r.leads (r.chosen o (pick v) m) in
            let kept : Kept g region pick number v (pick v) = record { known = t.known; claimed = t.claimed; edge = m; picked = λ z. refl } in
            (q, n, goes_on p q v (pick v) t r refl kept s c);
        odd = λ p q h o n.
            let v = vertex_of p in
            let t = pair-at p h in
            let r = row_at p v t in
            let i : owner_in g v ≡ 1 = t.settled.owned ∙ ap player_index o in
            let (w, m, s) = in_lead g q r.edges (targets x p) r.leads n in
            let e = r.there w m in
            let kept : Kept g region pick number v w = record { known = t.known; claimed = t.claimed; edge = e; picked = λ z. absurd (omega arith) } in
            goes_on p q v w t r refl kept s (accepted.stays v w t.known t.claimed i e);
      }

  pub initial_claimed : pair_region (initial_pair x) ≡ true
  initial_claimed = let (e, st) = cut.first in stands_claimed (initial_pair x) 0 st (ap region (sym e) ∙ accepted.starts)
