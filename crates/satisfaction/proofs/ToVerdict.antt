-- A region of pairs that is claimed with its reasons is a verdict on the words of a finished run's game, and it is
-- accepted. Assumes nothing.
use mathlib.Core.Path.{◌≡◌, refl, sym, ap, subst, ◌∙◌}
use mathlib.Core.Bool.{Bool, true, false, true≢false, false≢true}
use mathlib.Core.List.{List, [], ◌∷◌, ◌++◌, append-nil}
use mathlib.Core.Logic.{◌⊎◌, inl, inr}
use Prim.Native.Nat.{ℕ, ◌≤◌, ◌<◌}
use native.Mathlib.Omega.{arith}
use Rattle.player.specs.Player.{player_index}
use Rattle.player.specs.declared.Player.{Player}
use Rattle.player.specs.declared.Player.TheVariants.{Even, Odd}
use Rattle.rules.specs.declared.Answer.{Answer}
use Rattle.rules.specs.Lists.{In, position}
use Rattle.rules.specs.Words.{Input}
use Rattle.rules.specs.Depth.{Ranking}
use Rattle.rules.specs.Pairs.{Pair, same_pair, initial_pair, owner, priority, targets}
use Rattle.rules.specs.Reach.{N}
use Rattle.rules.specs.Game.{vertex_count, owner_in, priority_in, pair_in, pairs_in, targets_in}
use Rattle.rules.specs.Vertices.{stuck_priority}
use Rattle.rules.specs.Demands.{Stands, Lead, Totalised, SettledRow, CutTheorem}
use Rattle.lists.proofs.Members.{in_left}
use Rattle.theorems.proofs.Pairs.{lead_in, in_lead, lead_none, stands_once, stands_position}
use Rattle.satisfaction.specs.Ranks.{is_even}
use Rattle.satisfaction.specs.Verdict.{Kept, AcceptedVerdict}
use Rattle.satisfaction.proofs.Vertices.{none_plain}
use Rattle.satisfaction.proofs.Regions.{BothBelow, Goes, Region}

module _ (rank : Ranking) (x : Input) (k : ℕ) (a : Answer) (g : List ℕ) (cut : CutTheorem rank x k a g) (enough : N x ≤ k)
    (claimed : Pair → Bool) (number : ℕ → Pair → ℕ) (region : Region rank x claimed number BothBelow) (starts : claimed (initial_pair x) ≡ true) where
  abbrev ps : List Pair
  ps = pairs_in g

  abbrev at : ℕ → Pair
  at v = pair_in g v

  -- ---- the verdict

  pub region_at : ℕ → Bool
  region_at v = claimed (at v)

  pub number_at : ℕ → ℕ → ℕ
  number_at n v = number n (at v)

  -- Even's target at a claimed pair
  pick_from : (p : Pair) (b : Bool) → claimed p ≡ b → (o : Player) → owner x p ≡ o → Pair
  pick_from p true e Even o = (region.even p e o).0
  pick_from p true e Odd o = p
  pick_from p false e r o = p

  picked : Pair → Pair
  picked p = pick_from p (claimed p) refl (owner x p) refl

  pub pick_at : ℕ → ℕ
  pick_at v = position same_pair (picked (at v)) ps

  abbrev GoesTo : Pair → Pair → Type 0
  GoesTo p q = Goes rank x claimed number BothBelow p q

  from_goes : (p : Pair) (b : Bool) (e : claimed p ≡ b) (r : Player) (o : owner x p ≡ r) → b ≡ true → r ≡ Even → In (pick_from p b e r o) (targets x p) × GoesTo p (pick_from p b e r o)
  unfolding pick_from
  from_goes p true e Even o i j = let z = region.even p e o in (z.1, z.2)
  from_goes p true e Odd o i j = let z : ◌≡◌ {A = ℕ} 1 0 = ap player_index j in absurd (omega arith)
  from_goes p false e r o i j = absurd (false≢true i)

  picked_goes : (p : Pair) → claimed p ≡ true → owner x p ≡ Even → In (picked p) (targets x p) × GoesTo p (picked p)
  unfolding picked
  picked_goes p i j = from_goes p (claimed p) refl (owner x p) refl i j

  -- ---- a vertex and its pair

  row_at : (v : ℕ) → v < vertex_count g → SettledRow rank x g v (at v)
  row_at v h =
      let (u, s, o) = cut.complete enough (at v) (cut.reached v h) in
      cut.settled v h (subst (λ (w : ℕ). owner_in g w < 2) (stands_once g cut.distinct u v (at v) s (h, refl)) o)

  stands_vertex : (q : Pair) (w : ℕ) → Stands g w q → position same_pair q ps ≡ w
  stands_vertex q w s = stands_position g cut.distinct w q s

  owner_of : (v : ℕ) (r : Player) → SettledRow rank x g v (at v) → owner_in g v ≡ player_index r → owner x (at v) ≡ r
  owner_of v r row e = go (owner x (at v)) r (sym row.owned ∙ e)
    where
      go : (o r : Player) → player_index o ≡ player_index r → o ≡ r
      go Even Even i = refl
      go Even Odd i = absurd (omega arith)
      go Odd Even i = absurd (omega arith)
      go Odd Odd i = refl

  -- the priority shown is not below the rules'
  row_priority : (v : ℕ) → SettledRow rank x g v (at v) → priority rank x (at v) ≤ priority_in g v
  row_priority v row = go row.ruled row.added row.leads row.total
    where
      go : (ruled added : List ℕ) → Lead g ruled (targets x (at v)) → Totalised v (owner x (at v)) (priority rank x (at v)) ruled (priority_in g v) added → priority rank x (at v) ≤ priority_in g v
      go [] added l t = omega (arith, none_plain x rank (at v) (lead_none g (targets x (at v)) l))
      go (u ∷ us) added l (s, b) = omega arith

  -- ---- kept edges: by the rules, or an added loop of Odd

  abbrev Edge : ℕ → ℕ → Type 0
  Edge v w = ((q : Pair) × In q (targets x (at v)) × Stands g w q × (priority_in g v ≡ priority rank x (at v))) ⊎ ((w ≡ v) × (targets x (at v) ≡ []) × (priority_in g v ≡ stuck_priority (owner x (at v))))

  edge_at : (v w : ℕ) → SettledRow rank x g v (at v) → In w (targets_in g v) → Edge v w
  edge_at v w row m = go row.ruled row.added row.leads row.total (subst (λ (l : List ℕ). In w l) row.edges m)
    where
      go : (ruled added : List ℕ) → Lead g ruled (targets x (at v)) → Totalised v (owner x (at v)) (priority rank x (at v)) ruled (priority_in g v) added → In w (ruled ++ added) → Edge v w
      go [] added l (s, b) i = inr (same (subst (λ (us : List ℕ). In w us) b i), lead_none g (targets x (at v)) l, s)
        where
          same : {u : ℕ} → In w (u ∷ []) → w ≡ u
          same (inl e) = e
          same (inr e) = absurd e
      go (u ∷ us) added l (s, b) i =
          let (q, n, st) = lead_in g w (u ∷ us) (targets x (at v)) l (subst (λ (es : List ℕ). In w es) (append-nil (u ∷ us)) (subst (λ (es : List ℕ). In w ((u ∷ us) ++ es)) b i)) in
          inl (q, n, st, s)

  to_vertex : (v : ℕ) (q : Pair) → SettledRow rank x g v (at v) → In q (targets x (at v)) → In (position same_pair q ps) (targets_in g v) × Stands g (position same_pair q ps) q
  to_vertex v q row m =
      let (w, i, st) = in_lead g q row.ruled (targets x (at v)) row.leads m in
      let e = stands_vertex q w st in (
        subst (λ (l : List ℕ). In (position same_pair q ps) l) (sym row.edges) (in_left (position same_pair q ps) row.ruled row.added (subst (λ (u : ℕ). In u row.ruled) (sym e) i)),
        subst (λ (u : ℕ). Stands g u q) (sym e) st,
      )

  -- ---- the verdict is accepted

  numbers_fall : (v w n : ℕ) → w < vertex_count g → GoesTo (at v) (at w) → priority_in g v ≡ priority rank x (at v) → is_even n ≡ false
      → priority_in g v ≤ n → priority_in g w ≤ n → (number_at n w ≤ number_at n v) × (priority_in g v ≡ n → number_at n w < number_at n v)
  unfolding number_at
  numbers_fall v w n c goes e odd l m =
      let (y, z) = goes.falls n odd (omega arith, omega (arith, row_priority w (row_at w c))) in
      (y, λ i. z (sym e ∙ i))

  -- along a kept edge by the rules
  kept_goes : (v w : ℕ) (q : Pair) → Kept g region_at pick_at number_at v w → In q (targets x (at v)) → Stands g w q → GoesTo (at v) (at w)
  unfolding region_at pick_at
  kept_goes v w q kept i st = go (owner x (at v)) refl
    where
      go : (o : Player) → owner x (at v) ≡ o → GoesTo (at v) (at w)
      go Odd o = subst (λ (z : Pair). GoesTo (at v) z) (sym st.1) (region.odd (at v) q kept.claimed o i)
      go Even o =
          let e : w ≡ position same_pair (picked (at v)) ps = kept.picked ((row_at v kept.known).owned ∙ ap player_index o) in
          let (m, h) = picked_goes (at v) kept.claimed o in
          let (j, t) = to_vertex v (picked (at v)) (row_at v kept.known) m in
          subst (λ (z : Pair). GoesTo (at v) z) (sym t.1 ∙ ap at (sym e)) h

  -- a stuck vertex that is claimed is Odd's
  stuck-priority : (v : ℕ) → claimed (at v) ≡ true → targets x (at v) ≡ [] → priority_in g v ≡ stuck_priority (owner x (at v)) → priority_in g v ≡ 0
  unfolding stuck_priority
  stuck-priority v r t s = go (owner x (at v)) refl
    where
      go : (o : Player) → owner x (at v) ≡ o → priority_in g v ≡ 0
      go Even o = absurd (subst (λ (l : List Pair). In (picked (at v)) l) t (picked_goes (at v) r o).0)
      go Odd o = s ∙ ap stuck_priority o

  edge_falls : (v w n : ℕ) → Kept g region_at pick_at number_at v w → is_even n ≡ false → priority_in g v ≤ n → priority_in g w ≤ n → Edge v w
      → (number_at n w ≤ number_at n v) × (priority_in g v ≡ n → number_at n w < number_at n v)
  unfolding is_even region_at
  edge_falls v w n kept odd l m (inl (q, i, st, s)) =
      numbers_fall v w n st.0 (kept_goes v w q kept i st) s odd l m
  edge_falls v w n kept odd l m (inr (e, t, s)) =
      let z = stuck-priority v kept.claimed t s in
      let y : number_at n w ≡ number_at n v = ap (number_at n) e in
      (omega arith, λ i. absurd (true≢false (ap is_even (sym z ∙ i) ∙ odd)))

  pub claims_accepted : AcceptedVerdict g region_at pick_at number_at
  unfolding region_at pick_at
  claims_accepted =
      record {
        starts = let (e, st) = cut.first in ap (λ (v : ℕ). claimed (at v)) e ∙ ap claimed st.1 ∙ starts;
        picks = λ v l r o.
            let row = row_at v l in
            let (m, h) = picked_goes (at v) r (owner_of v Even row o) in
            let (i, st) = to_vertex v (picked (at v)) row m in
            (i, ap claimed st.1 ∙ h.claimed);
        stays = λ v w l r o m. stay v w r (owner_of v Odd (row_at v l) o) (edge_at v w (row_at v l) m);
        falls = λ v w n kept odd l m. edge_falls v w n kept odd.0 l m (edge_at v w (row_at v kept.known) kept.edge);
      }
    where
      stay : (v w : ℕ) → claimed (at v) ≡ true → owner x (at v) ≡ Odd → Edge v w → claimed (at w) ≡ true
      stay v w r o (inl (q, n, st, s)) = ap claimed st.1 ∙ (region.odd (at v) q r o n).claimed
      stay v w r o (inr (e, t, s)) = ap (λ (u : ℕ). claimed (at u)) e ∙ r
