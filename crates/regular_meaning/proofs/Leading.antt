-- Where regular formulas lead: a sequence by one and then the other, a choice by either, a star by none or by one pass
-- and then the rest, plus by one pass and then a star. Assumes nothing.
use mathlib.Core.Path.{◌≡◌, refl, sym, subst}
use mathlib.Core.Bool.{true}
use mathlib.Core.List.{List, [], ◌∷◌, ◌++◌}
use mathlib.Core.Logic.{◌⊎◌, inl, inr, ⊎_elim, ◌↔◌}
use Prim.Native.Nat.{ℕ, zero, suc, ◌<◌}
use Rattle.rules.specs.System.{state_count}
use Rattle.tables.specs.Good.{GoodSystem}
use Rattle.arena.proofs.Inside.{transition_inside}
use Rattle.regular_rules.specs.Regular.{Regular, action, sequence, choice, star, plus}
use Rattle.regular_meaning.specs.Paths.{Joined, Times, matches_at, Spells, Path, Leads, MovesAt}

-- ---- paths

module _ (ss : List ℕ) where
  joined_path : (u v : List ℕ) (s m t : ℕ) → Path ss u s m → Path ss v m t → Path ss (u ++ v) s t
  joined_path [] v s m t e q = subst (λ (y : ℕ). Path ss v y t) (sym e) q
  joined_path (l ∷ u) v s m t (i, a, e, p) q = (i, a, e, joined_path u v _ m t p q)

  parted_path : (u v : List ℕ) (s t : ℕ) → Path ss (u ++ v) s t → (m : ℕ) × Path ss u s m × Path ss v m t
  parted_path [] v s t p = (s, refl, p)
  parted_path (l ∷ u) v s t (i, a, e, p) = let (m, q, r) = parted_path u v _ t p in (m, (i, a, e, q), r)

  path_inside : (labels : ℕ) → GoodSystem labels ss → (w : List ℕ) (s t : ℕ) → s < state_count ss → Path ss w s t → t < state_count ss
  path_inside labels good [] s t h e = subst (λ (u : ℕ). u < state_count ss) e h
  path_inside labels good (l ∷ w) s t h (i, a, e, p) = path_inside labels good w _ t (transition_inside labels ss good s h i a).1 p

-- ---- regular formulas

module _ (ls ss acts : List ℕ) where
  abbrev To : Regular → (s t : ℕ) → Type 0
  To r s t = Leads ls ss acts r s t

  -- from s by the first to a state, and from there by the second to t
  abbrev Through : (r q : Regular) → (s t : ℕ) → Type 0
  Through r q s t = (m : ℕ) × Leads ls ss acts r s m × Leads ls ss acts q m t

  pub leads_inside : (labels : ℕ) → GoodSystem labels ss → (r : Regular) (s t : ℕ) → s < state_count ss → To r s t → t < state_count ss
  leads_inside labels good r s t h (w, m, p) = path_inside ss labels good w s t h p

  pub action_leads : (a s t : ℕ) → To (action a) s t ↔ MovesAt ls ss acts a s t
  action_leads a s t = (
    λ (w, (l, m, e), p). one l m (subst (λ (u : List ℕ). Path ss u s t) e p),
    λ (i, k, m, e). (_, (_, m, refl), (i, k, refl, e)),
  )
    where
      one : (l : ℕ) → matches_at ls acts a l ≡ true → Path ss (l ∷ []) s t → MovesAt ls ss acts a s t
      one l m (i, k, e, p) = (i, k, subst (λ (n : ℕ). matches_at ls acts a n ≡ true) (sym e) m, p)

  joined : (P Q : List ℕ → Type 0) (w : List ℕ) (s t : ℕ) → Joined P Q w → Path ss w s t
      → (m : ℕ) × ((u : List ℕ) × P u × Path ss u s m) × ((v : List ℕ) × Q v × Path ss v m t)
  joined P Q w s t (u, v, e, a, b) p =
      let (m, i, j) = parted_path ss u v s t (subst (λ (y : List ℕ). Path ss y s t) e p) in (m, (u, a, i), (v, b, j))

  pub sequence_leads : (r q : Regular) (s t : ℕ) → To (sequence r q) s t ↔ Through r q s t
  sequence_leads r q s t = (
    λ (w, m, p). joined (Spells ls acts r) (Spells ls acts q) w s t m p,
    λ (m, (u, a, i), (v, b, j)). (u ++ v, (u, v, refl, a, b), joined_path ss u v s m t i j),
  )

  pub choice_leads : (r q : Regular) (s t : ℕ) → To (choice r q) s t ↔ (To r s t ⊎ To q s t)
  choice_leads r q s t = (
    λ (w, m, p). ⊎_elim (λ a. inl (w, a, p)) (λ b. inr (w, b, p)) m,
    λ h. ⊎_elim (λ (w, m, p). (w, inl m, p)) (λ (w, m, p). (w, inr m, p)) h,
  )

  pub plus_leads : (r : Regular) (s t : ℕ) → To (plus r) s t ↔ Through r (star r) s t
  plus_leads r s t = (
    λ (w, m, p). joined (Spells ls acts r) (Spells ls acts (star r)) w s t m p,
    λ (m, (u, a, i), (v, b, j)). (u ++ v, (u, v, refl, a, b), joined_path ss u v s m t i j),
  )

  -- ---- star

  pub star_stays : (r : Regular) (s : ℕ) → To (star r) s s
  star_stays r s = ([], (0, refl), refl)

  pub star_goes : (r : Regular) (s m t : ℕ) → To r s m → To (star r) m t → To (star r) s t
  star_goes r s m t (u, a, p) (v, (n, b), q) = (u ++ v, (suc n, (u, v, refl, a, b)), joined_path ss u v s m t p q)

  -- what holds at the end, and goes back over each pass, holds at the start
  pub star_back : (labels : ℕ) → GoodSystem labels ss → (r : Regular) (P : ℕ → Type 0) (t : ℕ) → P t
      → ((s m : ℕ) → s < state_count ss → To r s m → P m → P s) → (s : ℕ) → s < state_count ss → To (star r) s t → P s
  star_back labels good r P t end back s l (w, (n, m), p) = go n w s l m p
    where
      go : (k : ℕ) (v : List ℕ) (s : ℕ) → s < state_count ss → Times k (Spells ls acts r) v → Path ss v s t → P s
      go zero v s l e p = subst P (sym (subst (λ (y : List ℕ). Path ss y s t) e p)) end
      go (suc k) v s l h p =
          let (m, i, (u, a, j)) = joined (Spells ls acts r) (Times k (Spells ls acts r)) v s t h p in
          back s m l i (go k u m (leads_inside labels good r s m l i) a j)
