-- Sums over the settled vertices: a step adds the weight of the vertex that it settles, and no sum ever falls. Assumes
-- nothing; that the test is equality is a parameter.
use mathlib.Core.Path.{◌≡◌, refl, sym, ap, ◌∙◌, subst}
use mathlib.Core.Bool.{Bool, true, false, cond}
use mathlib.Core.List.{List, [], ◌∷◌}
use mathlib.Core.Logic.{inl, inr, ⊎_elim}
use Prim.Native.Nat.{ℕ, zero, suc, ◌+◌, ◌-◌, ◌≤◌, ◌<◌}
use native.Mathlib.Nat.{add-zero, add-suc, le_refl, le_trans}
use native.Mathlib.Decide.{ℕ_discrete}
use native.Mathlib.Omega.{arith}
use lib.ListN.{length, get_or}
use lib.Dec.{eqb}
use Rattle.rules.specs.Lists.{In, has, insert_all}
use Rattle.rules.specs.Walk.{Stand, push_new, settle, step_from, step, walk}
use Rattle.lists.specs.Shapes.{Equality, Begins}
use Rattle.lists.proofs.Members.{in_has, not_in, no_in, has_in}
use Rattle.lists.proofs.Shapes.{falling_below, begins_length, begins-at}
use Rattle.lists.proofs.Inserts.{inserts_begins}
use Rattle.lists.proofs.Equalities.{number_equality}
use Rattle.walks.specs.Sums.{stand_with, sum_below, sum_settled}
use Rattle.walks.proofs.Push.{push_before, push_holds, push_only}
use Rattle.walks.proofs.Steps.{Sound, sound, walk_step}

module _ {A : Type 0} (weight : A → ℕ) (root : A) where
  -- what vertex u adds to the sum
  unfoldable pub term : Stand A → ℕ → ℕ
  term st u = cond (has eqb u st.waiting) 0 (weight (get_or st.known u root))

  pub term_waits : (st : Stand A) (u : ℕ) → In u st.waiting → term st u ≡ 0
  unfolding term
  term_waits st u m = rw (in_has number_equality u st.waiting m) refl

  pub term_settled : (st : Stand A) (u : ℕ) → (¬ In u st.waiting) → term st u ≡ weight (get_or st.known u root)
  unfolding term
  term_settled st u n = rw (not_in number_equality u st.waiting n) refl

  pub sum-suc : (st : Stand A) (u : ℕ) → sum_below weight root st (suc u) ≡ term st u + sum_below weight root st u
  unfolding term sum_below
  sum-suc st u = refl

  pub sum_none : (st : Stand A) → sum_below weight root st 0 ≡ 0
  unfolding sum_below
  sum_none st = refl

  -- a waiting vertex adds nothing, a settled one its weight
  pub sum_waits : (st : Stand A) (u : ℕ) → In u st.waiting → sum_below weight root st (suc u) ≡ sum_below weight root st u
  sum_waits st u m = omega (arith, sum-suc st u, term_waits st u m)

  pub sum_settles : (st : Stand A) (u : ℕ) → (¬ In u st.waiting) → sum_below weight root st (suc u) ≡ weight (get_or st.known u root) + sum_below weight root st u
  sum_settles st u n = omega (arith, sum-suc st u, term_settled st u n)

  pub sum_same : (st st' : Stand A) (n : ℕ) → ((u : ℕ) → u < n → term st' u ≡ term st u) → sum_below weight root st' n ≡ sum_below weight root st n
  sum_same st st' zero same = sum_none st' ∙ sym (sum_none st)
  sum_same st st' (suc u) same = omega (arith, sum-suc st u, sum-suc st' u, same u (omega arith), sum_same st st' u (λ w h. same w (omega arith)))

  -- the sums differ by what v adds, if no other vertex differs
  sum_one : (st st' : Stand A) (v n : ℕ) → v < n → term st v ≡ 0 → ((u : ℕ) → u < n → (¬ (u ≡ v)) → term st' u ≡ term st u)
      → sum_below weight root st' n ≡ term st' v + sum_below weight root st n
  sum_one st st' v zero l z same = absurd (omega arith)
  sum_one st st' v (suc u) l z same = go (ℕ_discrete v u) (λ h. sum_one st st' v u h z (λ w b d. same w (omega arith) d))
    where
      go : Dec (v ≡ u) → (v < u → sum_below weight root st' u ≡ term st' v + sum_below weight root st u)
          → sum_below weight root st' (suc u) ≡ term st' v + sum_below weight root st (suc u)
      go (yes e) ih =
          omega (
            arith,
            sum-suc st u,
            sum-suc st' u,
            z,
            ap (term st) e,
            ap (term st') e,
            sum_same st st' u (λ w h. same w (omega arith) (omega arith)),
          )
      go (no d) ih = omega (arith, sum-suc st u, sum-suc st' u, same u (omega arith) (omega arith), ih (omega arith))

  -- vertices that all wait add nothing
  sum_waiting : (st : Stand A) (n c : ℕ) → ((u : ℕ) → n ≤ u → u < n + c → In u st.waiting) → sum_below weight root st (n + c) ≡ sum_below weight root st n
  sum_waiting st n zero all = ap (sum_below weight root st) (add-zero n)
  sum_waiting st n (suc c) all =
      ap (sum_below weight root st) (add-suc n c) ∙
      omega (arith, sum-suc st (n + c), term_waits st (n + c) (all (n + c) (omega arith) (omega arith)), sum_waiting st n c (λ u h l. all u h (omega arith)))

module _ {A : Type 0} {same : A → A → Bool} (eq : Equality same) (next : A → List A) (root : A) (weight : A → ℕ) where
  pub sum_settle : (known : List A) (v : ℕ) (rest : List ℕ) → Sound next root known (v ∷ rest)
      → sum_settled weight root (settle same next root known v rest) ≡ weight (get_or known v root) + sum_settled weight root (stand_with known (v ∷ rest))
  unfolding sum_settled settle
  sum_settle known v rest s =
      ap (sum_below weight root st') (omega (arith, begins_length known more b))
      ∙ sum_waiting weight root st' (length known) (length more - length known) (λ u h l. push_holds (length known) (length more - length known) rest u h l)
      ∙ sum_one weight root st st' v (length known) s.falling.0 (term_waits weight root st v (inl refl)) alike
      ∙ ap (λ (x : ℕ). x + sum_below weight root st (length known)) (term_settled weight root st' v fresh ∙ ap weight (begins-at known more root b v s.falling.0))
    where
      more : List A
      more = insert_all same known (next (get_or known v root))

      b : Begins known more
      b = inserts_begins eq known (next (get_or known v root))

      st : Stand A
      st = stand_with known (v ∷ rest)

      st' : Stand A
      st' = stand_with more (push_new (length known) (length more - length known) rest)

      fresh : ¬ In v st'.waiting
      fresh m = ⊎_elim (λ h. omega (arith, s.falling.0)) (λ i. omega (arith, falling_below v rest s.falling.1 v i))
          (push_only (length known) (length more - length known) rest v m)

      alike : (u : ℕ) → u < length known → (¬ (u ≡ v)) → term weight root st' u ≡ term weight root st u
      alike u h d = go (has eqb u rest) refl
        where
          go : (t : Bool) → has eqb u rest ≡ t → term weight root st' u ≡ term weight root st u
          go true e =
              let m = has_in number_equality u rest e in
              term_waits weight root st' u (push_before (length known) (length more - length known) rest u m) ∙ sym (term_waits weight root st u (inr m))
          go false e =
              let n = no_in number_equality u rest e in
              term_settled weight root st' u (λ m. ⊎_elim (λ l. omega arith) n (push_only (length known) (length more - length known) rest u m))
              ∙ ap weight (begins-at known more root b u h)
              ∙ sym (term_settled weight root st u (λ m. ⊎_elim d n m))

  sum-from : (known : List A) (waiting : List ℕ) → Sound next root known waiting
      → sum_settled weight root (stand_with known waiting) ≤ sum_settled weight root (step_from same next root known waiting)
  unfolding step_from
  sum-from known [] s = le_refl _
  sum-from known (v ∷ rest) s = omega (arith, sum_settle known v rest s)

  pub sum_step : (st : Stand A) → Sound next root st.known st.waiting → sum_settled weight root st ≤ sum_settled weight root (step same next root st)
  unfolding step
  sum_step st s = sum-from st.known st.waiting s

  -- the sum over the settled vertices never falls
  pub sum_walk : (k j : ℕ) → sum_settled weight root (walk same next root k) ≤ sum_settled weight root (walk same next root (k + j))
  sum_walk k zero = rw add-zero (le_refl _)
  sum_walk k (suc j) =
      rw (add-suc k j)
      (subst (λ (st : Stand A). sum_settled weight root (walk same next root k) ≤ sum_settled weight root st) (sym (walk_step same next root (k + j)))
      (le_trans (sum_walk k j) (sum_step (walk same next root (k + j)) (sound eq next root (k + j)))))
