-- What holds of a walk at every step: k + 1 steps are k steps and one more; the known elements are distinct and
-- reachable, the waiting vertices fall, and the targets of the settled ones are known. Assumes nothing; that the test
-- is equality is a parameter.
use mathlib.Core.Path.{◌≡◌, refl, sym, ap, ◌∙◌, subst}
use mathlib.Core.Bool.{Bool}
use mathlib.Core.List.{List, [], ◌∷◌}
use mathlib.Core.Logic.{inl, ⊎_elim}
use Prim.Native.Nat.{ℕ, zero, suc, ◌+◌, ◌-◌, ◌≤◌, ◌<◌}
use native.Mathlib.Nat.{add-zero, add-suc}
use native.Mathlib.Decide.{dec_lt, ℕ_discrete}
use native.Mathlib.Omega.{arith}
use lib.ListN.{length, get_or}
use Rattle.rules.specs.Lists.{In, Distinct, position, insert_all}
use Rattle.rules.specs.Walk.{Stand, push_new, settle, step_from, step, steps_from, walk}
use Rattle.rules.specs.Reach.{Reachable, at_root, onward}
use Rattle.lists.specs.Shapes.{Equality, Falling, Begins}
use Rattle.lists.proofs.Members.{in_at, position_below, position_at}
use Rattle.lists.proofs.Shapes.{falling_above, begins_refl, begins_trans, begins_length, begins_in, begins-at}
use Rattle.lists.proofs.Inserts.{inserts_begins, inserts_holds, inserts_only, inserts_distinct}
use Rattle.walks.specs.Sums.{stand_with, settled}
use Rattle.walks.proofs.Push.{push_falling, push_length, push_before, push_holds}

-- ---- one step more

module _ {A : Type 0} (same : A → A → Bool) (next : A → List A) (root : A) where
  steps_suc : (k : ℕ) (known : List A) (waiting : List ℕ) → steps_from same next root (suc k) known waiting ≡ step same next root (steps_from same next root k known waiting)
  unfolding steps_from step step_from
  steps_suc zero known [] = refl
  steps_suc zero known (v ∷ rest) = refl
  steps_suc (suc k) known [] = refl
  steps_suc (suc k) known (v ∷ rest) = steps_suc k (settle same next root known v rest).known (settle same next root known v rest).waiting

  pub walk_start : walk same next root 0 ≡ stand_with (root ∷ []) (0 ∷ [])
  unfolding walk steps_from
  walk_start = refl

  pub walk_step : (k : ℕ) → walk same next root (suc k) ≡ step same next root (walk same next root k)
  unfolding walk
  walk_step k = steps_suc k (root ∷ []) (0 ∷ [])

  -- a step, by the vertices that wait
  pub step-none : (known : List A) → step same next root (stand_with known []) ≡ stand_with known []
  unfolding step step_from
  step-none known = refl

  -- what holds at the start and is kept by a step holds of every walk
  pub walk_all : (P : Stand A → Type 0) → P (stand_with (root ∷ []) (0 ∷ [])) → ((st : Stand A) → P st → P (step same next root st)) → (k : ℕ) → P (walk same next root k)
  walk_all P start on zero = subst P (sym walk_start) start
  walk_all P start on (suc k) = subst P (sym (walk_step k)) (on (walk same next root k) (walk_all P start on k))

  -- with nothing waiting nothing changes
  pub step_idle : (st : Stand A) → st.waiting ≡ [] → step same next root st ≡ st
  unfolding step step_from
  step_idle st e = ap (step_from same next root st.known) e ∙ ap (λ (w : List ℕ). stand_with st.known w) (sym e)

  pub idle_walk : (k j : ℕ) → (walk same next root k).waiting ≡ [] → walk same next root (k + j) ≡ walk same next root k
  idle_walk k zero e = ap (walk same next root) (add-zero k)
  idle_walk k (suc j) e =
      ap (walk same next root) (add-suc k j) ∙ walk_step (k + j) ∙ ap (step same next root) (idle_walk k j e) ∙ step_idle (walk same next root k) e

  -- what holds between the walk after k and after k + j steps holds between k and any later one
  pub walk_later : (k j : ℕ) → k ≤ j → (P : Stand A → Type 0) → ((i : ℕ) → P (walk same next root (k + i))) → P (walk same next root j)
  walk_later k j h P f = subst (λ (n : ℕ). P (walk same next root n)) (omega arith) (f (j - k))

-- ---- what holds at every step

module _ {A : Type 0} (next : A → List A) (root : A) where
  pub record Sound (known : List A) (waiting : List ℕ) : Type 0 where
    pub distinct : Distinct known
    pub rooted : In root known
    pub reached : (x : A) → In x known → Reachable next root x
    pub falling : Falling (length known) waiting
    pub edges : (v : ℕ) → v < length known → (¬ In v waiting) → (q : A) → In q (next (get_or known v root)) → In q known

module _ {A : Type 0} {same : A → A → Bool} (eq : Equality same) (next : A → List A) (root : A) where
  pub sound_settle : (known : List A) (v : ℕ) (rest : List ℕ) → Sound next root known (v ∷ rest)
      → Sound next root (settle same next root known v rest).known (settle same next root known v rest).waiting
  unfolding settle
  sound_settle known v rest s =
      record {
        distinct = inserts_distinct eq known ts s.distinct;
        rooted = begins_in known more b root s.rooted;
        reached = λ x m. ⊎_elim (s.reached x) (λ i. onward (s.reached (get_or known v root) (in_at known v root s.falling.0)) i) (inserts_only eq known ts x m);
        falling = falling_above (length known + (length more - length known)) (length more) (push_new (length known) (length more - length known) rest) (omega (arith, begins_length known more b))
            (push_falling (length known) (length more - length known) rest (falling_above v (length known) rest (omega (arith, s.falling.0)) s.falling.1));
        edges = edges;
      }
    where
      ts : List A
      ts = next (get_or known v root)

      more : List A
      more = insert_all same known ts

      b : Begins known more
      b = inserts_begins eq known ts

      edges : (w : ℕ) → w < length more → (¬ In w (push_new (length known) (length more - length known) rest)) → (q : A) → In q (next (get_or more w root)) → In q more
      edges w h n q m = old_or_new (dec_lt w (length known)) (ℕ_discrete w v)
        where
          old_or_new : Dec (w < length known) → Dec (w ≡ v) → In q more
          old_or_new (no d) e = absurd (n (push_holds (length known) (length more - length known) rest w (omega arith) (omega (arith, begins_length known more b))))
          old_or_new (yes l) (yes e) =
              inserts_holds eq known ts q (subst (λ (p : A). In q (next p)) (begins-at known more root b w l ∙ ap (λ (u : ℕ). get_or known u root) e) m)
          old_or_new (yes l) (no d) =
              begins_in known more b q
              (s.edges w l (λ i. ⊎_elim d (λ j. n (push_before (length known) (length more - length known) rest w j)) i) q
              (subst (λ (p : A). In q (next p)) (begins-at known more root b w l) m))

  pub sound_from : (known : List A) (waiting : List ℕ) → Sound next root known waiting
      → Sound next root (step_from same next root known waiting).known (step_from same next root known waiting).waiting
  unfolding step_from
  sound_from known [] s = s
  sound_from known (v ∷ rest) s = sound_settle known v rest s

  pub sound_step : (st : Stand A) → Sound next root st.known st.waiting → Sound next root (step same next root st).known (step same next root st).waiting
  unfolding step
  sound_step st s = sound_from st.known st.waiting s

  pub sound_start : Sound next root (root ∷ []) (0 ∷ [])
  sound_start =
      record {
        distinct = (λ m. m, tt);
        rooted = inl refl;
        reached = λ x m. ⊎_elim (λ e. subst (Reachable next root) (sym e) at_root) (λ z. absurd z) m;
        falling = (omega arith, tt);
        edges = λ v h n. absurd (n (inl (omega arith)));
      }

  pub sound : (k : ℕ) → Sound next root (walk same next root k).known (walk same next root k).waiting
  sound k = walk_all same next root (λ st. Sound next root st.known st.waiting) sound_start sound_step k

  -- ---- what a step changes

  begins_from : (known : List A) (waiting : List ℕ) → Begins known (step_from same next root known waiting).known
  unfolding step_from settle
  begins_from known [] = begins_refl known
  begins_from known (v ∷ rest) = inserts_begins eq known (next (get_or known v root))

  pub begins_step : (st : Stand A) → Begins st.known (step same next root st).known
  unfolding step
  begins_step st = begins_from st.known st.waiting

  -- the known elements only grow at their end
  pub begins_walk : (k j : ℕ) → Begins (walk same next root k).known (walk same next root (k + j)).known
  begins_walk k zero = rw add-zero (begins_refl (walk same next root k).known)
  begins_walk k (suc j) =
      rw (add-suc k j)
      (subst (λ (st : Stand A). Begins (walk same next root k).known st.known) (sym (walk_step same next root (k + j)))
      (begins_trans (walk same next root k).known (walk same next root (k + j)).known (step same next root (walk same next root (k + j))).known (begins_walk k j)
      (begins_step (walk same next root (k + j)))))

  pub settled_settle : (known : List A) (v : ℕ) (rest : List ℕ) → suc (length rest) ≤ length known
      → settled (settle same next root known v rest) ≡ suc (length known - suc (length rest))
  unfolding settled settle
  settled_settle known v rest h =
      omega (
        arith,
        push_length (length known) (length (insert_all same known (next (get_or known v root))) - length known) rest,
        begins_length known (insert_all same known (next (get_or known v root))) (inserts_begins eq known (next (get_or known v root))),
      )

  -- with nothing waiting all is known
  pub all_known : (known : List A) → Sound next root known [] → (p : A) → Reachable next root p → In p known
  all_known known s p at_root = s.rooted
  all_known known s p (onward {p = o} r m) =
      s.edges (position same o known) (position_below eq o known (all_known known s o r)) (λ z. z) p
      (subst (λ (u : A). In p (next u)) (sym (position_at eq o known root (all_known known s o r))) m)
