-- The walk with its stack is what the relation `After` says, which mentions no stack; and so room is exceeded within
-- the first k steps exactly if it is after k steps. Assumes nothing; that the test is equality is a parameter.
use mathlib.Core.Path.{◌≡◌, refl, sym, ap, ap₂, ◌∙◌, subst}
use mathlib.Core.Bool.{Bool}
use mathlib.Core.List.{List, [], ◌∷◌, map}
use mathlib.Core.Logic.{◌⊎◌, inl, inr, ⊎_elim, ◌↔◌}
use Prim.Native.Nat.{ℕ, zero, suc, ◌+◌, ◌-◌, ◌≤◌, ◌<◌}
use native.Mathlib.Nat.{le_refl}
use native.Mathlib.Decide.{dec_lt}
use native.Mathlib.Omega.{arith}
use lib.ListN.{length, get_or}
use Rattle.rules.specs.Lists.{In, Distinct, has, sum, insert, insert_all}
use Rattle.rules.specs.Walk.{Stand, push_new, settle, step_from, step, walk}
use Rattle.rules.specs.Demands.{Numbers, numbered, old, new, Waits, After, start, settles, rests}
use Rattle.lists.specs.Shapes.{Equality, Begins}
use Rattle.lists.proofs.Shapes.{falling_below, falling_length, begins_length, begins-at}
use Rattle.lists.proofs.Inserts.{insert_cases, inserts_begins}
use Rattle.walks.specs.Sums.{stand_with, settled, Settled, sum_below, sum_settled}
use Rattle.walks.proofs.Push.{push_before, push_holds, push_only}
use Rattle.walks.proofs.Steps.{Sound, sound, settled_settle, walk_start, walk_step}
use Rattle.walks.proofs.Sums.{sum_settle}
use Rattle.walks.proofs.Facts.{walk_keeps, walk_grows}
use Rattle.walks.proofs.Only.{after_only}

module _ {A : Type 0} where
  -- the known vertices are those that wait and those in `order`, and no vertex is both
  pub record Parts (known : List A) (waiting order : List ℕ) : Type 0 where
    pub apart : (u : ℕ) → In u waiting → ¬ In u order
    pub either : (u : ℕ) → u < length known → In u waiting ⊎ In u order
    pub below : (u : ℕ) → In u order → u < length known

  -- the weights of the elements of these vertices, summed
  abbrev pub weighed : (A → ℕ) → A → List A → List ℕ → ℕ
  weighed weight root known order = sum (map (λ v. weight (get_or known v root)) order)

  weighed_begins : (weight : A → ℕ) (root : A) (known more : List A) (order : List ℕ) → Begins known more → ((u : ℕ) → In u order → u < length known)
      → weighed weight root more order ≡ weighed weight root known order
  unfolding sum
  weighed_begins weight root known more [] b l = refl
  weighed_begins weight root known more (v ∷ order) b l =
      ap₂ (λ (m n : ℕ). m + n) (ap weight (begins-at known more root b v (l v (inl refl)))) (weighed_begins weight root known more order b (λ u m. l u (inr m)))

module _ {A : Type 0} {same : A → A → Bool} (eq : Equality same) where
  pub numbers : (known ts : List A) → Numbers known ts (insert_all same known ts)
  unfolding insert_all
  numbers known [] = numbered
  numbers known (t ∷ ts) = go (λ l. numbers l ts)
    where
      go : ((l : List A) → Numbers l ts (insert_all same l ts)) → Numbers known (t ∷ ts) (insert_all same (insert same known t) ts)
      go ih =
          insert_cases eq (λ l. Numbers l ts (insert_all same l ts) → Numbers known (t ∷ ts) (insert_all same l ts)) known t (λ m n. old m n) (λ m n. new m n)
          (ih (insert same known t))

module _ {A : Type 0} (next : A → List A) (root : A) where
  -- `order` are the settled vertices, the latest first
  pub record Stands (k : ℕ) (known : List A) (waiting : List ℕ) : Type 0 where
    pub order : List ℕ
    pub parts : Parts known waiting order
    pub after : After next root k known order
    pub distinct : Distinct order
    pub counted : length order ≡ length known - length waiting
    pub summed : (weight : A → ℕ) → weighed weight root known order ≡ sum_settled weight root (stand_with known waiting)

module _ {A : Type 0} {same : A → A → Bool} (eq : Equality same) (next : A → List A) (root : A) where
  stands_settle : (k : ℕ) (known : List A) (v : ℕ) (rest : List ℕ) → Sound next root known (v ∷ rest) → Stands next root k known (v ∷ rest)
      → Stands next root (suc k) (settle same next root known v rest).known (settle same next root known v rest).waiting
  unfolding settle settled sum
  stands_settle k known v rest s t =
      record {
        order = v ∷ t.order;
        parts = record {
          apart = λ u m i. ⊎_elim (λ h. ⊎_elim (λ e. omega (arith, s.falling.0)) (λ j. omega (arith, t.parts.below u j)) i)
              (λ b. ⊎_elim (λ e. let l = falling_below v rest s.falling.1 u b in omega arith) (λ j. t.parts.apart u (inr b) j) i)
              (push_only n c rest u m);
          either = either;
          below = λ u m. ⊎_elim (λ e. omega (arith, s.falling.0, longer)) (λ j. omega (arith, t.parts.below u j, longer)) m;
        };
        after = settles v t.after (s.falling.0, t.parts.apart v (inl refl)) last (numbers eq known ts);
        distinct = (t.parts.apart v (inl refl), t.distinct);
        counted = omega (arith, t.counted, settled_settle eq next root known v rest room);
        summed = λ weight.
            ap₂ (λ (a b : ℕ). a + b) (ap weight (begins-at known more root begins v s.falling.0))
            (weighed_begins weight root known more t.order begins t.parts.below ∙ t.summed weight)
            ∙ sym (sum_settle eq next root weight known v rest s);
      }
    where
      ts : List A
      ts = next (get_or known v root)

      more : List A
      more = insert_all same known ts

      n : ℕ
      n = length known

      c : ℕ
      c = length more - length known

      begins : Begins known more
      begins = inserts_begins eq known ts

      longer : length known ≤ length more
      longer = begins_length known more begins

      room : suc (length rest) ≤ length known
      room = falling_length (length known) (v ∷ rest) s.falling

      last : (u : ℕ) → Waits known t.order u → u ≤ v
      last u w =
          ⊎_elim (λ i. ⊎_elim (λ e. omega arith) (λ b. let l = falling_below v rest s.falling.1 u b in omega arith) i) (λ o. absurd (w.1 o))
          (t.parts.either u w.0)

      either : (u : ℕ) → u < length more → In u (push_new n c rest) ⊎ In u (v ∷ t.order)
      either u h = go (dec_lt u (length known))
        where
          go : Dec (u < length known) → In u (push_new n c rest) ⊎ In u (v ∷ t.order)
          go (no d) = inl (push_holds n c rest u (omega arith) (omega (arith, longer)))
          go (yes l) = ⊎_elim (λ i. ⊎_elim (λ e. inr (inl e)) (λ b. inl (push_before n c rest u b)) i) (λ o. inr (inr o)) (t.parts.either u l)

  stands_from : (k : ℕ) (known : List A) (waiting : List ℕ) → Sound next root known waiting → Stands next root k known waiting
      → Stands next root (suc k) (step_from same next root known waiting).known (step_from same next root known waiting).waiting
  unfolding step_from
  stands_from k known [] s t =
      record {
        order = t.order;
        parts = t.parts;
        after = rests t.after (λ u w. ⊎_elim (λ z. z) (λ o. w.1 o) (t.parts.either u w.0));
        distinct = t.distinct;
        counted = t.counted;
        summed = t.summed;
      }
  stands_from k known (v ∷ rest) s t = stands_settle k known v rest s t

  stands_step : (k : ℕ) (st : Stand A) → Sound next root st.known st.waiting → Stands next root k st.known st.waiting
      → Stands next root (suc k) (step same next root st).known (step same next root st).waiting
  unfolding step
  stands_step k st s t = stands_from k st.known st.waiting s t

  stands_start : Stands next root 0 (root ∷ []) (0 ∷ [])
  unfolding sum sum_settled sum_below has
  stands_start =
      record {
        order = [];
        parts = record { apart = λ u m i. i; either = λ u h. inl (inl (omega arith)); below = λ u i. absurd i };
        after = start;
        distinct = tt;
        counted = refl;
        summed = λ weight. refl;
      }

  pub stands : (k : ℕ) → Stands next root k (walk same next root k).known (walk same next root k).waiting
  stands zero = subst (λ (st : Stand A). Stands next root 0 st.known st.waiting) (sym (walk_start same next root)) stands_start
  stands (suc k) =
      subst (λ (st : Stand A). Stands next root (suc k) st.known st.waiting) (sym (walk_step same next root k))
      (stands_step k (walk same next root k) (sound eq next root k) (stands k))

  -- the settled vertices after k steps, the latest first
  pub order_after : ℕ → List ℕ
  order_after k = (stands k).order

  pub walk_after : (k : ℕ) → After next root k (walk same next root k).known (order_after k)
  unfolding order_after
  walk_after k = (stands k).after

  -- its members are exactly the vertices that do not wait
  pub order_settled : (k v : ℕ) → In v (order_after k) ↔ Settled (walk same next root k) v
  unfolding order_after
  order_settled k v = (
    λ m. ((stands k).parts.below v m, λ w. (stands k).parts.apart v w m),
    λ s. ⊎_elim (λ w. absurd (s.1 w)) (λ m. m) ((stands k).parts.either v s.0),
  )

  pub order_sum : (k : ℕ) (weight : A → ℕ) → weighed weight root (walk same next root k).known (order_after k) ≡ sum_settled weight root (walk same next root k)
  unfolding order_after
  order_sum k weight = (stands k).summed weight

  -- whatever stands in the relation to k is what the walk of k steps leaves
  pub after_walk : (k : ℕ) (known : List A) (order : List ℕ) → After next root k known order → (known ≡ (walk same next root k).known) × (order ≡ order_after k)
  after_walk k known order a = after_only next root k known order (walk same next root k).known (order_after k) a (walk_after k)

  pub after_length : (k : ℕ) (known : List A) (order : List ℕ) → After next root k known order → length known ≡ length (walk same next root k).known
  after_length k known order a = ap length (after_walk k known order a).0

  pub after_sum : (k : ℕ) (known : List A) (order : List ℕ) → After next root k known order
      → (weight : A → ℕ) → weighed weight root known order ≡ sum_settled weight root (walk same next root k)
  after_sum k known order a weight =
      let (e, f) = after_walk k known order a in
      ap₂ (λ (l : List A) (o : List ℕ). weighed weight root l o) e f ∙ order_sum k weight

  -- ---- room

  -- the known elements, or a sum over the settled vertices, exceed the room within the first k steps exactly if they do
  -- after k steps
  pub exceeded_within : (weight : A → ℕ) (vertices edges k : ℕ)
      → ((j : ℕ) × (known : List A) × (order : List ℕ) × (j ≤ k) × After next root j known order × ((vertices < length known) ⊎ (edges < weighed weight root known order)))
      ↔ ((vertices < length (walk same next root k).known) ⊎ (edges < sum_settled weight root (walk same next root k)))
  exceeded_within weight vertices edges k = (
    λ (j, known, order, h, a, l). ⊎_elim
        (λ m. inl (omega (arith, m, after_length j known order a, begins_length (walk same next root j).known (walk same next root k).known (walk_keeps eq next root j k h))))
        (λ m. inr (omega (arith, m, after_sum j known order a weight, walk_grows eq next root weight j k h)))
        l,
    λ l. (
      k,
      (walk same next root k).known,
      order_after k,
      le_refl k,
      walk_after k,
      ⊎_elim (λ m. inl m) (λ m. inr (subst (λ (n : ℕ). edges < n) (sym (order_sum k weight)) m)) l,
    ),
  )
