-- Elements are only names: a walk over other names for the same elements knows the same in the same order, with the
-- same edges, and as many are reachable. Assumes nothing beyond the parameters: different reachable elements have
-- different names, and the targets of a name are the names of the targets.
use mathlib.Core.Path.{◌≡◌, refl, sym, ap, ap₂, ◌∙◌, subst}
use mathlib.Core.Bool.{Bool, cond}
use mathlib.Core.List.{List, [], ◌∷◌, ◌++◌, map}
use mathlib.Core.Logic.{inl, inr, ⊎_elim}
use Prim.Native.Nat.{ℕ, zero, suc, ◌+◌, ◌-◌, ◌<◌}
use native.Mathlib.Omega.{arith}
use lib.ListN.{length, get_or, length-map}
use lib.Dec.{eqb}
use Rattle.rules.specs.Lists.{In, has, insert_all}
use Rattle.rules.specs.Walk.{Stand, push_new, settle, step_from, step, walk}
use Rattle.rules.specs.Reach.{Reachable, at_root, onward, all_targets, reached_in}
use Rattle.rules.specs.Demands.{Numbers, numbered, old, new, Waits, After, start, settles, rests}
use Rattle.lists.specs.Shapes.{Equality, positions}
use Rattle.lists.proofs.Members.{in_at, map_in, in_map, map-append, map_default, position_map}
use Rattle.lists.proofs.Inserts.{inserts_map}
use Rattle.walks.specs.Sums.{stand_with, sum_below, sum_settled}
use Rattle.walks.proofs.Steps.{Sound, sound, walk_start, walk_step}
use Rattle.walks.proofs.Reached.{in_targets, reached_reachable}
use Rattle.walks.proofs.Only.{after_reached}

module _ {A B : Type 0} (f : A → B) where
  -- the state under the other names
  abbrev pub renamed : Stand A → Stand B
  renamed st = stand_with (map f st.known) st.waiting

  -- a sum over the settled vertices goes by the weights of the names
  sum_below_renamed : (weight : B → ℕ) (root : A) (st : Stand A) (n : ℕ) → sum_below weight (f root) (renamed st) n ≡ sum_below (λ p. weight (f p)) root st n
  unfolding sum_below
  sum_below_renamed weight root st zero = refl
  sum_below_renamed weight root st (suc v) =
      ap₂ (λ (x y : ℕ). cond (has eqb v st.waiting) 0 x + y) (ap weight (map_default f st.known v root)) (sum_below_renamed weight root st v)

  pub sum_renamed : (weight : B → ℕ) (root : A) (st : Stand A) → sum_settled weight (f root) (renamed st) ≡ sum_settled (λ p. weight (f p)) root st
  unfolding sum_settled
  sum_renamed weight root st = ap (sum_below weight (f root) (renamed st)) (length-map st.known f) ∙ sum_below_renamed weight root st (length st.known)

module _ {A B : Type 0} {same : A → A → Bool} {same' : B → B → Bool} (eq : Equality same) (eq' : Equality same') (f : A → B) (next : A → List A) (next' : B → List B) (root : A)
    (alike : (p q : A) → Reachable next root p → Reachable next root q → f p ≡ f q → p ≡ q)
    (moved : (p : A) → Reachable next root p → next' (f p) ≡ map f (next p)) where
  -- ---- the walk

  settle_map : (known : List A) (v : ℕ) (rest : List ℕ) → ((x : A) → In x known → Reachable next root x) → v < length known
      → settle same' next' (f root) (map f known) v rest ≡ renamed f (settle same next root known v rest)
  unfolding settle
  settle_map known v rest r l =
      let here = get_or known v root in
      let reached = r here (in_at known v root l) in
      let ts : next' (get_or (map f known) v (f root)) ≡ map f (next here) = ap next' (map_default f known v root) ∙ moved here reached in
      let more : insert_all same' (map f known) (next' (get_or (map f known) v (f root))) ≡ map f (insert_all same known (next here))
      = ap (insert_all same' (map f known)) ts ∙ inserts_map eq eq' f (Reachable next root) alike known (next here) r (λ q m. onward reached m) in
      ap (λ (l : List B). stand_with l (push_new (length (map f known)) (length l - length (map f known)) rest)) more
      ∙ ap₂ (λ (a c : ℕ). stand_with (map f (insert_all same known (next here))) (push_new a (c - a) rest)) (length-map known f) (length-map (insert_all same known (next here)) f)

  from-map : (known : List A) (waiting : List ℕ) → Sound next root known waiting
      → step_from same' next' (f root) (map f known) waiting ≡ renamed f (step_from same next root known waiting)
  unfolding step_from
  from-map known [] s = refl
  from-map known (v ∷ rest) s = settle_map known v rest s.reached s.falling.0

  step_map : (st : Stand A) → Sound next root st.known st.waiting → step same' next' (f root) (renamed f st) ≡ renamed f (step same next root st)
  unfolding step
  step_map st s = from-map st.known st.waiting s

  pub walk_map : (k : ℕ) → walk same' next' (f root) k ≡ renamed f (walk same next root k)
  walk_map zero = walk_start same' next' (f root) ∙ sym (ap (renamed f) (walk_start same next root))
  walk_map (suc k) =
      walk_step same' next' (f root) k
      ∙ ap (step same' next' (f root)) (walk_map k)
      ∙ step_map (walk same next root k) (sound eq next root k)
      ∙ sym (ap (renamed f) (walk_step same next root k))

  -- the places of reachable elements among reachable ones, so the edges, are the same
  pub positions-map : (known ts : List A) → ((x : A) → In x known → Reachable next root x) → ((t : A) → In t ts → Reachable next root t)
      → positions same' (map f known) (map f ts) ≡ positions same known ts
  unfolding positions
  positions-map known [] r s = refl
  positions-map known (t ∷ ts) r s =
      ap₂ ◌∷◌ (position_map eq eq' f known t (λ x m e. alike t x (s t (inl refl)) (r x m) e)) (positions-map known ts r (λ u m. s u (inr m)))

  -- ---- the reachable elements

  pub map_reachable : (b : B) → Reachable next' (f root) b → (p : A) × Reachable next root p × (b ≡ f p)
  map_reachable b at_root = (root, at_root, refl)
  map_reachable b (onward {p = c} r m) = go (map_reachable c r)
    where
      go : (o : A) × Reachable next root o × (c ≡ f o) → (p : A) × Reachable next root p × (b ≡ f p)
      go (o, s, e) =
          let i : In b (map f (next o)) = subst (In b) (ap next' e ∙ moved o s) m in
          let t = in_map f b (next o) i in
          (t.0, onward s t.1, t.2)

  targets-map : (ps : List A) → ((p : A) → In p ps → Reachable next root p)
      → all_targets same' next' (f root) (map f ps) ≡ map f (all_targets same next root ps)
  unfolding all_targets
  targets-map [] r = refl
  targets-map (p ∷ ps) r =
      ap₂ ◌++◌ (moved p (r p (inl refl))) (targets-map ps (λ q m. r q (inr m))) ∙ sym (map-append f (next p) (all_targets same next root ps))

  pub reached_map : (k : ℕ) → reached_in same' next' (f root) k ≡ map f (reached_in same next root k)
  unfolding reached_in
  reached_map zero = refl
  reached_map (suc k) =
      let found = reached_in same next root k in
      ap (λ (l : List B). insert_all same' l (all_targets same' next' (f root) l)) (reached_map k)
      ∙ ap (insert_all same' (map f found)) (targets-map found (reached_reachable eq next root k))
      ∙ inserts_map eq eq' f (Reachable next root) alike found (all_targets same next root found) (reached_reachable eq next root k)
      (λ q m. let t = in_targets eq next root found q m in onward (reached_reachable eq next root k t.0 t.1) t.2)

-- ---- the relation `After`, which has no test

module _ {A B : Type 0} (f : A → B) (next : A → List A) (next' : B → List B) (root : A)
    (alike : (p q : A) → Reachable next root p → Reachable next root q → f p ≡ f q → p ≡ q)
    (moved : (p : A) → Reachable next root p → next' (f p) ≡ map f (next p)) where
  abbrev AllReached : List A → Type 0
  AllReached l = (p : A) → In p l → Reachable next root p

  back : (t : A) (l : List A) → Reachable next root t → AllReached l → In (f t) (map f l) → In t l
  back t l r s m = let y = in_map f (f t) l m in subst (λ (x : A). In x l) (sym (alike t y.0 r (s y.0 y.1) y.2)) y.1

  reached_snoc : (l : List A) (t : A) → AllReached l → Reachable next root t → AllReached (l ++ (t ∷ []))
  reached_snoc [] t s r p m = ⊎_elim (λ e. subst (Reachable next root) (sym e) r) (λ z. absurd z) m
  reached_snoc (q ∷ l) t s r p (inl e) = s p (inl e)
  reached_snoc (q ∷ l) t s r p (inr m) = reached_snoc l t (λ u i. s u (inr i)) r p m

  numbers_map : (known ts more : List A) → AllReached known → AllReached ts → Numbers known ts more → Numbers (map f known) (map f ts) (map f more)
  numbers_map known ts more r s numbered = numbered
  numbers_map known ts more r s (old {ts = us} {t = t} i n) = old (map_in f t known i) (numbers_map known us more r (λ p m. s p (inr m)) n)
  numbers_map known ts more r s (new {ts = us} {t = t} i n) =
      new (λ m. i (back t known (s t (inl refl)) r m))
      (subst (λ (l : List B). Numbers l (map f us) (map f more)) (map-append f known (t ∷ []))
      (numbers_map (known ++ (t ∷ [])) us more (reached_snoc known t r (s t (inl refl))) (λ p m. s p (inr m)) n))

  waits_map : (known : List A) (s : List ℕ) (v : ℕ) → Waits known s v → Waits (map f known) s v
  waits_map known s v w = (omega (arith, w.0, length-map known f), w.1)

  map_waits : (known : List A) (s : List ℕ) (v : ℕ) → Waits (map f known) s v → Waits known s v
  map_waits known s v w = (omega (arith, w.0, length-map known f), w.1)

  pub after_map : (k : ℕ) (known : List A) (s : List ℕ) → After next root k known s → After next' (f root) k (map f known) s
  after_map k known s start = start
  after_map k known s (settles {known = a} {settled = o} v h w l n) =
      let r : AllReached a = after_reached next root _ a o h in
      let here : Reachable next root (get_or a v root) = r (get_or a v root) (in_at a v root w.0) in
      let at : next' (get_or (map f a) v (f root)) ≡ map f (next (get_or a v root)) = ap next' (map_default f a v root) ∙ moved (get_or a v root) here in
      settles v (after_map _ a o h) (waits_map a o v w) (λ u z. l u (map_waits a o u z))
      (subst (λ (ts : List B). Numbers (map f a) ts (map f known)) (sym at) (numbers_map a (next (get_or a v root)) known r (λ q m. onward here m) n))
  after_map k known s (rests h r) = rests (after_map _ known s h) (λ u w. r u (map_waits known s u w))
