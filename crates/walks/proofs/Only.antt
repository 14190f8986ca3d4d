-- The relation `After` leaves nothing free: the steps fix the known elements, their numbers, the settled vertices and
-- the order in which they were settled. Assumes nothing.
use mathlib.Core.Path.{◌≡◌, refl, sym, ap₂, subst}
use mathlib.Core.List.{List, [], ◌∷◌, ◌++◌}
use mathlib.Core.Logic.{◌⊎◌, inl, inr, ⊎_elim}
use Prim.Native.Nat.{ℕ}
use native.Mathlib.Nat.{le_antisymm}
use lib.ListN.{get_or}
use Rattle.rules.specs.Lists.{In}
use Rattle.rules.specs.Reach.{Reachable, at_root, onward}
use Rattle.rules.specs.Demands.{Numbers, numbered, old, new, Waits, After, start, settles, rests}
use Rattle.lists.proofs.Members.{in_either, in_at}

module _ {A : Type 0} where
  pub numbers_only : (known ts more more' : List A) → Numbers known ts more → Numbers known ts more' → more ≡ more'
  numbers_only known ts more more' numbered numbered = refl
  numbers_only known ts more more' (old m n) (old m' n') = numbers_only _ _ more more' n n'
  numbers_only known ts more more' (old m n) (new m' n') = absurd (m' m)
  numbers_only known ts more more' (new m n) (old m' n') = absurd (m m')
  numbers_only known ts more more' (new m n) (new m' n') = numbers_only _ _ more more' n n'

  pub numbers_in : (known ts more : List A) → Numbers known ts more → (p : A) → In p more → In p known ⊎ In p ts
  numbers_in known ts more numbered p m = inl m
  numbers_in known ts more (old {ts = us} i n) p m = ⊎_elim (λ l. inl l) (λ r. inr (inr r)) (numbers_in known us more n p m)
  numbers_in known ts more (new {ts = us} {t = t} i n) p m =
      ⊎_elim (λ l. ⊎_elim (λ j. inl j) (λ e. ⊎_elim (λ q. inr (inl q)) (λ z. absurd z) e) (in_either p known (t ∷ []) l)) (λ r. inr (inr r))
      (numbers_in (known ++ (t ∷ [])) us more n p m)

  waits_moved : (a a' : List A) (o o' : List ℕ) (v : ℕ) → a ≡ a' → o ≡ o' → Waits a o v → Waits a' o' v
  waits_moved a a' o o' v e f w = subst (λ (z : List ℕ). Waits a' z v) f (subst (λ (z : List A). Waits z o v) e w)

module _ {A : Type 0} (next : A → List A) (root : A) where
  moved : (a a' more : List A) (v v' : ℕ) → a ≡ a' → v ≡ v' → Numbers a' (next (get_or a' v' root)) more → Numbers a (next (get_or a v root)) more
  moved a a' more v v' e q n =
      subst (λ (u : ℕ). Numbers a (next (get_or a u root)) more) (sym q) (subst (λ (z : List A). Numbers z (next (get_or z v' root)) more) (sym e) n)

  pub after_only : (k : ℕ) (known : List A) (s : List ℕ) (known' : List A) (s' : List ℕ) → After next root k known s → After next root k known' s' → (known ≡ known') × (s ≡ s')
  after_only k known s known' s' start start = (refl, refl)
  after_only k known s known' s' (settles {known = a} {settled = o} v h w l n) (settles {known = a'} {settled = o'} v' h' w' l' n') =
      let (e, f) = after_only _ a o a' o' h h' in
      let q : v ≡ v' = le_antisymm (l' v (waits_moved a a' o o' v e f w)) (l v' (waits_moved a' a o' o v' (sym e) (sym f) w')) in
      (numbers_only a (next (get_or a v root)) known known' n (moved a a' known' v v' e q n'), ap₂ ◌∷◌ q f)
  after_only k known s known' s' (settles {known = a} {settled = o} v h w l n) (rests h' r) =
      let (e, f) = after_only _ a o known' s' h h' in absurd (r v (waits_moved a known' o s' v e f w))
  after_only k known s known' s' (rests h r) (settles {known = a} {settled = o} v h' w l n) =
      let (e, f) = after_only _ known s a o h h' in absurd (r v (waits_moved a known o s v (sym e) (sym f) w))
  after_only k known s known' s' (rests h r) (rests h' r') = after_only _ known s known' s' h h'

  pub after_reached : (k : ℕ) (known : List A) (s : List ℕ) → After next root k known s → (p : A) → In p known → Reachable next root p
  after_reached k known s start p m = ⊎_elim (λ e. subst (Reachable next root) (sym e) at_root) (λ z. absurd z) m
  after_reached k known s (settles {known = a} {settled = o} v h w l n) p m =
      ⊎_elim (λ i. after_reached _ a o h p i) (λ i. onward (after_reached _ a o h (get_or a v root) (in_at a v root w.0)) i) (numbers_in a (next (get_or a v root)) known n p m)
  after_reached k known s (rests h r) p m = after_reached _ known s h p m
