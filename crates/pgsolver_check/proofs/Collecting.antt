-- Numbers that come one after the other, noted in the bitmap as far as they are in the window. Assumes nothing.
use Prim.Native.Nat.{ℕ, ◌+◌, ◌-◌, ◌≤◌, ◌<◌}
use native.Mathlib.Omega.{arith}
use native.Mathlib.Decide.{dec_lt, dec_le}
use mathlib.Core.Path.{◌≡◌, refl, sym, ◌∙◌, subst}
use mathlib.Core.Bool.{true, true≢false, false≢true}
use mathlib.Core.List.{List, [], ◌∷◌, ◌++◌}
use mathlib.Core.Logic.{◌⊎◌, inl, inr, ⊎_elim}
use lib.ListN.{length}
use lib.Dec.{eqb}
use borrow.Author.Tests.{eqb-true, eq-eqb}
use Rattle.rules.specs.Lists.{In, Distinct}
use Rattle.lists.proofs.Tests.{or-true, or_left, or_right}
use Rattle.lists.proofs.Members.{in_left, in_right, in_either}
use Rattle.bitmap.specs.Marks.{marked, Holds}
use Rattle.pgsolver_scan.specs.Told.{saturated}
use Rattle.pgsolver_check.specs.Windows.{Apart, Noted, Again}

-- ---- a number is noted

-- ---- a number that is saturated: those of the first window are exact

first_window : (n v : ℕ) → v ≡ saturated n → v < 1048576 → v ≡ n
unfolding saturated
first_window n v e h = omega arith

beyond_window : (n v : ℕ) → v ≡ saturated n → 1048576 ≤ n → 1048576 ≤ v
unfolding saturated
beyond_window n v e h = omega arith

within_window : (n v : ℕ) → v ≡ saturated n → n < 1048576 → v ≡ n
unfolding saturated
within_window n v e h = omega arith

pub noted_exact : {n v : ℕ} {bits bits' : List ℕ} → v ≡ saturated n → Noted 0 v bits bits' → Noted 0 n bits bits'
noted_exact {n} {v} {bits} {bits'} e x = go (dec_lt n 1048576)
  where
    go : Dec (n < 1048576) → Noted 0 n bits bits'
    go (yes h) = subst (λ (k : ℕ). Noted 0 k bits bits') (within_window n v e h) x
    go (no h) =
        let far : 1048576 ≤ v = beyond_window n v e (omega arith) in
        record {
          long = x.long;
          fresh = λ a b. absurd (omega arith);
          inside = λ a b. absurd (omega arith);
          outside = λ a u. x.outside (λ b. omega (arith, b.1)) u;
        }

pub again_exact : {n v : ℕ} {bits : List ℕ} → v ≡ saturated n → Again 0 v bits → Again 0 n bits
again_exact {n} {v} {bits} e x =
    subst (λ (k : ℕ). Again 0 k bits) (first_window n v e (omega (arith, x.below))) x

-- ---- numbers one after the other

apart_snoc : (base : ℕ) (ns : List ℕ) (n : ℕ) → Apart base ns → (base ≤ n → n < base + 1048576 → ¬ In n ns)
    → Apart base (ns ++ (n ∷ []))
apart_snoc base [] n a f = (λ h k i. i, tt)
apart_snoc base (m ∷ ns) n a f = (
  λ h k i. ⊎_elim (λ j. a.0 h k j) (λ j. last j h k) (in_either m ns (n ∷ []) i),
  apart_snoc base ns n a.1
      (λ h k i. f h k (inr i)),
)
  where
    last : In m (n ∷ []) → base ≤ m → m < base + 1048576 → ⊥
    last (inl e) h k = f (subst (λ (x : ℕ). base ≤ x) e h) (subst (λ (x : ℕ). x < base + 1048576) e k) (inl (sym e))
    last (inr z) h k = z

-- a number stands twice
twice : (ns : List ℕ) (n : ℕ) (ms : List ℕ) → In n ns → Distinct (ns ++ (n ∷ ms)) → ⊥
twice [] n ms i d = i
twice (m ∷ ns) n ms (inl e) d = d.0 (subst (λ (x : ℕ). In x (ns ++ (n ∷ ms))) e (in_right n ns (n ∷ ms) (inl refl)))
twice (m ∷ ns) n ms (inr i) d = twice ns n ms i d.1

-- those before others are different, if all are
pub distinct_before : (ns ms : List ℕ) → Distinct (ns ++ ms) → Distinct ns
distinct_before [] ms d = tt
distinct_before (n ∷ ns) ms d = (λ i. d.0 (in_left n ns ms i), distinct_before ns ms d.1)

-- the numbers of the window are noted, and none stands twice
pub record Collected (base : ℕ) (ns bits : List ℕ) : Type 0 where
  pub long : length bits ≡ 32_768
  pub sound : (u : ℕ) → marked bits u ≡ true → In (base + u) ns
  pub complete : (n : ℕ) → In n ns → base ≤ n → n < base + 1048576 → marked bits (n - base) ≡ true
  pub apart : Apart base ns

pub collected_none : (base : ℕ) {bits : List ℕ} → Holds bits [] → Collected base [] bits
unfolding Rattle.rules.specs.Lists.has
collected_none base h =
    record {
      long = h.long;
      sound = λ u f. absurd (false≢true (sym (h.marks u) ∙ f));
      complete = λ n i. absurd i;
      apart = tt;
    }

module _ {base : ℕ} {ns bits : List ℕ} (k : Collected base ns bits) (v : ℕ) where
  pub collected_twice : (ms : List ℕ) → Again base v bits → ¬ Distinct (ns ++ (v ∷ ms))
  collected_twice ms x d =
      let q : base + (v - base) ≡ v = omega (arith, x.from) in
      twice ns v ms (subst (λ (n : ℕ). In n ns) q (k.sound (v - base) x.old)) d

  pub collected_more : {bits' : List ℕ} → Noted base v bits bits' → Collected base (ns ++ (v ∷ [])) bits'
  collected_more {bits'} n =
      record {
        long = n.long ∙ k.long;
        sound = λ u m. sound u m (dec_le base v) (dec_lt v (base + 1048576));
        complete = λ m i a b. complete m a b (in_either m ns (v ∷ []) i) (dec_le base v) (dec_lt v (base + 1048576));
        apart = apart_snoc base ns v k.apart (λ a b i. true≢false (sym (k.complete v i a b) ∙ n.fresh a b));
      }
    where
      sound : (u : ℕ) → marked bits' u ≡ true → Dec (base ≤ v) → Dec (v < base + 1048576)
          → In (base + u) (ns ++ (v ∷ []))
      sound u m (yes a) (yes b) =
          ⊎_elim (λ f. here (eqb-true u (v - base) f)) (λ f. in_left (base + u) ns (v ∷ []) (k.sound u f))
          (or-true (eqb u (v - base)) (marked bits u) (sym (n.inside a b u) ∙ m))
        where
          here : u ≡ v - base → In (base + u) (ns ++ (v ∷ []))
          here f = in_right (base + u) ns (v ∷ []) (inl (omega arith))
      sound u m (yes a) (no b) =
          in_left (base + u) ns (v ∷ []) (k.sound u (sym (n.outside (λ c. b c.1) u) ∙ m))
      sound u m (no a) d = in_left (base + u) ns (v ∷ []) (k.sound u (sym (n.outside (λ c. a c.0) u) ∙ m))

      old : (m : ℕ) → base ≤ m → m < base + 1048576 → In m ns → Dec (base ≤ v) → Dec (v < base + 1048576)
          → marked bits' (m - base) ≡ true
      old m a b i (yes c) (yes d) = n.inside c d (m - base)
          ∙ or_right (eqb (m - base) (v - base)) (k.complete m i a b)
      old m a b i (yes c) (no d) = n.outside (λ f. d f.1) (m - base) ∙ k.complete m i a b
      old m a b i (no c) d = n.outside (λ f. c f.0) (m - base) ∙ k.complete m i a b

      complete : (m : ℕ) → base ≤ m → m < base + 1048576 → In m ns ⊎ In m (v ∷ []) → Dec (base ≤ v)
          → Dec (v < base + 1048576) → marked bits' (m - base) ≡ true
      complete m a b (inl i) c d = old m a b i c d
      complete m a b (inr (inl f)) c d =
          let g : base ≤ v = omega arith in
          let l : v < base + 1048576 = omega arith in
          n.inside g l (m - base) ∙ or_left (marked bits (m - base)) (eq-eqb (m - base) (v - base) (omega arith))
      complete m a b (inr (inr z)) c d = absurd z
