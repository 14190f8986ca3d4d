-- A bitmap as the set of the numbers in a list. Assumes nothing.
use mathlib.Core.Path.{◌≡◌, refl, sym, ap, ◌∙◌, subst}
use mathlib.Core.Bool.{Bool, true, false, cond, ◌||◌, false≢true}
use mathlib.Core.List.{List, [], ◌∷◌, ◌++◌}
use mathlib.Core.Logic.{inl, inr}
use Prim.Native.Nat.{ℕ, ◌/◌, ◌+◌, ◌≤◌, ◌<◌}
use native.Mathlib.Numerals.{add-one}
use lib.ListN.{length, drop, replicate, length-replicate, drop_of_length-le}
use lib.Seq.{drop-cons}
use lib.Dec.{eqb}
use borrow.Author.Tests.{eqb-true, eqb-false}
use Rattle.rules.specs.Lists.{word, In, has, insert, once}
use Rattle.lists.proofs.Members.{has_in, in_has}
use Rattle.lists.proofs.Inserts.{insert_cases, once_in}
use Rattle.lists.proofs.Equalities.{number_equality}
use Rattle.bitmap.specs.Marks.{marked, Met, Wiped, Holds, Only}
use Rattle.bitmap.proofs.Bits.{none_marked, zero_word}

-- ---- no number

pub zeros_hold : (n : ℕ) → n ≡ 32_768 → Holds (replicate n 0) []
unfolding has
zeros_hold n e = record { long = length-replicate n 0 ∙ e; marks = none_marked (replicate n 0) (zero_word n) }

-- a new bitmap
pub all-zeros : Holds (replicate 32_768 0) []
all-zeros = zeros_hold 32_768 refl

-- ---- a number is met

-- a number more at the end
has_last : (u v : ℕ) (xs : List ℕ) → has eqb u (xs ++ (v ∷ [])) ≡ (eqb u v || has eqb u xs)
unfolding has
has_last u v [] = refl
has_last u v (x ∷ xs) = ap (λ (b : Bool). eqb u x || b) (has_last u v xs) ∙ turn (eqb u x) (eqb u v) (has eqb u xs)
  where
    turn : (a b c : Bool) → (a || (b || c)) ≡ (b || (a || c))
    turn true true c = refl
    turn true false c = refl
    turn false true c = refl
    turn false false c = refl

has_insert : (u v : ℕ) (xs : List ℕ) → has eqb u (insert eqb xs v) ≡ (eqb u v || has eqb u xs)
has_insert u v xs =
    insert_cases number_equality (λ ys. has eqb u ys ≡ (eqb u v || has eqb u xs)) xs v
    (λ i. go (eqb u v) refl i) (λ n. has_last u v xs)
  where
    go : (b : Bool) → eqb u v ≡ b → In v xs → has eqb u xs ≡ (b || has eqb u xs)
    go true e i = in_has number_equality u xs (subst (λ (w : ℕ). In w xs) (sym (eqb-true u v e)) i)
    go false e i = refl

pub meets : {bits bits' xs : List ℕ} {v : ℕ} → Holds bits xs → Met bits bits' v → Holds bits' (insert eqb xs v)
meets {xs = xs} {v = v} h m =
    record {
      long = m.long ∙ h.long;
      marks = λ u. m.marks u ∙ ap (λ (b : Bool). eqb u v || b) (h.marks u) ∙ sym (has_insert u v xs);
    }

-- ---- the numbers of a list are wiped one after the other

pub only_holds : {bits xs : List ℕ} → Holds bits (once eqb xs) → Only bits xs
only_holds {bits} {xs} h = record { long = h.long; inside = λ u e. inside u e }
  where
    inside : (u : ℕ) → marked bits u ≡ true → In u xs
    inside u e = (once_in number_equality xs u).0 (has_in number_equality u (once eqb xs) (sym (h.marks u) ∙ e))

pub only_wiped : {bits bits' xs : List ℕ} {v : ℕ} → Only bits (v ∷ xs) → Wiped bits bits' v → Only bits' xs
only_wiped {bits} {bits'} {xs} {v} o w =
    record { long = w.long ∙ o.long; inside = λ u e. go u (eqb (u / 32) (v / 32)) refl (sym (w.marks u) ∙ e) }
  where
    later : (u : ℕ) → ¬ (u / 32 ≡ v / 32) → In u (v ∷ xs) → In u xs
    later u n (inl e) = absurd (n (ap (λ (k : ℕ). k / 32) e))
    later u n (inr i) = i

    go : (u : ℕ) (b : Bool) → eqb (u / 32) (v / 32) ≡ b → cond b false (marked bits u) ≡ true → In u xs
    go u true t e = absurd (false≢true e)
    go u false t e = later u (eqb-false (u / 32) (v / 32) t) (o.inside u e)

pub only_none : {bits : List ℕ} → Only bits [] → Holds bits []
unfolding has
only_none {bits} o = record { long = o.long; marks = λ u. go u (marked bits u) refl }
  where
    go : (u : ℕ) (b : Bool) → marked bits u ≡ b → marked bits u ≡ false
    go u true e = absurd (o.inside u e)
    go u false e = e

-- ---- in a loop over the list

pub only_more : (ts : List ℕ) (i : ℕ) {bits bits' : List ℕ} → i < length ts → Wiped bits bits' (word ts i)
    → Only bits (drop i ts) → Only bits' (drop (i + 1) ts)
only_more ts i {bits} h w o =
    let m : drop i ts ≡ word ts i ∷ drop (i + 1) ts = rw (add-one i) (drop-cons ts i 0 h) in
    only_wiped (subst (Only bits) m o) w

pub only_done : (ts : List ℕ) (i : ℕ) {bits : List ℕ} → length ts ≤ i → Only bits (drop i ts) → Holds bits []
only_done ts i {bits} h o = only_none (subst (Only bits) (drop_of_length-le ts h) o)
