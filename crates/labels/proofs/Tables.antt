-- The lowest label of a multiset, and the table of multisets, which is filled from the end. Assumes nothing.
use mathlib.Core.Path.{◌≡◌, refl, sym, ◌∙◌}
use mathlib.Core.Bool.{true, false}
use mathlib.Core.List.{List}
use Prim.Native.Nat.{ℕ, ◌≤◌, ◌<◌}
use native.Mathlib.Decide.{ℕ_discrete}
use native.Mathlib.Omega.{arith}
use lib.Dec.{eqb}
use lib.ListN.{length, set, take}
use lib.Seq.{get_or-set_same, get_or-set_other}
use Rattle.std.specs.Option.{MatchOption, unwrap_or}
use Rattle.std.proofs.Common.{Option, None, Some}
use Rattle.std.specs.List.{list_any}
use Rattle.rules.specs.Lists.{word}
use Rattle.rules.specs.Labels.{same_label, multiset}
use Rattle.lists.proofs.Places.{seek_at, seek-nowhere}
use Rattle.labels.specs.Marks.{MarksTell}
use Rattle.labels.proofs.Marks.{none_marked}

-- one entry more, before the others
pub entry_more : (ls classes : List ℕ) (n l k : ℕ) → l < length classes → k ≡ multiset ls l → ((z : ℕ) → l < z → z < n → word classes z ≡ multiset ls z)
    → (z : ℕ) → l ≤ z → z < n → word (set classes l k) z ≡ multiset ls z
entry_more ls classes n l k h e above z u v = go (ℕ_discrete z l)
  where
    go : Dec (z ≡ l) → word (set classes l k) z ≡ multiset ls z
    go (yes q) = rw q (get_or-set_same {A = ℕ} classes l k 0 h ∙ e)
    go (no q) = get_or-set_other {A = ℕ} classes l z k 0 (omega arith) ∙ above z (omega arith) v

-- the lowest label that is the same: one before l, or l itself
pub lowest_found : (ls : List ℕ) (l k : ℕ) → k < l → ((z : ℕ) → z < k → same_label ls z l ≡ false) → same_label ls k l ≡ true → k ≡ multiset ls l
unfolding multiset
lowest_found ls l k h none same = sym (seek_at (λ j. same_label ls j l) 0 l k (omega arith) (omega arith) same (λ i a b. none i b))

pub lowest_itself : (ls : List ℕ) (l k : ℕ) → k ≡ l → ((z : ℕ) → z < k → same_label ls z l ≡ false) → k ≡ multiset ls l
unfolding multiset
lowest_itself ls l k e none = e ∙ sym (seek-nowhere (λ j. same_label ls j l) 0 l (λ i a b. none i (omega arith)) ∙ omega arith)

-- as a search among the labels before l says
pub lowest_searched : (ls : List ℕ) (l : ℕ) (found : Option ℕ)
    → MatchOption found ((k : ℕ) → 0 ≤ k → k < l → same_label ls k l ≡ false)
    (λ i. (0 ≤ i) × (i < l) × (same_label ls i l ≡ true) × ((k : ℕ) → 0 ≤ k → k < i → same_label ls k l ≡ false))
    → unwrap_or found l ≡ multiset ls l
lowest_searched ls l None none = lowest_itself ls l l refl (λ z u. none z (omega arith) u)
lowest_searched ls l (Some k) (a, b, same, none) = lowest_found ls l k b (λ z u. none z (omega arith) u) same

-- l itself if no label before it has its mark
pub mark_alone : (ls marks : List ℕ) (l : ℕ) → l ≤ length marks → MarksTell ls marks l
    → list_any (λ y. eqb y (word marks l)) (take l marks) ≡ false → l ≡ multiset ls l
mark_alone ls marks l k h none =
    lowest_itself ls l l refl (λ z u. h z u (none_marked marks (word marks l) l k none z u))
