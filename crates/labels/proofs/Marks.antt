-- Labels of one multiset have one mark. Assumes nothing.
use mathlib.Core.Path.{◌≡◌, refl, sym, ap, ◌∙◌}
use mathlib.Core.Bool.{Bool, true, false, true≢false}
use mathlib.Core.List.{List}
use Prim.Native.Nat.{ℕ, ◌+◌, ◌*◌, ◌%◌, ◌≤◌, ◌<◌}
use native.Mathlib.Decide.{ℕ_discrete}
use native.Mathlib.Nat.{mod-lt}
use native.Mathlib.Omega.{arith}
use borrow.Author.Tests.{eq-eqb}
use lib.Dec.{eqb}
use lib.ListN.{length, get_or, set, take}
use lib.Seq.{get_or-set_same, get_or-set_other, get_or-take, length-take-le}
use Rattle.std.specs.List.{sum_by, list_any}
use Rattle.std.proofs.lemmas.List.Folds.{list_any_at}
use Rattle.std.proofs.lemmas.List.Sums.{sum_by-le}
use Rattle.rules.specs.Lists.{word}
use Rattle.rules.specs.Labels.{same_label}
use Rattle.lists.proofs.Products.{wide, scaled_fits}
use Rattle.labels.specs.Marks.{stirred, weight, MarkOf, Marked, StartsKnown, MarksTell}
use Rattle.labels.proofs.Listed.{same_sums, same_listed}

-- ---- the sum of the weights, as the code makes it

pub stirred_below : (a : ℕ) → stirred a < 4294967296
unfolding stirred
stirred_below a = mod-lt (a * 2654435761 + 1013904223) {m = 4294967296} (omega arith)

pub weight_below : (a : ℕ) → weight a < 4294967296
unfolding weight
weight_below a = scaled_fits (stirred a) (stirred a) (stirred_below a) (stirred_below a)

pub square_fits : (a : ℕ) → stirred a * stirred a < 18446744073709551616
square_fits a = wide (stirred a) (stirred a) (stirred_below a) (stirred_below a)

pub weights_below : (xs : List ℕ) → sum_by weight xs ≤ length xs * 4294967296
weights_below xs = sum_by-le weight 4294967296 xs (λ i d l. omega (arith, weight_below (get_or xs i d)))

-- ---- marks

module _ (ls : List ℕ) (l s x m t y : ℕ) (one-mark : MarkOf ls l s x) (other-mark : MarkOf ls m t y) where
  same_mark : same_label ls l m ≡ true → x ≡ y
  same_mark h =
      let a = one-mark.actions in
      let b = other-mark.actions in
      one-mark.sum
      ∙ ap (λ (n : ℕ). n % 4294967296) (same_sums a b weight (same_listed ls l m a b one-mark.own other-mark.own h))
      ∙ sym other-mark.sum

  pub other_multiset : (¬ (x ≡ y)) → same_label ls l m ≡ false
  other_multiset d = go (same_label ls l m) refl
    where
      go : (b : Bool) → same_label ls l m ≡ b → b ≡ false
      go true h = absurd (d (same_mark h))
      go false h = refl

-- ---- the tables of starts and marks

module _ (ls starts marks : List ℕ) where
  -- one label more
  pub marked_more : (l s m : ℕ) → l < length starts → l < length marks → MarkOf ls l s m → Marked ls starts marks l → Marked ls (set starts l s) (set marks l m) (l + 1)
  marked_more l s m hs hm k below z u = go (ℕ_discrete z l)
    where
      go : Dec (z ≡ l) → MarkOf ls z (word (set starts l s) z) (word (set marks l m) z)
      go (yes q) = rw q (rw (get_or-set_same {A = ℕ} starts l s 0 hs, get_or-set_same {A = ℕ} marks l m 0 hm) k)
      go (no q) =
          rw (get_or-set_other {A = ℕ} starts l z s 0 (omega arith), get_or-set_other {A = ℕ} marks l z m 0 (omega arith)) (below z (omega arith))

  -- the labels before l keep their marks where l's entry is written
  pub marked_before : (l k : ℕ) → Marked ls starts marks (l + 1) → Marked ls starts (set marks l k) l
  marked_before l k h z u = rw (get_or-set_other {A = ℕ} marks l z k 0 (omega arith)) (h z (omega arith))

  -- what is known of a label below n and those before it
  module _ (l n : ℕ) (k : l < n) (h : Marked ls starts marks n) where
    pub starts_known : StartsKnown ls starts l
    starts_known z u = let m = h z (omega arith) in m.starts

    pub marks_tell : MarksTell ls marks l
    marks_tell z u d =
        other_multiset ls z (word starts z) (word marks z) l (word starts l) (word marks l) (h z (omega arith))
        (h l (omega arith)) d

-- ---- the first marks

-- none of the first n marks is m
pub none_marked : (marks : List ℕ) (m n : ℕ) → n ≤ length marks → list_any (λ y. eqb y m) (take n marks) ≡ false
    → (z : ℕ) → z < n → ¬ (word marks z ≡ m)
none_marked marks m n h k z u e =
    true≢false (sym (list_any_at (λ y. eqb y m) (take n marks) z 0 (omega (arith, length-take-le n marks h))
    (eq-eqb _ m (get_or-take n marks z 0 u ∙ e))) ∙ k)
