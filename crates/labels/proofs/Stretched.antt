-- The words of a label's stretch are its actions. Assumes nothing.
use mathlib.Core.Path.{◌≡◌, sym, ap, ◌∙◌}
use mathlib.Core.Bool.{◌&&◌}
use mathlib.Core.List.{List}
use Prim.Native.Nat.{ℕ, ◌+◌, ◌-◌, ◌*◌, ◌≤◌, ◌<◌}
use native.Mathlib.Omega.{arith}
use lib.Dec.{eqb}
use lib.ListN.{length, take, drop, length-take, length-drop}
use lib.Seq.{get_or-take, get_or-drop}
use borrow.Author.Tests.{eq-eqb, ne_eqb}
use Rattle.rules.specs.Lists.{word, tally}
use Rattle.rules.specs.Labels.{label_at, action_at, action_count, times}
use Rattle.std.specs.Option.{MatchOption, unwrap_or}
use Rattle.std.proofs.Common.{Option, None, Some}
use native.Mathlib.Decide.{dec_lt}
use Rattle.tables.specs.Good.{GoodLabels}
use Rattle.labels.specs.Stretches.{Starts, Stretch, ActionsOf}
use Rattle.lists.proofs.Tallies.{tally_cong}
use Rattle.labels.proofs.Counts.{tally_shift, tally_middle, tally_occurs}

-- label 0 starts at place 0
pub starts_first : (ls : List ℕ) → Starts ls 0 0
starts_first ls = record { within = omega arith; before = λ p h. absurd (omega arith); after = λ p h u. omega arith }

module _ (ls : List ℕ) where
  -- the words that are lent for a stretch
  abbrev pub lent : (p q m : ℕ) → List ℕ
  lent p q m = take (2 + m + q - (2 + m + p)) (drop (2 + m + p) ls)

  module _ (p q a m : ℕ) (e : m ≡ action_count ls) (h : p ≤ q) (l : q ≤ action_count ls) (s : length ls ≡ 2 + 2 * action_count ls) where
    lent_word : (i : ℕ) → i < q - p → word (lent p q m) i ≡ action_at ls (p + i)
    lent_word i u =
        let k : 2 + m + p + i ≡ 2 + action_count ls + (p + i) = omega arith in
        get_or-take (2 + m + q - (2 + m + p)) (drop (2 + m + p) ls) i 0 (omega arith)
        ∙ get_or-drop (2 + m + p) ls i 0 ∙ ap (word ls) k

    lent_length : length (lent p q m) ≡ q - p
    lent_length = simp (length-take, length-drop) (omega arith)

    times_lent : tally (λ i. eqb (word (lent p q m) i) a) 0 (length (lent p q m)) ≡ tally (λ i. eqb (action_at ls i) a) p (q - p)
    times_lent =
        ap (tally (λ i. eqb (word (lent p q m) i) a) 0) lent_length
        ∙ tally_cong _ _ 0 (q - p) (λ i u v. ap (λ z. eqb z a) (lent_word i (omega arith)))
        ∙ tally_shift (λ i. eqb (action_at ls i) a) p (q - p)

  -- label l ends at the first place of another one
  pub stretch_searched : (l from count : ℕ) (found : Option ℕ) → GoodLabels ls → Starts ls l from → count ≡ action_count ls
      → MatchOption found ((k : ℕ) → from ≤ k → k < count → label_at ls k ≡ l)
      (λ e. (from ≤ e) × (e < count) × (¬ (label_at ls e ≡ l)) × ((k : ℕ) → from ≤ k → k < e → label_at ls k ≡ l))
      → Stretch ls l from (unwrap_or found count)
  stretch_searched l from count found good s c = go found
    where
      before : (e : ℕ) → ((k : ℕ) → from ≤ k → k < e → label_at ls k ≡ l) → (p : ℕ) → p < e → label_at ls p < l + 1
      before e same p h = at (dec_lt p from)
        where
          at : Dec (p < from) → label_at ls p < l + 1
          at (yes u) = omega (arith, s.before p u)
          at (no u) = omega (arith, same p (omega arith) h)

      go : (found : Option ℕ)
          → MatchOption found ((k : ℕ) → from ≤ k → k < count → label_at ls k ≡ l)
          (λ e. (from ≤ e) × (e < count) × (¬ (label_at ls e ≡ l)) × ((k : ℕ) → from ≤ k → k < e → label_at ls k ≡ l))
          → Stretch ls l from (unwrap_or found count)
      go None all =
          record {
            forward = omega (arith, s.within, c);
            starts = s;
            ends = record { within = omega arith; before = before count all; after = λ p h u. absurd (omega arith) };
          }
      go (Some e) (lo, hi, other, all) =
          record {
            forward = lo;
            starts = s;
            ends = record {
              within = omega arith;
              before = before e all;
              after = λ p h u. let first = s.after e lo (omega arith) in omega (arith, good.order e p h u, other);
            };
          }

  -- the actions of a label are those of its stretch
  times-stretch : (l s e a : ℕ) → Stretch ls l s e → times ls l a ≡ tally (λ i. eqb (action_at ls i) a) s (e - s)
  unfolding times
  times-stretch l s e a r =
      tally_middle (λ p. eqb (label_at ls p) l && eqb (action_at ls p) a) s e (action_count ls) r.forward r.ends.within
      (λ q u. let h = r.starts.before q u in rw (ne_eqb (label_at ls q) l (omega arith)))
      (λ q u v. let h = r.ends.after q u v in rw (ne_eqb (label_at ls q) l (omega arith)))
      ∙ tally_cong _ _ s (e - s)
      (λ q u v. let hi = r.ends.before q (omega (arith, r.forward)) in
      let end = r.ends.within in
      let lo = r.starts.after q u (omega (arith, r.forward)) in
      rw (eq-eqb (label_at ls q) l (omega arith)))

  -- the words of a stretch are its label's actions
  pub actions_lent : (l s e m : ℕ) → m ≡ action_count ls → GoodLabels ls → Stretch ls l s e
      → ActionsOf ls l (lent s e m) × Starts ls (l + 1) (s + length (lent s e m))
  actions_lent l s e m c good r =
      let n = lent_length s e 0 m c r.forward r.ends.within good.sized in (
        record {
          few = omega (arith, n, r.ends.within, good.small);
          times = λ a.
              sym (tally_occurs a (lent s e m)) ∙ times_lent s e a m c r.forward r.ends.within good.sized
              ∙ sym (times-stretch l s e a r);
        },
        let k : s + length (lent s e m) ≡ e = omega (arith, n, r.forward) in rw k r.ends,
      )
