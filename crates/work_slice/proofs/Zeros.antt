-- Words from one place up to another that were filled with 0. Assumes nothing.
use Rattle.std.proofs.Common.{◌≡◌, ℕ, ◌+◌, ◌-◌, ◌*◌, ◌≤◌, ◌<◌, List, ◌++◌, length, take, drop, replicate, sym, ap, ◌∙◌, arith, le_refl}
use lib.ListN.{length-append, length-drop, get_or-append}
use lib.Seq.{length-take-le, take-take}
use native.Mathlib.Decide.{dec_lt}
use borrow.Rule.Slice.PartMut.{put_mid}
use Rattle.std.proofs.lemmas.List.{drop-take, get_or-replicate, length-replicate, get_or-append_right}
use Rattle.std.proofs.lemmas.Slice.{take-put_mid_below, drop-put_mid}
use Rattle.rules.specs.Lists.{word}
use Rattle.words.proofs.Regions.{rise, same_later}
use Rattle.work_slice.specs.Regions.{region, Zeroed}
use Rattle.work_slice.proofs.Regions.{word_at}

module _ (a b : ℕ) (w zeros : List ℕ) (h : a ≤ b) (fits : b ≤ length w) (e : zeros ≡ replicate (b - a) 0) where
  sized : length zeros ≡ b - a
  sized = ap length e ∙ length-replicate (b - a) 0

  front : length (take a w) ≡ a
  front = length-take-le a w (omega arith)

  none : (p : ℕ) → a ≤ p → p < b → word (put_mid a (b - a) w zeros) p ≡ 0
  none p l m =
      get_or-append_right (take a w) (zeros ++ drop (b - a) (drop a w)) a p 0 front l
      ∙ get_or-append zeros (drop (b - a) (drop a w)) 0 (p - a) (omega (arith, sized))
      ∙ ap (λ (l : List ℕ). word l (p - a)) e
      ∙ get_or-replicate (b - a) (p - a) 0 0 (omega arith)

  pub zeroed : Zeroed w (put_mid a (b - a) w zeros) a b
  zeroed =
      record {
        long =
            length-append (take a w) (zeros ++ drop (b - a) (drop a w))
            ∙ omega (arith, front, sized, length-append zeros (drop (b - a) (drop a w)), length-drop (b - a) (drop a w), length-drop a w);
        none = none;
        before = take-put_mid_below a (b - a) w zeros a (le_refl a) (omega arith);
        behind = drop-put_mid a (b - a) w zeros b (omega arith) (omega arith) sized;
      }

-- ---- one region that was zeroed

-- its words
pub zeroed_region : (r v : ℕ) (w w' : List ℕ) → Zeroed w w' (r * v + 0) (r * v + v) → (i : ℕ) → i < v → word (region r v w') i ≡ 0
zeroed_region r v w w' z i h = sym (word_at r v i w' h) ∙ z.none (r * v + i) (omega arith) (omega arith)

-- a region before the zeros is as it was, and one behind them
pub before_zeros : (s v a : ℕ) (w w' : List ℕ) → take a w' ≡ take a w → s * v + v ≤ a → region s v w' ≡ region s v w
unfolding region
before_zeros s v a w w' e h = sym (cut w') ∙ ap (λ (l : List ℕ). drop (s * v) (take (s * v + v) l)) e ∙ cut w
  where
    cut : (l : List ℕ) → drop (s * v) (take (s * v + v) (take a l)) ≡ take v (drop (s * v) l)
    cut l = ap (drop (s * v)) (take-take (s * v + v) a l h) ∙ drop-take (s * v) v l

behind_zeros : (s v b : ℕ) (w w' : List ℕ) → drop b w' ≡ drop b w → b ≤ s * v → region s v w' ≡ region s v w
unfolding region
behind_zeros s v b w w' e h = ap (take v) (same_later b (s * v) w w' e h)

-- each other region is as it was
pub zeroed_other : (s r v : ℕ) (w w' : List ℕ) → (s ≡ r → ⊥) → Zeroed w w' (r * v + 0) (r * v + v) → region s v w' ≡ region s v w
zeroed_other s r v w w' d z = go (dec_lt s r) (dec_lt r s)
  where
    go : Dec (s < r) → Dec (r < s) → region s v w' ≡ region s v w
    go (yes l) b = before_zeros s v (r * v + 0) w w' z.before (omega (arith, rise s r v l))
    go (no a) (yes l) = behind_zeros s v (r * v + v) w w' z.behind (rise r s v l)
    go (no a) (no b) = absurd (d (omega arith))
