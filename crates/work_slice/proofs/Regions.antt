-- The laws of regions of one flat list: a word of a region, and every region after one word was put. Assumes nothing.
use mathlib.Core.Path.{◌≡◌, sym, ◌∙◌, ap}
use mathlib.Core.List.{List}
use Prim.Native.Nat.{ℕ, ◌+◌, ◌-◌, ◌*◌, ◌≤◌, ◌<◌}
use native.Mathlib.Nat.{mul-le-mul_right}
use native.Mathlib.Omega.{arith}
use native.Mathlib.Decide.{dec_lt}
use lib.ListN.{length, set, take, drop, length-take, length-drop, length-set}
use lib.Seq.{get_or-take, get_or-drop, drop-set-lt, drop-set-add, take-set-lt, take-set-le}
use Rattle.rules.specs.Lists.{word}
use Rattle.words.proofs.Regions.{rise, same_later}
use Rattle.work_slice.specs.Regions.{region, put_word}

pub word_at : (r v i : ℕ) (w : List ℕ) → i < v → word w (r * v + i) ≡ word (region r v w) i
unfolding region
word_at r v i w h = sym (get_or-take v (drop (r * v) w) i 0 h ∙ get_or-drop (r * v) w i 0)

pub length-put_word : (r v i x : ℕ) (w : List ℕ) → length (put_word r v i x w) ≡ length w
unfolding put_word
length-put_word r v i x w = length-set w (r * v + i) x

pub length-region : (r v : ℕ) (w : List ℕ) → r * v + v ≤ length w → length (region r v w) ≡ v
unfolding region
length-region r v w h = simp (length-take, length-drop) (omega arith)

pub region_same : (r v i x : ℕ) (w : List ℕ) → i < v → region r v (put_word r v i x w) ≡ set (region r v w) i x
unfolding region put_word
region_same r v i x w h = ap (take v) (drop-set-add (r * v) w i x) ∙ take-set-lt v (drop (r * v) w) i x h

put_below : (r s v i x : ℕ) (w : List ℕ) → i < v → s < r → region r v (put_word s v i x w) ≡ region r v w
unfolding region put_word
put_below r s v i x w h l = ap (take v) (drop-set-lt (r * v) w (s * v + i) x (omega (arith, rise s r v l)))

-- a word behind a region does not change it
pub region_past : (r v j x : ℕ) (w : List ℕ) → r * v + v ≤ j → region r v (set w j x) ≡ region r v w
unfolding region
region_past r v j x w h =
    let e : j ≡ r * v + (j - r * v) = omega arith in
    ap (λ (k : ℕ). take v (drop (r * v) (set w k x))) e
    ∙ ap (take v) (drop-set-add (r * v) w (j - r * v) x)
    ∙ take-set-le v (drop (r * v) w) (j - r * v) x (omega arith)

put_above : (r s v i x : ℕ) (w : List ℕ) → i < v → r < s → region r v (put_word s v i x w) ≡ region r v w
unfolding put_word
put_above r s v i x w h l = region_past r v (s * v + i) x w (omega (arith, rise r s v l))

pub region_other : (r s v i x : ℕ) (w : List ℕ) → i < v → (r ≡ s → ⊥) → region r v (put_word s v i x w) ≡ region r v w
region_other r s v i x w h d = go (dec_lt r s) (dec_lt s r)
  where
    go : Dec (r < s) → Dec (s < r) → region r v (put_word s v i x w) ≡ region r v w
    go (yes l) b = put_above r s v i x w h l
    go (no a) (yes l) = put_below r s v i x w h l
    go (no a) (no b) = absurd (d (omega arith))

-- what stands from region k on, after a word was put before it
pub rest_put : (k s v i x : ℕ) (w : List ℕ) → i < v → s < k → drop (k * v) (put_word s v i x w) ≡ drop (k * v) w
unfolding put_word
rest_put k s v i x w h l = drop-set-lt (k * v) w (s * v + i) x (omega (arith, rise s k v l))

-- where all from region k on is as it was, each later region is, and all from there on
pub rest_later : (k r v : ℕ) (w w' : List ℕ) → drop (k * v) w' ≡ drop (k * v) w → k ≤ r → drop (r * v) w' ≡ drop (r * v) w
rest_later k r v w w' e h = same_later (k * v) (r * v) w w' e (mul-le-mul_right v h)

pub rest_region : (k r v : ℕ) (w w' : List ℕ) → drop (k * v) w' ≡ drop (k * v) w → k ≤ r → region r v w' ≡ region r v w
unfolding region
rest_region k r v w w' e h = ap (take v) (rest_later k r v w w' e h)
