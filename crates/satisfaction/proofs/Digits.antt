-- Numbers in a base, digit by digit from the lowest: one digit made smaller with all lower ones largest, and what is
-- left of a number without its lowest digits. Assumes nothing.
use mathlib.Core.Path.{◌≡◌, refl, ap, ◌∙◌}
use Prim.Native.Nat.{ℕ, zero, suc, ◌+◌, ◌*◌, ◌-◌, ◌/◌, ◌%◌, ◌≤◌, ◌<◌}
use native.Mathlib.Nat.{div-add-mod', mod-lt, div-eq_of_lt, mul-add-div_right, mul-le-mul_right, le-div_iff_mul-le, div-mul-le_self, div-le_self, suc-mul}
use native.Mathlib.Omega.{arith}

-- digits are 0 to S
module _ (S : ℕ) where
  unfoldable pub digit : (r n : ℕ) → ℕ
  digit zero n = n % suc S
  digit (suc r) n = digit r (n / suc S)

  -- without the lowest c digits
  unfoldable pub top : (c n : ℕ) → ℕ
  top zero n = n
  top (suc c) n = top c (n / suc S)

  -- digit q one smaller, all lower ones largest
  unfoldable pub down : (q n : ℕ) → ℕ
  down zero n = n - 1
  down (suc q) n = down q (n / suc S) * suc S + S

  -- the lowest q digits largest
  unfoldable pub fill : (q n : ℕ) → ℕ
  fill zero n = n
  fill (suc q) n = fill q (n / suc S) * suc S + S

  -- ---- division

  join_div : (a r : ℕ) → r < suc S → (a * suc S + r) / suc S ≡ a
  join_div a r h = mul-add-div_right {m = suc S} (omega arith) a r ∙ let e = div-eq_of_lt {n = r} {m = suc S} h in omega arith

  join_mod : (a r : ℕ) → r < suc S → (a * suc S + r) % suc S ≡ r
  join_mod a r h =
      let e = div-add-mod' (a * suc S + r) (suc S) in
      let d : (a * suc S + r) / suc S * suc S ≡ a * suc S = ap (λ (z : ℕ). z * suc S) (join_div a r h) in
      omega arith

  div_up : (n m : ℕ) → n ≤ m → n / suc S ≤ m / suc S
  div_up n m h = let d = div-mul-le_self n (suc S) in (le-div_iff_mul-le {k = suc S} {x = n / suc S} {y = m} (omega arith)).1 (omega arith)

  pub digit_most : (r n : ℕ) → digit r n ≤ S
  unfolding digit
  digit_most zero n = let h = mod-lt n {m = suc S} (omega arith) in omega arith
  digit_most (suc r) n = digit_most r (n / suc S)

  less_div : (n b : ℕ) → n % suc S ≡ suc b → ((n - 1) / suc S ≡ n / suc S) × ((n - 1) % suc S ≡ b)
  less_div n b e =
      let h = div-add-mod' n (suc S) in
      let l = mod-lt n {m = suc S} (omega arith) in
      let i : n - 1 ≡ n / suc S * suc S + b = omega arith in
      (ap (λ (z : ℕ). z / suc S) i ∙ join_div (n / suc S) b (omega arith), ap (λ (z : ℕ). z % suc S) i ∙ join_mod (n / suc S) b (omega arith))

  -- ---- digits

  pub down_above : (q r n b : ℕ) → q < r → digit q n ≡ suc b → digit r (down q n) ≡ digit r n
  unfolding digit down
  down_above q zero n b h e = absurd (omega arith)
  down_above zero (suc r) n b h e = ap (digit r) (less_div n b e).0
  down_above (suc q) (suc r) n b h e = ap (digit r) (join_div (down q (n / suc S)) S (omega arith)) ∙ down_above q r (n / suc S) b (omega arith) e

  pub down_at : (q n b : ℕ) → digit q n ≡ suc b → digit q (down q n) ≡ b
  unfolding digit down
  down_at zero n b e = (less_div n b e).1
  down_at (suc q) n b e = ap (digit q) (join_div (down q (n / suc S)) S (omega arith)) ∙ down_at q (n / suc S) b e

  pub down_below : (q r n : ℕ) → r < q → digit r (down q n) ≡ S
  unfolding digit down
  down_below zero r n h = absurd (omega arith)
  down_below (suc q) zero n h = join_mod (down q (n / suc S)) S (omega arith)
  down_below (suc q) (suc r) n h = ap (digit r) (join_div (down q (n / suc S)) S (omega arith)) ∙ down_below q r (n / suc S) (omega arith)

  pub fill_from : (q r n : ℕ) → q ≤ r → digit r (fill q n) ≡ digit r n
  unfolding digit fill
  fill_from zero r n h = refl
  fill_from (suc q) zero n h = absurd (omega arith)
  fill_from (suc q) (suc r) n h = ap (digit r) (join_div (fill q (n / suc S)) S (omega arith)) ∙ fill_from q r (n / suc S) (omega arith)

  pub fill_below : (q r n : ℕ) → r < q → digit r (fill q n) ≡ S
  unfolding digit fill
  fill_below zero r n h = absurd (omega arith)
  fill_below (suc q) zero n h = join_mod (fill q (n / suc S)) S (omega arith)
  fill_below (suc q) (suc r) n h = ap (digit r) (join_div (fill q (n / suc S)) S (omega arith)) ∙ fill_below q r (n / suc S) (omega arith)

  -- ---- order

  join_less : (a b n : ℕ) → a < b → b ≡ n / suc S → a * suc S + S < n
  join_less a b n h e =
      let m = mul-le-mul_right {m = suc a} {n = b} (suc S) h in
      let j = suc-mul a (suc S) in
      let d = div-add-mod' n (suc S) in
      let i : b * suc S ≡ n / suc S * suc S = ap (λ (z : ℕ). z * suc S) e in
      omega arith

  pub down_less : (q n b : ℕ) → digit q n ≡ suc b → down q n < n
  unfolding digit down
  down_less zero n b e = let h = div-add-mod' n (suc S) in omega arith
  down_less (suc q) n b e = join_less (down q (n / suc S)) (n / suc S) n (down_less q (n / suc S) b e) refl

  pub top_less : (c q n b : ℕ) → c ≤ q → digit q n ≡ suc b → top c (down q n) < top c n
  unfolding digit down top
  top_less zero q n b h e = down_less q n b e
  top_less (suc c) zero n b h e = absurd (omega arith)
  top_less (suc c) (suc q) n b h e =
      let i : top c ((down q (n / suc S) * suc S + S) / suc S) ≡ top c (down q (n / suc S)) = ap (top c) (join_div (down q (n / suc S)) S (omega arith)) in
      let l = top_less c q (n / suc S) b (omega arith) e in
      omega arith

  pub top_monotone : (c n m : ℕ) → n ≤ m → top c n ≤ top c m
  unfolding top
  top_monotone zero n m h = h
  top_monotone (suc c) n m h = top_monotone c (n / suc S) (m / suc S) (div_up n m h)

  pub top_most : (c n : ℕ) → top c n ≤ n
  unfolding top
  top_most zero n = omega arith
  top_most (suc c) n =
      let a = top_most c (n / suc S) in
      let b = div-le_self n (suc S) in
      omega arith

  pub top_fill : (c q n : ℕ) → q ≤ c → top c (fill q n) ≡ top c n
  unfolding top fill
  top_fill c zero n h = refl
  top_fill zero (suc q) n h = absurd (omega arith)
  top_fill (suc c) (suc q) n h = ap (top c) (join_div (fill q (n / suc S)) S (omega arith)) ∙ top_fill c q (n / suc S) (omega arith)

  -- the largest number of m digits is not exceeded by filling
  pub fill_most : (m q n : ℕ) → q ≤ m → n ≤ fill m 0 → fill q n ≤ fill m 0
  unfolding fill
  fill_most m zero n h l = l
  fill_most zero (suc q) n h l = absurd (omega arith)
  fill_most (suc m) (suc q) n h l =
      let z : fill m (0 / suc S) ≡ fill m 0 = ap (fill m) (div-eq_of_lt {n = 0} {m = suc S} (omega arith)) in
      let u = div_up n (fill m (0 / suc S) * suc S + S) l in
      let j = join_div (fill m (0 / suc S)) S (omega arith) in
      let ih = fill_most m q (n / suc S) (omega arith) (omega arith) in
      let i = mul-le-mul_right {m = fill q (n / suc S)} {n = fill m (0 / suc S)} (suc S) (omega arith) in
      omega arith
