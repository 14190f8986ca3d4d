-- A measure made of all numbers of an accepted verdict, for each odd priority q. Along a kept edge from a vertex whose
-- priority is odd, or even and at most q, it never rises, and from a vertex of priority q it falls: whatever odd
-- priorities above q stand on the way. It is the tuple of the numbers for the odd priorities from q on, the highest
-- first, each one larger, but 0 at a vertex of higher priority; written as one number in a base above them all. Assumes
-- nothing.
use mathlib.Core.Path.{◌≡◌, refl, sym, ap, ◌∙◌}
use mathlib.Core.Bool.{Bool, true, false, cond, not, ◌&&◌, true≢false}
use mathlib.Core.List.{List, map}
use Prim.Native.Nat.{ℕ, zero, suc, ◌+◌, ◌*◌, ◌-◌, ◌≤◌, ◌<◌}
use native.Mathlib.Nat.{mul-le-mul_right, suc-mul}
use native.Mathlib.Omega.{arith}
use native.Mathlib.Decide.{dec_lt, ℕ_discrete}
use lib.Dec.{eqb, leb}
use borrow.Author.Tests.{leb-true, le-leb, eq-eqb, eqb-true}
use Rattle.rules.specs.Lists.{from, largest}
use Rattle.rules.specs.Game.{vertex_count, priority_in}
use Rattle.lists.proofs.Ranges.{from_in, in_from}
use Rattle.lists.proofs.Tests.{and-true}
use Rattle.trees.proofs.Largest.{largest_bounds}
use Rattle.meaning.specs.Quantifiers.{any}
use Rattle.satisfaction.specs.Ranks.{is_even}
use Rattle.meaning.proofs.Quantifiers.{any_in, in_any}
use Rattle.satisfaction.specs.Verdict.{OddPriority, Kept, AcceptedVerdict}

-- ---- numbers of two digits in base b

raised : (a c b r s : ℕ) → a ≤ c → r ≤ s → a * b + r ≤ c * b + s
raised a c b r s h l = let m = mul-le-mul_right {m = a} {n = c} b h in omega arith

raised_last : (a c b r s : ℕ) → a ≤ c → r < s → a * b + r < c * b + s
raised_last a c b r s h l = let m = mul-le-mul_right {m = a} {n = c} b h in omega arith

raised_first : (a c b r s : ℕ) → a < c → r < b → a * b + r < c * b + s
raised_first a c b r s h l =
    let m = mul-le-mul_right {m = suc a} {n = c} b h in
    let e = suc-mul a b in
    omega arith

not_odd : (b : Bool) → not b ≡ true → b ≡ false
not_odd true e = sym e
not_odd false e = refl

module _ (g : List ℕ) (region : ℕ → Bool) (pick : ℕ → ℕ) (number : (p v : ℕ) → ℕ) (accepted : AcceptedVerdict g region pick number) where
  -- some vertex has priority p
  occurs : ℕ → Bool
  occurs p = any (λ u. eqb (priority_in g u) p) (from 0 (vertex_count g))

  counts : (p v : ℕ) → Bool
  counts p v = not (is_even p) && (occurs p && leb (priority_in g v) p)

  component : (p v : ℕ) → ℕ
  component p v = cond (counts p v) (suc (number p v)) 0

  -- above all priorities, and above all components
  ceiling : ℕ
  ceiling = suc (largest (map (λ v. priority_in g v) (from 0 (vertex_count g))))

  base : ℕ
  base = suc (largest (map (λ v. largest (map (λ p. component p v) (from 0 ceiling))) (from 0 (vertex_count g))))

  -- the components of the j highest priorities
  tuple : (j v : ℕ) → ℕ
  tuple zero v = 0
  tuple (suc j) v = tuple j v * base + component (ceiling - suc j) v

  pub measure : (q v : ℕ) → ℕ
  measure q v = tuple (ceiling - q) v

  -- ---- bounds

  priority_below : (v : ℕ) → v < vertex_count g → priority_in g v < ceiling
  unfolding ceiling
  priority_below v h =
      let b = largest_bounds (λ v. priority_in g v) v (from 0 (vertex_count g)) (from_in v 0 (vertex_count g) (omega arith) (omega arith)) in
      omega arith

  component_below : (p v : ℕ) → v < vertex_count g → p < ceiling → component p v < base
  unfolding base
  component_below p v h l =
      let a = largest_bounds (λ p. component p v) p (from 0 ceiling) (from_in p 0 ceiling (omega arith) (omega arith)) in
      let b = largest_bounds (λ v. largest (map (λ p. component p v) (from 0 ceiling))) v (from 0 (vertex_count g)) (from_in v 0 (vertex_count g) (omega arith) (omega arith)) in
      omega arith

  -- ---- components along an edge

  record Counted (p v : ℕ) : Type 0 where
    odd : is_even p ≡ false
    shown : occurs p ≡ true
    low : priority_in g v ≤ p

  counted : (p v : ℕ) → counts p v ≡ true → Counted p v
  unfolding counts
  counted p v e =
      let (a, d) = and-true (not (is_even p)) (occurs p && leb (priority_in g v) p) e in
      let (b, c) = and-true (occurs p) (leb (priority_in g v) p) d in
      record { odd = not_odd (is_even p) a; shown = b; low = leb-true (priority_in g v) p c }

  counting : (p v : ℕ) → is_even p ≡ false → occurs p ≡ true → priority_in g v ≤ p → component p v ≡ suc (number p v)
  unfolding component counts
  counting p v a b c = rw (a, b, le-leb (priority_in g v) p c) refl

  shown_occurs : (v : ℕ) → v < vertex_count g → occurs (priority_in g v) ≡ true
  unfolding occurs
  shown_occurs v h = in_any (λ u. eqb (priority_in g u) (priority_in g v)) (from 0 (vertex_count g)) v (from_in v 0 (vertex_count g) (omega arith) (omega arith)) (eq-eqb (priority_in g v) (priority_in g v) refl)

  occurs_shown : (p : ℕ) → is_even p ≡ false → occurs p ≡ true → OddPriority g p
  unfolding occurs
  occurs_shown p o e =
      let (u, m, t) = any_in (λ u. eqb (priority_in g u) p) (from 0 (vertex_count g)) e in
      let (a, b) = in_from u 0 (vertex_count g) m in
      (o, (u, omega arith, eqb-true (priority_in g u) p t))

  module _ (v w : ℕ) (kept : Kept g region pick number v w) where
    -- the component of a priority above the first vertex's does not rise
    component_stays : (p : ℕ) → priority_in g v < p → component p w ≤ component p v
    unfolding component
    component_stays p l = go (counts p w) refl
      where
        go : (b : Bool) → counts p w ≡ b → cond b (suc (number p w)) 0 ≤ component p v
        go true e =
            let c = counted p w e in
            let (y, z) = accepted.falls v w p kept (occurs_shown p c.odd c.shown) (omega arith) c.low in
            let i = counting p v c.odd c.shown (omega arith) in
            omega arith
        go false e = omega arith

    -- that of its own priority falls, if it is odd
    component_falls : is_even (priority_in g v) ≡ false → component (priority_in g v) w < component (priority_in g v) v
    unfolding component
    component_falls o = go (counts (priority_in g v) w) refl
      where
        s : occurs (priority_in g v) ≡ true
        s = shown_occurs v kept.known

        i : component (priority_in g v) v ≡ suc (number (priority_in g v) v)
        i = counting (priority_in g v) v o s (omega arith)

        go : (b : Bool) → counts (priority_in g v) w ≡ b → cond b (suc (number (priority_in g v) w)) 0 < component (priority_in g v) v
        go true e =
            let c = counted (priority_in g v) w e in
            let (y, z) = accepted.falls v w (priority_in g v) kept (occurs_shown (priority_in g v) o s) (omega arith) c.low in
            let k = z refl in
            omega (arith, i)
        go false e = omega (arith, i)

    -- ---- the tuple along an edge

    module _ (known : w < vertex_count g) (q : ℕ) (odd : is_even q ≡ false) (low : is_even (priority_in g v) ≡ true → priority_in g v ≤ q) where
      abbrev Falling : ℕ → Type 0
      Falling j = (tuple j w ≤ tuple j v) × (ceiling - j ≤ priority_in g v → tuple j w < tuple j v)

      own_odd : q ≤ priority_in g v → is_even (priority_in g v) ≡ false
      own_odd h = go (is_even (priority_in g v)) refl
        where
          go : (b : Bool) → is_even (priority_in g v) ≡ b → b ≡ false
          go true e = let i : priority_in g v ≡ q = omega (arith, low e) in absurd (true≢false (sym e ∙ ap is_even i ∙ odd))
          go false e = refl

      tuple_falls : (j : ℕ) → j ≤ ceiling → q ≤ ceiling - j → Falling j
      unfolding tuple
      tuple_falls zero a b = (omega arith, λ h. absurd (omega (arith, priority_below v kept.known)))
      tuple_falls (suc j) a b = go (tuple_falls j (omega arith) (omega arith)) (dec_lt (ceiling - suc j) (priority_in g v)) (ℕ_discrete (ceiling - suc j) (priority_in g v))
        where
          c : ℕ
          c = ceiling - suc j

          go : Falling j → Dec (ceiling - suc j < priority_in g v) → Dec (ceiling - suc j ≡ priority_in g v)
              → (tuple j w * base + component (ceiling - suc j) w ≤ tuple j v * base + component (ceiling - suc j) v)
              × (ceiling - suc j ≤ priority_in g v → tuple j w * base + component (ceiling - suc j) w < tuple j v * base + component (ceiling - suc j) v)
          go (x, y) (yes l) d =
              let r = raised_first (tuple j w) (tuple j v) base (component (ceiling - suc j) w) (component (ceiling - suc j) v) (y (omega arith)) (component_below (ceiling - suc j) w known (omega arith)) in
              (omega arith, λ h. r)
          go (x, y) (no l) (yes e) =
              let o = own_odd (omega arith) in
              let f : component (ceiling - suc j) w < component (ceiling - suc j) v = rw e (component_falls o) in
              let r = raised_last (tuple j w) (tuple j v) base (component (ceiling - suc j) w) (component (ceiling - suc j) v) x f in
              (omega arith, λ h. r)
          go (x, y) (no l) (no d) =
              (raised (tuple j w) (tuple j v) base (component (ceiling - suc j) w) (component (ceiling - suc j) v) x (component_stays (ceiling - suc j) (omega arith)), λ h. absurd (omega arith))

      pub measure_falls : (measure q w ≤ measure q v) × (priority_in g v ≡ q → measure q w < measure q v)
      unfolding measure tuple
      measure_falls = go (dec_lt ceiling q)
        where
          go : Dec (ceiling < q) → (tuple (ceiling - q) w ≤ tuple (ceiling - q) v) × (priority_in g v ≡ q → tuple (ceiling - q) w < tuple (ceiling - q) v)
          go (yes l) = let z : ceiling - q ≡ 0 = omega arith in (rw z (omega arith), λ e. absurd (omega (arith, priority_below v kept.known)))
          go (no l) =
              let f = tuple_falls (ceiling - q) (omega arith) (omega arith) in
              (f.0, λ e. f.1 (omega arith))
