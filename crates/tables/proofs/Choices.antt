-- The tests of numbers that refusals speak of, by facts about the numbers, and the other way round. Assumes nothing.
use Prim.Native.Nat.{ℕ, ◌<◌, ◌≤◌}
use mathlib.Core.Path.{◌≡◌, ap}
use mathlib.Core.Logic.{◌⊎◌, inl, inr}
use mathlib.Core.Bool.{true, false, not}
use mathlib.Core.List.{List}
use lib.Dec.{eqb, ltb}
use borrow.Author.Tests.{lt-ltb, le-ltb, eq-eqb, ne_eqb, ltb-true, ltb-false, eqb-true, eqb-false, not-true, not-false, le-leb, lt-leb}
use Rattle.rules.specs.Lists.{word}
use Rattle.rules.specs.Refusal.{outside, differ, too_large}
use Rattle.lists.proofs.Tests.{or_right, or-true, or-false}

-- ---- two numbers differ

pub differ_yes : {a b : ℕ} → (a ≡ b → ⊥) → differ a b ≡ true
unfolding differ
differ_yes {a} {b} h = ap not (ne_eqb a b h)

pub differ_true : (m n : ℕ) → differ m n ≡ true → ¬ (m ≡ n)
unfolding differ
differ_true m n e = eqb-false m n (not-true (eqb m n) e)

pub differ_no : {a b : ℕ} → a ≡ b → differ a b ≡ false
unfolding differ
differ_no {a} {b} h = ap not (eq-eqb a b h)

pub differ_false : (a b : ℕ) → differ a b ≡ false → a ≡ b
unfolding differ
differ_false a b e = eqb-true a b (not-false (eqb a b) e)

-- ---- a number is not from a to b

pub below_outside : {a n : ℕ} (b : ℕ) → n < a → outside a b n ≡ true
unfolding outside
below_outside {a} {n} b h = rw (lt-ltb n a h)

pub above_outside : (a : ℕ) {b n : ℕ} → b < n → outside a b n ≡ true
unfolding outside
above_outside a {b} {n} h = or_right (ltb n a) (lt-ltb b n h)

pub inside : {a b n : ℕ} → a ≤ n → n ≤ b → outside a b n ≡ false
unfolding outside
inside {a} {b} {n} h l = rw (le-ltb n a h, le-ltb b n l)

pub outside_true : (a b n : ℕ) → outside a b n ≡ true → (n < a) ⊎ (b < n)
unfolding outside
outside_true a b n e = go (or-true (ltb n a) (ltb b n) e)
  where
    go : (ltb n a ≡ true) ⊎ (ltb b n ≡ true) → (n < a) ⊎ (b < n)
    go (inl i) = inl (ltb-true n a i)
    go (inr i) = inr (ltb-true b n i)

pub outside_false : (a b n : ℕ) → outside a b n ≡ false → (a ≤ n) × (n ≤ b)
unfolding outside
outside_false a b n e =
    let d = or-false (ltb n a) (ltb b n) e in
    (ltb-false n a d.0, ltb-false b n d.1)

-- ---- a word is not below a bound

pub large : (ws : List ℕ) (bound w : ℕ) → bound ≤ word ws w → too_large ws bound w ≡ true
unfolding too_large
large ws bound w h = le-leb _ _ h

pub small : (ws : List ℕ) (bound w : ℕ) → word ws w < bound → too_large ws bound w ≡ false
unfolding too_large
small ws bound w h = lt-leb _ _ h
