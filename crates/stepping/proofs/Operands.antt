-- The operands of an item by its kind. Assumes nothing.
use mathlib.Core.Path.{◌≡◌, refl}
use mathlib.Core.List.{[], ◌∷◌}
use Prim.Native.Nat.{ℕ, ◌≤◌, ◌<◌}
use native.Mathlib.Decide.{dec_lt}
use native.Mathlib.Omega.{arith}
use borrow.Author.Tests.{lt-ltb, le-ltb}
use lib.ListN.{take}
use Rattle.stepping.specs.Parts.{operands_of}

module _ (k l r : ℕ) where
  pub operands_none : k < 2 → operands_of k l r ≡ []
  unfolding operands_of
  operands_none h = rw (lt-ltb k 2 h) refl

  pub operands_two : 2 ≤ k → k < 4 → operands_of k l r ≡ l ∷ r ∷ []
  unfolding operands_of
  operands_two a b = rw (le-ltb k 2 a, lt-ltb k 4 b) refl

  pub operands_one : 4 ≤ k → operands_of k l r ≡ l ∷ []
  unfolding operands_of
  operands_one a = rw (le-ltb k 2 (omega arith), le-ltb k 4 a) refl

  -- the operands as they are read, so many of them
  pub operands_read : (n : ℕ) → (k < 4 → n ≡ 2) → (4 ≤ k → n ≡ 1) → 2 ≤ k → operands_of k l r ≡ take n (l ∷ r ∷ [])
  operands_read n two one some = go (dec_lt k 4)
    where
      go : Dec (k < 4) → operands_of k l r ≡ take n (l ∷ r ∷ [])
      go (yes h) = rw (two h, operands_two some h) refl
      go (no h) = rw (one (omega arith), operands_one (omega arith)) refl
