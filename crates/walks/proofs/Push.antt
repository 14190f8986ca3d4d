-- The waiting vertices: those that were pushed, and those that waited before. Assumes nothing.
use mathlib.Core.Path.{◌≡◌}
use mathlib.Core.List.{List}
use mathlib.Core.Logic.{◌⊎◌, inl, inr}
use Prim.Native.Nat.{ℕ, zero, suc, ◌+◌, ◌≤◌, ◌<◌}
use native.Mathlib.Decide.{ℕ_discrete}
use native.Mathlib.Omega.{arith}
use lib.ListN.{length}
use Rattle.rules.specs.Lists.{In}
use Rattle.rules.specs.Walk.{push_new}
use Rattle.lists.specs.Shapes.{Falling}
use Rattle.lists.proofs.Shapes.{falling_above}

pub push_falling : (n c : ℕ) (before : List ℕ) → Falling n before → Falling (n + c) (push_new n c before)
unfolding push_new
push_falling n zero before f = falling_above n (n + 0) before (omega arith) f
push_falling n (suc c) before f = (omega arith, push_falling n c before f)

pub push_length : (n c : ℕ) (before : List ℕ) → length (push_new n c before) ≡ c + length before
unfolding push_new
push_length n zero before = omega arith
push_length n (suc c) before = omega (arith, push_length n c before)

pub push_before : (n c : ℕ) (before : List ℕ) (v : ℕ) → In v before → In v (push_new n c before)
unfolding push_new
push_before n zero before v m = m
push_before n (suc c) before v m = inr (push_before n c before v m)

pub push_holds : (n c : ℕ) (before : List ℕ) (v : ℕ) → n ≤ v → v < n + c → In v (push_new n c before)
unfolding push_new
push_holds n zero before v h l = absurd (omega arith)
push_holds n (suc c) before v h l = go (ℕ_discrete v (n + c)) (push_holds n c before v h)
  where
    go : Dec (v ≡ n + c) → (v < n + c → In v (push_new n c before)) → (v ≡ n + c) ⊎ In v (push_new n c before)
    go (yes e) ih = inl e
    go (no d) ih = inr (ih (omega arith))

pub push_only : (n c : ℕ) (before : List ℕ) (v : ℕ) → In v (push_new n c before) → (n ≤ v) ⊎ In v before
unfolding push_new
push_only n zero before v m = inr m
push_only n (suc c) before v (inl e) = inl (omega arith)
push_only n (suc c) before v (inr m) = push_only n c before v m
