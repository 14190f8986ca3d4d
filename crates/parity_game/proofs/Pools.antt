-- Checks of one number in the order of their places: the fault at the smallest place is that of the first check that
-- has one. Assumes nothing.
use Prim.Native.Nat.{ℕ, suc, ◌≤◌}
use native.Mathlib.Omega.{arith}
use mathlib.Core.Path.{◌≡◌, refl}
use mathlib.Core.Bool.{Bool, true, false}
use Rattle.rules.specs.Answers.{Check}
use Rattle.std.specs.declared.result.Result.TheVariants.{Ok, Err}
use Rattle.rules.specs.Answers.{fault_if, and_then}
use Rattle.rules.specs.Refusal.{fault_from, lower_fault}
use Rattle.tables.proofs.Faults.{from_cases, lower_left}

-- a fault's place is q or a larger one
abbrev pub NotBefore : ℕ → Check → Type 0
NotBefore q (Ok u) = Unit {0}
NotBefore q (Err f) = q ≤ f.place

-- a fault's place is q or a smaller one
abbrev pub NotPast : ℕ → Check → Type 0
NotPast q (Ok u) = Unit {0}
NotPast q (Err f) = f.place ≤ q

pub in_order_lem : (q : ℕ) (c d : Check) → NotPast q c → NotBefore q d → lower_fault c d ≡ and_then c d
unfolding lower_fault and_then
in_order_lem q (Ok u) d a b = refl
in_order_lem q (Err f) (Ok u) a b = refl
in_order_lem q (Err f) (Err g) a b = lower_left f.number f.place g.number g.place (omega arith)

pub if_before : (q n p : ℕ) (t : Bool) → q ≤ p → NotBefore q (fault_if n p t)
unfolding fault_if
if_before q n p true h = h
if_before q n p false h = tt

pub if_past : (q n p : ℕ) (t : Bool) → p ≤ q → NotPast q (fault_if n p t)
unfolding fault_if
if_past q n p true h = h
if_past q n p false h = tt

pub from_before : (q n p e : ℕ) (bad : ℕ → Bool) → q ≤ p → NotBefore q (fault_from n p e bad)
from_before q n p e bad h = from_cases n p e bad (NotBefore q) (λ all. tt) (λ r a b s before. omega arith)

pub from_past : (q n p e : ℕ) (bad : ℕ → Bool) → e ≤ suc q → NotPast q (fault_from n p e bad)
from_past q n p e bad h = from_cases n p e bad (NotPast q) (λ all. tt) (λ r a b s before. omega arith)

pub then_before : (q : ℕ) (c d : Check) → NotBefore q c → NotBefore q d → NotBefore q (and_then c d)
unfolding and_then
then_before q (Ok u) d a b = b
then_before q (Err f) d a b = a
