-- A product that rises by whole stretches, and what stands from a later place on. Assumes nothing.
use mathlib.Core.Path.{◌≡◌, sym, ◌∙◌, ap, subst}
use mathlib.Core.List.{List}
use Prim.Native.Nat.{ℕ, ◌+◌, ◌-◌, ◌*◌, ◌≤◌, ◌<◌}
use native.Mathlib.Nat.{mul-le-mul_right, suc-mul}
use native.Mathlib.Omega.{arith}
use lib.ListN.{drop}
use lib.Seq.{drop-drop}

-- r stretches and one more are at most s, where r is below s
pub rise : (r s v : ℕ) → r < s → r * v + v ≤ s * v
rise r s v h = subst (λ (x : ℕ). x ≤ s * v) (suc-mul r v) (mul-le-mul_right v h)

-- where all from p on is as it was, all from a later place on is
pub same_later : (p q : ℕ) (w w' : List ℕ) → drop p w' ≡ drop p w → p ≤ q → drop q w' ≡ drop q w
same_later p q w w' e h = sym (split w') ∙ ap (drop (q - p)) e ∙ split w
  where
    split : (u : List ℕ) → drop (q - p) (drop p u) ≡ drop q u
    split u =
        let e' : p + (q - p) ≡ q = omega arith in
        drop-drop (q - p) p u ∙ ap (λ (m : ℕ). drop m u) e'
