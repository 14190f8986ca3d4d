-- Shapes that compare as different are different. Assumes nothing.
use mathlib.Core.Path.{◌≡◌, subst}
use mathlib.Core.Bool.{Bool, true, false}
use Rattle.std.proofs.Common.{◌&&◌, ◌==◌, rules, tests}
use Rattle.node_kinds.specs.declared.Shape.{Shape}

pub shapes_differ : {K : Type 0} (eq : K → K → Bool) (same : (a : K) → eq a a ≡ true) (a b : Shape K)
    → (eq a.kind b.kind && ((a.left == b.left) && (a.right == b.right))) ≡ false → a ≡ b → ⊥
shapes_differ {K} eq same a b f e =
    let g : (eq b.kind b.kind && ((b.left == b.left) && (b.right == b.right))) ≡ false
    = subst (λ (c : Shape K). (eq c.kind b.kind && ((c.left == b.left) && (c.right == b.right))) ≡ false) e f in
    let h = same b.kind in
    search (rules, tests)
