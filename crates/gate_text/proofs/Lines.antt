-- The parts of a vertex's line, and of the lines of all vertices. Assumes nothing.
use mathlib.Core.Path.{◌≡◌, sym, ap, ◌∙◌}
use mathlib.Core.List.{List, [], ◌∷◌, ◌++◌, append_assoc}
use Prim.Native.Nat.{ℕ, suc, ◌+◌, ◌-◌, ◌≤◌, ◌<◌}
use native.Mathlib.Numerals.{add-one}
use native.Mathlib.Omega.{arith}
use Rattle.rules.specs.Game.{owner_in, priority_in, targets_in}
use Rattle.rules.specs.Texts.{decimal, spaced, line}
use Rattle.rules.specs.Program.{vertex_line, vertex_lines}

-- the parts of a line behind a number: two numbers, then others
words_parts : (name ns : List ℕ) (m n : ℕ)
    → line name (m ∷ n ∷ ns) ≡ name ++ ((32 ∷ decimal m) ++ ((32 ∷ decimal n) ++ (spaced ns ++ (10 ∷ []))))
unfolding line spaced
words_parts name ns m n =
    ap (λ (l : List ℕ). name ++ (32 ∷ l))
    (append_assoc (decimal m) (32 ∷ (decimal n ++ spaced ns)) (10 ∷ [])
    ∙ ap (λ (l : List ℕ). decimal m ++ (32 ∷ l)) (append_assoc (decimal n) (spaced ns) (10 ∷ [])))

-- a vertex's line is of what the code has read of the vertex
pub vertex_parts : (g : List ℕ) (v : ℕ) {owner priority : ℕ} {targets : List ℕ}
    → owner ≡ owner_in g v → priority ≡ priority_in g v → targets ≡ targets_in g v
    → decimal v ++ ((32 ∷ decimal owner) ++ ((32 ∷ decimal priority) ++ (spaced targets ++ (10 ∷ [])))) ≡ vertex_line g v
unfolding vertex_line
vertex_parts g v o p t = rw (o, p, t) (sym (words_parts (decimal v) (targets_in g v) (owner_in g v) (priority_in g v)))

-- the lines of n vertices: the first one's, and those of the others
pub lines_more : (g : List ℕ) (v n : ℕ) → v < n
    → vertex_lines g v (n - v) ≡ vertex_line g v ++ vertex_lines g (v + 1) (n - (v + 1))
unfolding vertex_lines
lines_more g v n h =
    let e : n - v ≡ suc (n - (v + 1)) = omega arith in
    ap (vertex_lines g v) e ∙ ap (λ (m : ℕ). vertex_line g v ++ vertex_lines g m (n - (v + 1))) (sym (add-one v))

pub lines_none : (g : List ℕ) (v n : ℕ) → n ≤ v → vertex_lines g v (n - v) ≡ []
unfolding vertex_lines
lines_none g v n h =
    let e : n - v ≡ 0 = omega arith in
    ap (vertex_lines g v) e
