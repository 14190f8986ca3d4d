-- One node more, from the last node to the first: if trees are equal exactly where the shapes that show them are, its
-- number is the last node that has its tree. Assumes nothing.
use mathlib.Core.Path.{◌≡◌, refl, sym, subst, ◌∙◌}
use mathlib.Core.Logic.{inl, inr}
use mathlib.Core.List.{List}
use Prim.Native.Nat.{ℕ, ◌+◌, ◌-◌, ◌≤◌, ◌<◌}
use native.Mathlib.Decide.{dec_lt, ℕ_discrete}
use native.Mathlib.Omega.{arith}
use lib.ListN.{length, get_or, set, take, drop, length-set, length-take, length-drop}
use lib.Seq.{get_or-set_same, get_or-set_other, get_or-take, get_or-drop}
use Rattle.rules.specs.Lists.{word}
use Rattle.node_kinds.specs.declared.Shape.{Shape}
use Rattle.alike_nodes.specs.Nodes.{Last, Numbered, NumberGiven}

-- the nodes from i on are placed: their shapes show their trees, and they have their numbers
pub record Placed {A K : Type 0} (tree : ℕ → A) (Shown : A → Shape K → Type 0) (n i : ℕ) (shapes : List (Shape K)) (numbers : List ℕ) : Type 0 where
  pub room : n ≤ length shapes
  pub shown : (v : ℕ) (d : Shape K) → i ≤ v → v < n → Shown (tree v) (get_or shapes v d)
  pub numbered : Numbered tree n i numbers

module _ {A K : Type 0} (tree : ℕ → A) (Shown : A → Shape K → Type 0) (n : ℕ) where
  module _
      (one-shape : (t : A) (a b : Shape K) → Shown t a → Shown t b → a ≡ b)
      (one-tree : (s t : A) (a : Shape K) → Shown s a → Shown t a → s ≡ t)
      (shapes : List (Shape K)) (numbers : List ℕ) (v : ℕ) (s : Shape K) (placed : Placed tree Shown n (v + 1) shapes numbers)
      (inside : v < n) (shown : Shown (tree v) s)
    where
      -- the shapes of the later nodes
      later-shape : (k : ℕ) → k < n - (v + 1) → get_or (take (n - (v + 1)) (drop (v + 1) shapes)) k s ≡ get_or shapes (v + 1 + k) s
      later-shape k h = get_or-take (n - (v + 1)) (drop (v + 1) shapes) k s h ∙ get_or-drop (v + 1) shapes k s

      number_last : (r : ℕ) → NumberGiven (take (n - (v + 1)) (drop (v + 1) shapes)) numbers v s r → Last tree n (tree v) r
      number_last r (inl (k, b, e, before, w)) =
          let h : k < n - (v + 1) = omega (arith, length-take (n - (v + 1)) (drop (v + 1) shapes)) in
          let u-shown = placed.shown (v + 1 + k) s (omega arith) (omega arith) in
          let same = one-tree (tree (v + 1 + k)) (tree v) s
          (subst (Shown (tree (v + 1 + k))) (sym (later-shape k h) ∙ e s) u-shown) shown in
          subst (λ (t : A). Last tree n t r) same
          (subst (Last tree n (tree (v + 1 + k))) (sym w) (placed.numbered.number (v + 1 + k) (omega arith) (omega arith)))
      number_last r (inr (none, w)) =
          rw w (record { below = inside; carries = refl; later = λ u b e. up_to u (dec_lt v u) b e })
        where
          up_to : (u : ℕ) → Dec (v < u) → u < n → tree u ≡ tree v → u ≤ v
          up_to u (yes a) b e =
              let h : u - (v + 1) < n - (v + 1) = omega arith in
              let g : v + 1 + (u - (v + 1)) ≡ u = omega arith in
              let u-shown = subst (λ (t : A). Shown t (get_or shapes u s)) e (placed.shown u s (omega arith) b) in
              absurd (none (u - (v + 1)) s (omega arith)
              (omega (arith, length-take (n - (v + 1)) (drop (v + 1) shapes), length-drop (v + 1) shapes, placed.room))
              (later-shape (u - (v + 1)) h
              ∙ rw g (one-shape (tree v) (get_or shapes u s) s u-shown shown)))
          up_to u (no a) b e = omega arith

      -- node v is placed
      pub placed_more : (r : ℕ) → NumberGiven (take (n - (v + 1)) (drop (v + 1) shapes)) numbers v s r
          → Placed tree Shown n v (set shapes v s) (set numbers v r)
      placed_more r given =
          record {
            room = omega (arith, length-set shapes v s, placed.room);
            shown = λ u o a b. at_node u o (ℕ_discrete u v) a b;
            numbered = record {
              room = omega (arith, length-set numbers v r, placed.numbered.room);
              number = λ u a b. number_at u (ℕ_discrete u v) a b;
            };
          }
        where
          at_node : (u : ℕ) (o : Shape K) → Dec (u ≡ v) → v ≤ u → u < n → Shown (tree u) (get_or (set shapes v s) u o)
          at_node u o (yes e) a b = rw (e, get_or-set_same {A = Shape K} shapes v s o (omega (arith, placed.room))) shown
          at_node u o (no d) a b = rw (get_or-set_other {A = Shape K} shapes v u s o d) (placed.shown u o (omega arith) b)

          number_at : (u : ℕ) → Dec (u ≡ v) → v ≤ u → u < n → Last tree n (tree u) (word (set numbers v r) u)
          number_at u (yes e) a b =
              rw (e, get_or-set_same {A = ℕ} numbers v r 0 (omega (arith, placed.numbered.room))) (number_last r given)
          number_at u (no d) a b = rw (get_or-set_other {A = ℕ} numbers v u r 0 d) (placed.numbered.number u (omega arith) b)
