-- How the nodes of a formula change where it is written elsewhere, or under other fixpoints. Assumes nothing.
use mathlib.Core.Path.{◌≡◌, refl, sym, ap, ap₂, ◌∙◌}
use mathlib.Core.Bool.{Bool, true, false, cond, ◌&&◌}
use mathlib.Core.List.{List, [], ◌∷◌, ◌++◌, map}
use Prim.Native.Nat.{ℕ, zero, suc, ◌+◌, ◌-◌, ◌≤◌, ◌<◌}
use native.Mathlib.Omega.{arith}
use native.Mathlib.Decide.{dec_lt}
use lib.ListN.{length, get_or}
use lib.Dec.{ltb, leb}
use borrow.Author.Tests.{lt-ltb, le-ltb, le-leb, lt-leb}
use Rattle.lists.proofs.Members.{map_at, map-append}
use Rattle.writing.specs.Nodes.{Node}
use Rattle.writing.specs.FormulaSyntax.{FormulaOver, true_formula, false_formula, and_formula, or_formula, box_formula}
use Rattle.writing.specs.FormulaSyntax.{diamond_formula, least_formula, greatest_formula, reference_formula}
use Rattle.writing.specs.FormulaSyntax.{formula_size, write_over, Fits}
use Rattle.writing.specs.FormulaReading.{itself}
use Rattle.regular_rules.specs.Expand.{below}
use Rattle.regular_rules.specs.Moving.{names_node, moved_operand, moved_node, carried}
use Rattle.regular_rules.proofs.Expanded.{below_size}
use Rattle.writing.proofs.FormulaNodes.{formula_some}

-- the nodes of a formula, the first of them being node v
abbrev pub nodes_of : FormulaOver ℕ → (around : List ℕ) → (v : ℕ) → List Node
nodes_of t around v = write_over itself t around v

-- the nodes of an operator with two operands, of which the first has s nodes
abbrev two_nodes : (k v s : ℕ) → List Node → List Node → List Node
two_nodes k v s left right = (k, suc v + s) ∷ (left ++ right)

-- ---- written at w, where node v + i goes to w + i, and the fixpoints around go where they go

module _ (place : ℕ → ℕ) (fit : ℕ → Type 0) where
  -- so many nodes from v on go to those from w on
  abbrev Goes : (n v w : ℕ) → Type 0
  Goes n v w = (i : ℕ) → i < n → place (v + i) ≡ w + i

  -- and of these the ones past the first s
  goes_past : (s n v w : ℕ) → Goes (s + n) v w → Goes n (v + s) (w + s)
  goes_past s n v w h i l =
      let a : v + s + i ≡ v + (s + i) = omega arith in
      let b : w + (s + i) ≡ w + s + i = omega arith in
      ap place a ∙ h (s + i) (omega arith) ∙ b

  goes_next : (n v w : ℕ) → Goes (suc n) v w → Goes n (suc v) (suc w)
  goes_next n v w h i l =
      let a : suc v + i ≡ v + suc i = omega arith in
      let b : w + suc i ≡ suc w + i = omega arith in
      ap place a ∙ h (suc i) (omega arith) ∙ b

  goes_first : (n v w : ℕ) → Goes (suc n) v w → place v ≡ w
  goes_first n v w h =
      let a : v ≡ v + 0 = omega arith in
      let b : w + 0 ≡ w = omega arith in
      ap place a ∙ h 0 (omega arith) ∙ b

  two_moved : (k : ℕ) → names_node k ≡ true → (t u : FormulaOver ℕ) (around : List ℕ) (v w : ℕ)
      → Goes (suc (formula_size t + formula_size u)) v w
      → nodes_of t (map place around) (suc w) ≡ map (moved_node place) (nodes_of t around (suc v))
      → nodes_of u (map place around) (suc w + formula_size t)
      ≡ map (moved_node place) (nodes_of u around (suc v + formula_size t))
      → two_nodes k w (formula_size t) (nodes_of t (map place around) (suc w)) (nodes_of u (map place around) (suc w + formula_size t))
      ≡ map (moved_node place) (two_nodes k v (formula_size t) (nodes_of t around (suc v)) (nodes_of u around (suc v + formula_size t)))
  unfolding moved_node moved_operand
  two_moved k n t u around v w h p q =
      let s = formula_some u in
      let o = goes_next (formula_size t + formula_size u) v w h (formula_size t) (omega arith) in
      let m : moved_operand place k (suc v + formula_size t) ≡ suc w + formula_size t =
      ap (λ (b : Bool). cond b (place (suc v + formula_size t)) (suc v + formula_size t)) n ∙ o in
      ap₂ (λ (x : ℕ) (ns : List Node). (k, x) ∷ ns) (sym m)
      (ap₂ ◌++◌ p q ∙ sym (map-append (moved_node place) (nodes_of t around (suc v)) (nodes_of u around (suc v + formula_size t))))

  pub write_moved : (t : FormulaOver ℕ) (around : List ℕ) (v w : ℕ) → Goes (formula_size t) v w → Fits fit (length around) t
      → nodes_of t (map place around) w ≡ map (moved_node place) (nodes_of t around v)
  unfolding write_over formula_size moved_node moved_operand names_node
  write_moved true_formula around v w h f = refl
  write_moved false_formula around v w h f = refl
  write_moved (and_formula t u) around v w h f =
      let g = goes_next (formula_size t + formula_size u) v w h in
      two_moved 2 refl t u around v w h
      (write_moved t around (suc v) (suc w) (λ i l. g i (omega arith)) f.0)
      (write_moved u around (suc v + formula_size t) (suc w + formula_size t) (goes_past (formula_size t) (formula_size u) (suc v) (suc w) g) f.1)
  write_moved (or_formula t u) around v w h f =
      let g = goes_next (formula_size t + formula_size u) v w h in
      two_moved 3 refl t u around v w h
      (write_moved t around (suc v) (suc w) (λ i l. g i (omega arith)) f.0)
      (write_moved u around (suc v + formula_size t) (suc w + formula_size t) (goes_past (formula_size t) (formula_size u) (suc v) (suc w) g) f.1)
  write_moved (box_formula m t) around v w h f =
      ap (λ (ns : List Node). (4, m) ∷ ns) (write_moved t around (suc v) (suc w) (goes_next (formula_size t) v w h) f.1)
  write_moved (diamond_formula m t) around v w h f =
      ap (λ (ns : List Node). (5, m) ∷ ns) (write_moved t around (suc v) (suc w) (goes_next (formula_size t) v w h) f.1)
  write_moved (least_formula t) around v w h f =
      ap (λ (x : ℕ). (6, 0) ∷ nodes_of t (x ∷ map place around) (suc w)) (sym (goes_first (formula_size t) v w h))
      ∙ ap (λ (ns : List Node). (6, 0) ∷ ns) (write_moved t (v ∷ around) (suc v) (suc w) (goes_next (formula_size t) v w h) f)
  write_moved (greatest_formula t) around v w h f =
      ap (λ (x : ℕ). (7, 0) ∷ nodes_of t (x ∷ map place around) (suc w)) (sym (goes_first (formula_size t) v w h))
      ∙ ap (λ (ns : List Node). (7, 0) ∷ ns) (write_moved t (v ∷ around) (suc v) (suc w) (goes_next (formula_size t) v w h) f)
  write_moved (reference_formula i) around v w h f = ap (λ (x : ℕ). (8, x) ∷ []) (map_at place around i 0 0 f)

-- ---- fixpoints further out than a formula refers to do not matter

left_at : (xs ys : List ℕ) (i : ℕ) → i < length xs → get_or (xs ++ ys) i 0 ≡ get_or xs i 0
left_at [] ys i h = absurd (omega arith)
left_at (x ∷ xs) ys zero h = refl
left_at (x ∷ xs) ys (suc i) h = left_at xs ys i (omega arith)

pub write_outer : (fit : ℕ → Type 0) (t : FormulaOver ℕ) (xs ys : List ℕ) (v : ℕ) → Fits fit (length xs) t
    → nodes_of t (xs ++ ys) v ≡ nodes_of t xs v
unfolding write_over
write_outer fit true_formula xs ys v f = refl
write_outer fit false_formula xs ys v f = refl
write_outer fit (and_formula t u) xs ys v f =
    ap₂ (λ ms ns. two_nodes 2 v (formula_size t) ms ns) (write_outer fit t xs ys (suc v) f.0) (write_outer fit u xs ys (suc v + formula_size t) f.1)
write_outer fit (or_formula t u) xs ys v f =
    ap₂ (λ ms ns. two_nodes 3 v (formula_size t) ms ns) (write_outer fit t xs ys (suc v) f.0) (write_outer fit u xs ys (suc v + formula_size t) f.1)
write_outer fit (box_formula m t) xs ys v f = ap (λ (ns : List Node). (4, m) ∷ ns) (write_outer fit t xs ys (suc v) f.1)
write_outer fit (diamond_formula m t) xs ys v f = ap (λ (ns : List Node). (5, m) ∷ ns) (write_outer fit t xs ys (suc v) f.1)
write_outer fit (least_formula t) xs ys v f = ap (λ (ns : List Node). (6, 0) ∷ ns) (write_outer fit t (v ∷ xs) ys (suc v) f)
write_outer fit (greatest_formula t) xs ys v f = ap (λ (ns : List Node). (7, 0) ∷ ns) (write_outer fit t (v ∷ xs) ys (suc v) f)
write_outer fit (reference_formula i) xs ys v f = ap (λ (x : ℕ). (8, x) ∷ []) (left_at xs ys i f)

-- ---- under one more fixpoint the same nodes are written

past_at : (xs : List ℕ) (y : ℕ) (ys : List ℕ) (i : ℕ) → length xs ≤ i → get_or (xs ++ (y ∷ ys)) (suc i) 0 ≡ get_or (xs ++ ys) i 0
past_at [] y ys i h = refl
past_at (x ∷ xs) y ys zero h = absurd (omega arith)
past_at (x ∷ xs) y ys (suc i) h = past_at xs y ys i (omega arith)

skip_at : (xs : List ℕ) (y : ℕ) (ys : List ℕ) (i : ℕ)
    → get_or (xs ++ (y ∷ ys)) (cond (ltb i (length xs)) i (suc i)) 0 ≡ get_or (xs ++ ys) i 0
skip_at xs y ys i = go (dec_lt i (length xs))
  where
    go : Dec (i < length xs) → get_or (xs ++ (y ∷ ys)) (cond (ltb i (length xs)) i (suc i)) 0 ≡ get_or (xs ++ ys) i 0
    go (yes h) = rw (lt-ltb i (length xs) h) (left_at xs (y ∷ ys) i h ∙ sym (left_at xs ys i h))
    go (no h) = rw (le-ltb i (length xs) (omega arith)) (past_at xs y ys i (omega arith))

-- under y, which stands past the formula's own fixpoints xs
abbrev under : FormulaOver ℕ → (xs : List ℕ) (y : ℕ) (ys : List ℕ) (v : ℕ) → List Node
under t xs y ys v = nodes_of (below t (length xs)) (xs ++ (y ∷ ys)) v

pub write_below : (t : FormulaOver ℕ) (xs : List ℕ) (y : ℕ) (ys : List ℕ) (v : ℕ) → under t xs y ys v ≡ nodes_of t (xs ++ ys) v
unfolding write_over below
write_below true_formula xs y ys v = refl
write_below false_formula xs y ys v = refl
write_below (and_formula t u) xs y ys v =
    ap (λ s. two_nodes 2 v s (under t xs y ys (suc v)) (under u xs y ys (suc v + s))) (below_size t (length xs))
    ∙ ap₂ (λ ms ns. two_nodes 2 v (formula_size t) ms ns) (write_below t xs y ys (suc v)) (write_below u xs y ys (suc v + formula_size t))
write_below (or_formula t u) xs y ys v =
    ap (λ s. two_nodes 3 v s (under t xs y ys (suc v)) (under u xs y ys (suc v + s))) (below_size t (length xs))
    ∙ ap₂ (λ ms ns. two_nodes 3 v (formula_size t) ms ns) (write_below t xs y ys (suc v)) (write_below u xs y ys (suc v + formula_size t))
write_below (box_formula m t) xs y ys v = ap (λ (ns : List Node). (4, m) ∷ ns) (write_below t xs y ys (suc v))
write_below (diamond_formula m t) xs y ys v = ap (λ (ns : List Node). (5, m) ∷ ns) (write_below t xs y ys (suc v))
write_below (least_formula t) xs y ys v = ap (λ (ns : List Node). (6, 0) ∷ ns) (write_below t (v ∷ xs) y ys (suc v))
write_below (greatest_formula t) xs y ys v = ap (λ (ns : List Node). (7, 0) ∷ ns) (write_below t (v ∷ xs) y ys (suc v))
write_below (reference_formula i) xs y ys v = ap (λ (x : ℕ). (8, x) ∷ []) (skip_at xs y ys i)

-- ---- numbers carried

module _ (low high target : ℕ) where
  pub carried_inside : (o : ℕ) → low ≤ o → o < high → carried low high target o ≡ o - low + target
  unfolding carried
  carried_inside o a b = rw (le-leb low o a, lt-ltb o high b) refl

  pub carried_below : (o : ℕ) → o < low → carried low high target o ≡ o
  unfolding carried
  carried_below o a = rw (lt-leb low o a) refl

  pub carried_above : (o : ℕ) → high ≤ o → carried low high target o ≡ o
  unfolding carried
  carried_above o a = go (leb low o)
    where
      go : (b : Bool) → cond (b && ltb o high) (o - low + target) o ≡ o
      go true = rw (le-ltb o high a) refl
      go false = refl
