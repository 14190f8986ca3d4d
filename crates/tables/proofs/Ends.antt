-- Where trees in prefix order end: the end of a node's tree from its children's, its bounds, and the row of trees.
-- Assumes nothing.
use Prim.Native.Nat.{ℕ, zero, suc, ◌+◌, ◌-◌, ◌≤◌, ◌<◌}
use native.Mathlib.Nat.{zero-add, suc-add, add_assoc, add-zero}
use native.Mathlib.Omega.{arith}
use native.Mathlib.Numerals.{add-one}
use native.Mathlib.Decide.{dec_lt, ℕ_discrete}
use mathlib.Core.Path.{◌≡◌, refl, sym, ap, ◌∙◌}
use mathlib.Core.Bool.{false, not}
use mathlib.Core.List.{List}
use mathlib.Core.Option.{Option, none, some, none-ne-some, some-injective}
use lib.ListN.{length, get_or, set}
use lib.Seq.{get_or-set_same, get_or-set_other}
use lib.Dec.{eqb, ltb}
use borrow.Author.Tests.{lt-ltb, le-ltb, eq-eqb, ne_eqb}
use Rattle.rules.specs.Table.{end_of_trees, tree_end, past_trees, TreeEndEquation, is_end, is_not_end, is_before_end, comes_to}
use Rattle.rules.specs.Table.{on_row}
use Rattle.tables.specs.Ends.{end_number, end_of, trees_after, tree_after, on_row_from}

turn : (a b : ℕ) → eqb a b ≡ eqb b a
turn a b = go (ℕ_discrete a b)
  where
    go : Dec (a ≡ b) → eqb a b ≡ eqb b a
    go (yes e) = eq-eqb a b e ∙ sym (eq-eqb b a (sym e))
    go (no d) = ne_eqb a b d ∙ sym (ne_eqb b a (λ e. d (sym e)))

-- an array that is filled from right to left, up to `top`, with the values of f
pub set_down : (f : ℕ → ℕ) (es : List ℕ) (i top x : ℕ) → i < length es → x ≡ f i
    → ((j : ℕ) → i + 1 ≤ j → j ≤ top → get_or es j 0 ≡ f j)
    → (j : ℕ) → i ≤ j → j ≤ top → get_or (set es i x) j 0 ≡ f j
set_down f es i top x room e known j h l = go (ℕ_discrete j i)
  where
    go : Dec (j ≡ i) → get_or (set es i x) j 0 ≡ f j
    go (yes q) = rw q (get_or-set_same es i x 0 room ∙ e)
    go (no q) = get_or-set_other es i j x 0 q ∙ known j (omega arith) l

module _ (c : ℕ → ℕ) where
  -- ---- trees in a row

  pub no-trees : (l v : ℕ) → end_of_trees c l v 0 ≡ some v
  unfolding end_of_trees
  no-trees zero v = refl
  no-trees (suc l) v = refl

  pub no_room_lem : (v d : ℕ) → 0 < d → end_of_trees c 0 v d ≡ none
  unfolding end_of_trees
  no_room_lem v zero h = absurd (omega arith)
  no_room_lem v (suc d) h = refl

  -- as many trees end at least so far on, and inside what is left
  pub trees_within : (l v d e : ℕ) → end_of_trees c l v d ≡ some e → (v + d ≤ e) × (e ≤ v + l)
  unfolding end_of_trees
  trees_within zero v zero e h = let i = some-injective v e h in (omega arith, omega arith)
  trees_within zero v (suc d) e h = absurd (none-ne-some e h)
  trees_within (suc l) v zero e h = let i = some-injective v e h in (omega arith, omega arith)
  trees_within (suc l) v (suc d) e h =
      let (a, b) = trees_within l (suc v) (c v + d) e h in
      (omega arith, omega arith)

  module _ (n : ℕ) where
    -- a + b trees: the first a, then b more
    pub trees_sum : (l v a b : ℕ) → l ≡ n - v → end_of_trees c l v (a + b) ≡ trees_after c n (end_of_trees c l v a) b
    unfolding end_of_trees trees_after
    trees_sum zero v zero b e = rw (zero-add, ← e)
    trees_sum (suc l) v zero b e = rw (zero-add, ← e)
    trees_sum zero v (suc a) b e = rw suc-add
    trees_sum (suc l) v (suc a) b e = rw (suc-add, ← add_assoc) (trees_sum l (suc v) (c v + a) b (omega arith))

    -- ---- the tree of a node

    first-node : (v d : ℕ) → v < n → end_of_trees c (n - v) v (suc d) ≡ end_of_trees c (n - suc v) (suc v) (c v + d)
    unfolding end_of_trees
    first-node v d h =
        let s : n - v ≡ suc (n - suc v) = omega arith in
        rw s

    tree_step : (v d : ℕ) → v < n → c v ≡ d → tree_end c n v ≡ end_of_trees c (n - suc v) (suc v) d
    unfolding tree_end
    tree_step v d h e = first-node v 0 h ∙ ap (end_of_trees c (n - suc v) (suc v)) (add-zero (c v) ∙ e)

    pub end_leaf : (v : ℕ) → v < n → c v ≡ 0 → tree_end c n v ≡ some (suc v)
    end_leaf v h e = tree_step v 0 h e ∙ no-trees (n - suc v) (suc v)

    pub end_one : (v : ℕ) → v < n → c v ≡ 1 → tree_end c n v ≡ tree_end c n (suc v)
    unfolding tree_end
    end_one v h e = tree_step v 1 h e

    after_one : (o : Option ℕ) → trees_after c n o 1 ≡ tree_after c n o
    unfolding trees_after tree_after tree_end
    after_one none = refl
    after_one (some u) = refl

    pub end_two : (v : ℕ) → v < n → c v ≡ 2 → tree_end c n v ≡ tree_after c n (tree_end c n (suc v))
    unfolding tree_end
    end_two v h e = tree_step v (1 + 1) h e ∙ trees_sum (n - suc v) (suc v) 1 1 refl ∙ after_one (end_of_trees c (n - suc v) (suc v) 1)

    pub end_out : (v : ℕ) → n ≤ v → tree_end c n v ≡ none
    unfolding tree_end
    end_out v h =
        let z : n - v ≡ 0 = omega arith in
        rw z (no_room_lem v 1 (omega arith))

    past_none : (k : ℕ) → past_trees (tree_end c n) k none ≡ none
    unfolding past_trees
    past_none zero = refl
    past_none (suc k) = refl

    trees_past : (k v : ℕ) → end_of_trees c (n - v) v k ≡ past_trees (tree_end c n) k (some v)
    unfolding past_trees trees_after tree_end
    trees_past zero v = no-trees (n - v) v
    trees_past (suc k) v =
        let s : suc k ≡ 1 + k = omega arith in
        ap (end_of_trees c (n - v) v) s ∙ trees_sum (n - v) v 1 k refl ∙ go (trees_past k) (tree_end c n v)
      where
        go : ((u : ℕ) → end_of_trees c (n - u) u k ≡ past_trees (tree_end c n) k (some u)) → (o : Option ℕ)
            → trees_after c n o k ≡ past_trees (tree_end c n) k o
        go later none = sym (past_none k)
        go later (some u) = later u

    -- the end of a tree from the ends of its children's trees
    pub tree-end : (v : ℕ) → TreeEndEquation c n v
    tree-end v = go (dec_lt v n)
      where
        go : Dec (v < n) → TreeEndEquation c n v
        go (yes h) = rw (lt-ltb v n h) (tree_step v (c v) h refl ∙ trees_past (c v) (suc v))
        go (no h) = rw (le-ltb v n (omega arith)) (end_out v (omega arith))

    -- it ends past the node, and inside the table
    pub end_bounds : (v e : ℕ) → tree_end c n v ≡ some e → (v < n) × (v < e) × (e ≤ n)
    unfolding tree_end
    end_bounds v e h =
        let (a, b) = trees_within (n - v) v 1 e h in
        (omega arith, omega arith, omega arith)

    -- ---- ends as numbers

    pub end_number_some : (v e : ℕ) → tree_end c n v ≡ some e → end_of c n v ≡ e
    unfolding end_of end_number
    end_number_some v e h = rw h

    pub end_number_none : (v : ℕ) → tree_end c n v ≡ none → end_of c n v ≡ n + 1
    unfolding end_of end_number
    end_number_none v h = rw h

    -- the one way to take it apart: the tree has an end, or is unfinished
    pub end_cases : (v : ℕ) (P : Option ℕ → ℕ → Type 0)
        → ((e : ℕ) → tree_end c n v ≡ some e → v < n → v < e → e ≤ n → P (some e) e)
        → (tree_end c n v ≡ none → P none (n + 1))
        → P (tree_end c n v) (end_of c n v)
    unfolding end_of end_number
    end_cases v P ended unfinished = go (tree_end c n v) refl
      where
        go : (o : Option ℕ) → tree_end c n v ≡ o → P o (end_number n o)
        go none h = unfinished h
        go (some e) h = let (a, b, d) = end_bounds v e h in ended e h a b d

    pub end_number_leaf : (v : ℕ) → v < n → c v ≡ 0 → end_of c n v ≡ v + 1
    end_number_leaf v h e = end_number_some v (suc v) (end_leaf v h e) ∙ sym (add-one v)

    pub end_number_one : (v : ℕ) → v < n → c v ≡ 1 → end_of c n v ≡ end_of c n (v + 1)
    unfolding end_of
    end_number_one v h e = rw add-one (ap (end_number n) (end_one v h e))

    pub end_number_out : (v : ℕ) → n ≤ v → end_of c n v ≡ n + 1
    end_number_out v h = end_number_none v (end_out v h)

    -- n + 1 is its own end, so an unfinished first child needs no case of its own
    pub end_number_absorbs : end_of c n (n + 1) ≡ n + 1
    end_number_absorbs = end_number_out (n + 1) (omega arith)

    after-number : (v : ℕ) → end_number n (tree_after c n (tree_end c n v)) ≡ end_of c n (end_of c n v)
    unfolding tree_after end_number end_of tree_end
    after-number v = end_cases v (λ o e. end_number n (tree_after c n o) ≡ end_of c n e) (λ e h a b d. refl) (λ h. sym end_number_absorbs)

    pub end_number_two : (v : ℕ) → v < n → c v ≡ 2 → end_of c n v ≡ end_of c n (end_of c n (v + 1))
    unfolding end_of
    end_number_two v h e = rw add-one (ap (end_number n) (end_two v h e) ∙ after-number (suc v))

    pub end_number_most : (v : ℕ) → end_of c n v ≤ n + 1
    end_number_most v = end_cases v (λ o e. e ≤ n + 1) (λ e h a b d. omega arith) (λ h. omega arith)

    pub end_number_past : (v : ℕ) → v ≤ n → v < end_of c n v
    end_number_past v i = end_cases v (λ o e. v < e) (λ e h a b d. b) (λ h. omega arith)

    -- tests against an end: a tree that is unfinished has none
    pub not_end_finished : (r v : ℕ) → end_of c n v ≤ n → is_not_end r (tree_end c n v) ≡ not (eqb r (end_of c n v))
    unfolding is_not_end
    not_end_finished r v = end_cases v (λ o e. e ≤ n → is_not_end r o ≡ not (eqb r e)) (λ e h a b d i. refl) (λ h i. absurd (omega arith))

    pub not_end_unfinished : (r v : ℕ) → n < end_of c n v → is_not_end r (tree_end c n v) ≡ false
    unfolding is_not_end
    not_end_unfinished r v = end_cases v (λ o e. n < e → is_not_end r o ≡ false) (λ e h a b d i. absurd (omega arith)) (λ h i. refl)

    pub before_end_finished : (w v : ℕ) → end_of c n v ≤ n → is_before_end w (tree_end c n v) ≡ ltb w (end_of c n v)
    unfolding is_before_end
    before_end_finished w v = end_cases v (λ o e. e ≤ n → is_before_end w o ≡ ltb w e) (λ e h a b d i. refl) (λ h i. absurd (omega arith))

    pub before_end_unfinished : (w v : ℕ) → n < end_of c n v → is_before_end w (tree_end c n v) ≡ false
    unfolding is_before_end
    before_end_unfinished w v = end_cases v (λ o e. n < e → is_before_end w o ≡ false) (λ e h a b d i. absurd (omega arith)) (λ h i. refl)

    -- ---- the row: going from tree to tree

    pub comes_unfinished : (k v : ℕ) → comes_to c n k none v ≡ false
    unfolding comes_to is_end
    comes_unfinished zero v = refl
    comes_unfinished (suc k) v = refl

    -- enough trees are enough
    pub comes_two : (k j u v : ℕ) → v ≤ u + k → v ≤ u + j → comes_to c n k (some u) v ≡ comes_to c n j (some u) v
    unfolding comes_to is_end
    comes_two zero zero u v a b = refl
    comes_two zero (suc j) u v a b = rw (le-ltb u v (omega arith)) (turn v u)
    comes_two (suc k) zero u v a b = rw (le-ltb u v (omega arith)) (turn u v)
    comes_two (suc k) (suc j) u v a b = go (comes_two k j) (dec_lt u v)
      where
        go : ((w x : ℕ) → x ≤ w + k → x ≤ w + j → comes_to c n k (some w) x ≡ comes_to c n j (some w) x) → Dec (u < v)
            → comes_to c n (suc k) (some u) v ≡ comes_to c n (suc j) (some u) v
        go rest (no q) = rw (le-ltb u v (omega arith))
        go rest (yes q) =
            rw (lt-ltb u v q)
            (end_cases u (λ o e. comes_to c n k o v ≡ comes_to c n j o v) (λ e h x y z. rest e v (omega arith) (omega arith)) (λ h. comes_unfinished k v ∙ sym (comes_unfinished j v)))

    pub row-start : (v : ℕ) → on_row c n v ≡ on_row_from c n 0 v
    unfolding on_row on_row_from
    row-start v = let e : v ≡ v - 0 = omega arith in ap (λ k. comes_to c n k (some 0) v) e

    pub row_done : (u v : ℕ) → v ≤ u → on_row_from c n u v ≡ eqb u v
    unfolding on_row_from comes_to is_end
    row_done u v h =
        let z : v - u ≡ 0 = omega arith in
        rw z (turn v u)

    pub row_step : (u v : ℕ) → u < v → v ≤ n → on_row_from c n u v ≡ on_row_from c n (end_of c n u) v
    unfolding on_row_from comes_to
    row_step u v h l =
        let s : v - u ≡ suc (v - suc u) = omega arith in
        rw (s, lt-ltb u v h)
        (end_cases u (λ o e. comes_to c n (v - suc u) o v ≡ on_row_from c n e v)
        (λ e i x y z. comes_two (v - suc u) (v - e) e v (omega arith) (omega arith))
        (λ i. comes_unfinished (v - suc u) v ∙ sym (row_done (n + 1) v (omega arith) ∙ ne_eqb (n + 1) v (λ q. omega arith))))
