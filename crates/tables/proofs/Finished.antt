-- Where a tree or a row of trees is finished, so is every tree inside: its children stand inside the table. Assumes
-- nothing.
use Prim.Native.Nat.{ℕ, zero, suc, ◌+◌, ◌-◌, ◌≤◌, ◌<◌}
use native.Mathlib.Omega.{arith}
use native.Mathlib.Decide.{dec_lt, ℕ_discrete}
use mathlib.Core.Path.{◌≡◌, refl, sym, ap, ◌∙◌}
use mathlib.Core.Bool.{true, false≢true}
use mathlib.Core.Option.{Option, none, some, none-ne-some, some-injective}
use borrow.Author.Tests.{lt-ltb, le-ltb, eqb-true}
use Rattle.rules.specs.Table.{end_of_trees, tree_end, is_end, comes_to, on_row}
use Rattle.tables.specs.Ends.{trees_after, tree_after}
use Rattle.tables.proofs.Ends.{trees_within, trees_sum, end_bounds, end_one, end_two}

module _ (c : ℕ → ℕ) (n : ℕ) where
  -- of a + b finished trees the first a are finished, and then the others
  pub trees_part : (l v a b e : ℕ) → l ≡ n - v → end_of_trees c l v (a + b) ≡ some e
      → (x : ℕ) × (end_of_trees c l v a ≡ some x) × (end_of_trees c (n - x) x b ≡ some e)
  unfolding trees_after
  trees_part l v a b e i h = go (end_of_trees c l v a) refl
    where
      go : (o : Option ℕ) → end_of_trees c l v a ≡ o → (x : ℕ) × (end_of_trees c l v a ≡ some x) × (end_of_trees c (n - x) x b ≡ some e)
      go none j = absurd (none-ne-some e (sym (ap (λ o. trees_after c n o b) j) ∙ sym (trees_sum c n l v a b i) ∙ h))
      go (some x) j = (x, j, sym (ap (λ o. trees_after c n o b) j) ∙ sym (trees_sum c n l v a b i) ∙ h)

  -- every node before the end of finished trees has a finished tree, which ends there at the latest
  pub trees_inside : (l u d e v : ℕ) → l ≡ n - u → end_of_trees c l u d ≡ some e → u ≤ v → v < e → (x : ℕ) × (tree_end c n v ≡ some x) × (x ≤ e)
  unfolding end_of_trees tree_end
  trees_inside zero u d e v i h a b = let (p, q) = trees_within c 0 u d e h in absurd (omega arith)
  trees_inside (suc l) u zero e v i h a b = let j = some-injective u e h in absurd (omega arith)
  trees_inside (suc l) u (suc d) e v i h a b = go (trees_inside l (suc u) (c u + d) e v (omega arith) h) (ℕ_discrete u v)
    where
      here : (x : ℕ) × (end_of_trees c (suc l) u 1 ≡ some x) × (end_of_trees c (n - x) x d ≡ some e)
      here = let s : suc d ≡ 1 + d = omega arith in trees_part (suc l) u 1 d e i (ap (end_of_trees c (suc l) u) (sym s) ∙ h)

      go : (suc u ≤ v → v < e → (x : ℕ) × (tree_end c n v ≡ some x) × (x ≤ e)) → Dec (u ≡ v) → (x : ℕ) × (tree_end c n v ≡ some x) × (x ≤ e)
      go later (yes j) =
          let (x, p, q) = here in
          let (y, z) = trees_within c (n - x) x d e q in
          (x, ap (λ w. tree_end c n w) (sym j) ∙ ap (λ k. end_of_trees c k u 1) (sym i) ∙ p, omega arith)
      go later (no j) = later (omega arith) b

  pub tree_inside : (u e v : ℕ) → tree_end c n u ≡ some e → u ≤ v → v < e → (x : ℕ) × (tree_end c n v ≡ some x) × (x ≤ e)
  unfolding tree_end
  tree_inside u e v h a b = trees_inside (n - u) u 1 e v refl h a b

  -- every node of a row that comes to t has a finished tree, which ends there at the latest
  comes_inside : (k u t v : ℕ) → comes_to c n k (some u) t ≡ true → u ≤ v → v < t → (x : ℕ) × (tree_end c n v ≡ some x) × (x ≤ t)
  unfolding comes_to is_end
  comes_inside zero u t v h a b = let i = eqb-true t u h in absurd (omega arith)
  comes_inside (suc k) u t v h a b = go (comes_inside k) (tree_end c n u) refl
    where
      first : comes_to c n k (tree_end c n u) t ≡ true
      first = sym (rw (lt-ltb u t (omega arith))) ∙ h

      unfinished : (j : ℕ) → comes_to c n j none t ≡ true → ⊥
      unfinished zero i = false≢true i
      unfinished (suc j) i = false≢true i

      go : ((w s y : ℕ) → comes_to c n k (some w) s ≡ true → w ≤ y → y < s → (x : ℕ) × (tree_end c n y ≡ some x) × (x ≤ s))
          → (o : Option ℕ) → tree_end c n u ≡ o → (x : ℕ) × (tree_end c n v ≡ some x) × (x ≤ t)
      go later none j = absurd (unfinished k (ap (λ o. comes_to c n k o t) (sym j) ∙ first))
      go later (some e) j = at (dec_lt v e)
        where
          rest : comes_to c n k (some e) t ≡ true
          rest = ap (λ o. comes_to c n k o t) (sym j) ∙ first

          ends : (m y : ℕ) → comes_to c n m (some y) t ≡ true → y ≤ t
          ends zero y i = let q = eqb-true t y i in omega arith
          ends (suc m) y i = side (dec_lt y t)
            where
              side : Dec (y < t) → y ≤ t
              side (yes q) = omega arith
              side (no q) = let r = eqb-true y t (sym (rw (le-ltb y t (omega arith))) ∙ i) in omega arith

          at : Dec (v < e) → (x : ℕ) × (tree_end c n v ≡ some x) × (x ≤ t)
          at (yes l) =
              let (x, p, q) = tree_inside u e v j a l in
              let r = ends k e rest in
              (x, p, omega arith)
          at (no l) = later e t v rest (omega arith) b

  pub row_inside : (t v : ℕ) → on_row c n t ≡ true → v < t → (x : ℕ) × (tree_end c n v ≡ some x) × (x ≤ t)
  unfolding on_row
  row_inside t v h b = comes_inside t 0 t v h (omega arith) b

  -- ---- the children of a node whose tree is finished

  pub only_child : (v e : ℕ) → tree_end c n v ≡ some e → c v ≡ 1 → suc v < n
  only_child v e h k =
      let (a, b, d) = end_bounds c n v e h in
      let (p, q, r) = end_bounds c n (suc v) e (sym (end_one c n v a k) ∙ h) in
      p

  -- the first child's tree ends where the second child stands
  pub two_children : (v e : ℕ) → tree_end c n v ≡ some e → c v ≡ 2
      → (x : ℕ) × (tree_end c n (suc v) ≡ some x) × (tree_end c n x ≡ some e) × (suc v < x) × (x < n)
  unfolding tree_after
  two_children v e h k = go (tree_end c n (suc v)) refl
    where
      both : tree_after c n (tree_end c n (suc v)) ≡ some e
      both = let (a, b, d) = end_bounds c n v e h in sym (end_two c n v a k) ∙ h

      go : (o : Option ℕ) → tree_end c n (suc v) ≡ o → (x : ℕ) × (tree_end c n (suc v) ≡ some x) × (tree_end c n x ≡ some e) × (suc v < x) × (x < n)
      go none j = absurd (none-ne-some e (ap (tree_after c n) (sym j) ∙ both))
      go (some x) j =
          let second : tree_end c n x ≡ some e = ap (tree_after c n) (sym j) ∙ both in
          let (a, b, d) = end_bounds c n (suc v) x j in
          let (p, q, r) = end_bounds c n x e second in
          (x, j, second, b, p)
