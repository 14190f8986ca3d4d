-- The first nodes of a row's trees are 0 and the end of each tree that begins at one; a row is unfinished exactly if
-- one of its trees is. Assumes nothing.
use Prim.Native.Nat.{ℕ, zero, suc, ◌+◌, ◌-◌, ◌≤◌, ◌<◌}
use native.Mathlib.Omega.{arith}
use native.Mathlib.Decide.{dec_lt}
use mathlib.Core.Path.{◌≡◌, refl, sym, subst, ◌∙◌}
use mathlib.Core.Bool.{Bool, true, false, true≢false, false≢true}
use mathlib.Core.Option.{Option, none, some, none-ne-some}
use borrow.Author.Tests.{lt-ltb, le-ltb, eqb-true, eq-eqb}
use Rattle.rules.specs.Table.{tree_end, is_end, comes_to, on_row}
use Rattle.tables.specs.Ends.{on_row_from}
use Rattle.rules.specs.Rows.{Root, first_root, next_root, RootsOnRow}
use Rattle.tables.proofs.Ends.{end_bounds, comes_unfinished, comes_two, row-start, row_done}
use Rattle.tables.proofs.Finished.{row_inside}

module _ (c : ℕ → ℕ) (n : ℕ) where
  -- one comes to roots only
  comes_root : (k u v : ℕ) → comes_to c n k (some u) v ≡ true → Root c n u → Root c n v
  unfolding comes_to is_end
  comes_root zero u v h a = subst (Root c n) (sym (eqb-true v u h)) a
  comes_root (suc k) u v h a = go (comes_root k) (dec_lt u v)
    where
      on : ((w y : ℕ) → comes_to c n k (some w) y ≡ true → Root c n w → Root c n y) → (o : Option ℕ) → tree_end c n u ≡ o → comes_to c n k o v ≡ true → Root c n v
      on later none i j = absurd (false≢true (sym (comes_unfinished c n k v) ∙ j))
      on later (some e) i j = later e v j (next_root u e a i)

      go : ((w y : ℕ) → comes_to c n k (some w) y ≡ true → Root c n w → Root c n y) → Dec (u < v) → Root c n v
      go later (yes l) = on later (tree_end c n u) refl (sym (rw (lt-ltb u v l)) ∙ h)
      go later (no l) = subst (Root c n) (eqb-true u v (sym (rw (le-ltb u v (omega arith))) ∙ h)) a

  -- and to every one
  from_root : (u e v : ℕ) → tree_end c n u ≡ some e → e ≤ v → u < e → on_row_from c n u v ≡ on_row_from c n e v
  unfolding on_row_from comes_to
  from_root u e v j l m =
      let s : v - u ≡ suc (v - suc u) = omega arith in
      rw (s, lt-ltb u v (omega arith), j) (comes_two c n (v - suc u) (v - e) e v (omega arith) (omega arith))

  root_comes : (v : ℕ) {u : ℕ} → Root c n u → u ≤ v → on_row c n v ≡ on_row_from c n u v
  root_comes v first_root h = row-start c n v
  root_comes v (next_root u e a i) h =
      let (x, y, z) = end_bounds c n u e i in
      root_comes v a (omega arith) ∙ from_root u e v i h y

  pub root_row : (v : ℕ) → RootsOnRow c n v
  unfolding on_row
  root_row v = (λ h. comes_root v 0 v h first_root, λ a. root_comes v a (omega arith) ∙ row_done c n v v (omega arith) ∙ eq-eqb v v refl)

  -- a row that does not come to its end stops at an unfinished tree
  comes_stops : (k u : ℕ) → comes_to c n k (some u) n ≡ false → u ≤ n → n ≤ u + k → (v : ℕ) × (v < n) × (tree_end c n v ≡ none)
  unfolding comes_to is_end
  comes_stops zero u h a b = absurd (true≢false (sym (eq-eqb n u (omega arith)) ∙ h))
  comes_stops (suc k) u h a b = go (comes_stops k) (dec_lt u n)
    where
      on : u < n → ((w : ℕ) → comes_to c n k (some w) n ≡ false → w ≤ n → n ≤ w + k → (v : ℕ) × (v < n) × (tree_end c n v ≡ none))
          → (o : Option ℕ) → tree_end c n u ≡ o → comes_to c n k o n ≡ false → (v : ℕ) × (v < n) × (tree_end c n v ≡ none)
      on l later none i j = (u, l, i)
      on l later (some e) i j =
          let (x, y, z) = end_bounds c n u e i in
          later e j z (omega arith)

      go : ((w : ℕ) → comes_to c n k (some w) n ≡ false → w ≤ n → n ≤ w + k → (v : ℕ) × (v < n) × (tree_end c n v ≡ none))
          → Dec (u < n) → (v : ℕ) × (v < n) × (tree_end c n v ≡ none)
      go later (yes l) = on l later (tree_end c n u) refl (sym (rw (lt-ltb u n l)) ∙ h)
      go later (no l) = absurd (true≢false (sym (eq-eqb u n (omega arith)) ∙ sym (rw (le-ltb u n (omega arith))) ∙ h))

  pub row_stops : on_row c n n ≡ false → (v : ℕ) × (v < n) × (tree_end c n v ≡ none)
  unfolding on_row
  row_stops h = comes_stops n 0 h (omega arith) (omega arith)

  pub row_unfinished : (v : ℕ) → v < n → tree_end c n v ≡ none → on_row c n n ≡ false
  row_unfinished v l h = go (on_row c n n) refl
    where
      go : (b : Bool) → on_row c n n ≡ b → b ≡ false
      go true i = let (x, j, k) = row_inside c n n v i l in absurd (none-ne-some x (sym h ∙ j))
      go false i = refl
