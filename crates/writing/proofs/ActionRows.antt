-- A row of action formulas in the words: the first nodes of its trees, and all of its nodes. Assumes nothing.
use mathlib.Core.Path.{◌≡◌, refl, sym, ap, ap₂, ◌∙◌, subst}
use mathlib.Core.Bool.{true}
use mathlib.Core.List.{List, [], ◌∷◌}
use Prim.Native.Nat.{ℕ, zero, suc, ◌+◌, ◌≤◌, ◌<◌}
use native.Mathlib.Decide.{dec_lt, ℕ_discrete}
use native.Mathlib.Omega.{arith}
use lib.ListN.{length, get_or, length-append}
use borrow.Author.Tests.{eq-eqb, eqb-true}
use Rattle.rules.specs.Labels.{label_count}
use Rattle.rules.specs.Table.{size, action_children}
use Rattle.tables.specs.Ends.{on_row_from}
use Rattle.tables.proofs.Ends.{end_number_some, row_done, row_step}
use Rattle.writing.specs.ActionSyntax.{ActionSyntax, true_action, action_size, write_action, row_size, write_row, first_node, RowLabelsBelow}
use Rattle.writing.specs.Nodes.{Holds}
use Rattle.writing.proofs.Nodes.{holds_split}
use Rattle.writing.proofs.ActionNodes.{action_length, action_some, action_ends, Fine, action_fine}

pub row_length : (row : List ActionSyntax) (v : ℕ) → length (write_row row v) ≡ row_size row
unfolding write_row row_size
row_length [] v = refl
row_length (t ∷ ts) v = length-append (write_action t v) (write_row ts (v + action_size t)) ∙ ap₂ ◌+◌ (action_length t v) (row_length ts (v + action_size t))

-- tree i stands inside
pub first_inside : (row : List ActionSyntax) (i : ℕ) → i < length row → first_node row i + action_size (get_or row i true_action) ≤ row_size row
unfolding first_node row_size
first_inside [] i h = absurd (omega arith)
first_inside (t ∷ ts) zero h = omega arith
first_inside (t ∷ ts) (suc i) h = omega (arith, first_inside ts i (omega arith))

pub first_below : (row : List ActionSyntax) (i : ℕ) → i < length row → first_node row i < row_size row
first_below row i h =
    let a = first_inside row i h in
    let b = action_some (get_or row i true_action) in
    omega arith

module _ (acts : List ℕ) where
  -- the first tree, then the rest of the row
  row_parts : (t : ActionSyntax) (ts : List ActionSyntax) (v : ℕ) → Holds (write_row (t ∷ ts) v) acts v
      → Holds (write_action t v) acts v × Holds (write_row ts (v + action_size t)) acts (v + action_size t)
  unfolding write_row
  row_parts t ts v h = holds_split (write_action t v) (write_row ts (v + action_size t)) acts v (action_size t) (action_length t v) h

  pub row_tree : (row : List ActionSyntax) (i v : ℕ) → Holds (write_row row v) acts v → i < length row
      → Holds (write_action (get_or row i true_action) (v + first_node row i)) acts (v + first_node row i)
  unfolding first_node
  row_tree [] i v h l = absurd (omega arith)
  row_tree (t ∷ ts) zero v h l =
      let e : v ≡ v + 0 = omega arith in
      subst (λ (u : ℕ). Holds (write_action t u) acts u) e (row_parts t ts v h).0
  row_tree (t ∷ ts) (suc i) v h l =
      let e : v + action_size t + first_node ts i ≡ v + (action_size t + first_node ts i) = omega arith in
      subst (λ (u : ℕ). Holds (write_action (get_or ts i true_action) u) acts u) e (row_tree ts i (v + action_size t) (row_parts t ts v h).1 (omega arith))

  pub row_fine : (ls : List ℕ) (row : List ActionSyntax) (v : ℕ) → Holds (write_row row v) acts v → v + row_size row ≤ size acts → RowLabelsBelow (label_count ls) row
      → (u : ℕ) → v ≤ u → u < v + row_size row → Fine acts ls u
  unfolding row_size
  row_fine ls [] v h l below u a b = absurd (omega arith)
  row_fine ls (t ∷ ts) v h l below u a b = go (row_fine ls ts (v + action_size t) (row_parts t ts v h).1 (omega arith) below.1 u) (dec_lt u (v + action_size t))
    where
      go : (v + action_size t ≤ u → u < v + action_size t + row_size ts → Fine acts ls u) → Dec (u < v + action_size t) → Fine acts ls u
      go later (yes i) = action_fine acts ls t v (row_parts t ts v h).0 (omega arith) below.0 u a i
      go later (no i) = later (omega arith) (omega arith)

  -- ---- going from tree to tree

  -- past the first tree
  row-past : (t : ActionSyntax) (v u : ℕ) → Holds (write_action t v) acts v → v + action_size t ≤ size acts → v < u → u ≤ size acts
      → on_row_from (action_children acts) (size acts) v u ≡ on_row_from (action_children acts) (size acts) (v + action_size t) u
  row-past t v u h l a b =
      row_step (action_children acts) (size acts) v u a b
      ∙ ap (λ (e : ℕ). on_row_from (action_children acts) (size acts) e u)
      (end_number_some (action_children acts) (size acts) v (v + action_size t) (action_ends acts t v h l))

  row_here : (v : ℕ) → on_row_from (action_children acts) (size acts) v v ≡ true
  row_here v = row_done (action_children acts) (size acts) v v (omega arith) ∙ eq-eqb v v refl

  -- one comes to the end of the row, to the first node of each tree, and to no other node
  pub row-end : (row : List ActionSyntax) (v : ℕ) → Holds (write_row row v) acts v → v + row_size row ≡ size acts
      → on_row_from (action_children acts) (size acts) v (size acts) ≡ true
  unfolding row_size
  row-end [] v h l = let e : size acts ≡ v = omega arith in ap (on_row_from (action_children acts) (size acts) v) e ∙ row_here v
  row-end (t ∷ ts) v h l =
      let s = action_some t in
      row-past t v (size acts) (row_parts t ts v h).0 (omega arith) (omega arith) (omega arith)
      ∙ row-end ts (v + action_size t) (row_parts t ts v h).1 (omega arith)

  pub row_first : (row : List ActionSyntax) (i v : ℕ) → Holds (write_row row v) acts v → v + row_size row ≡ size acts → i < length row
      → on_row_from (action_children acts) (size acts) v (v + first_node row i) ≡ true
  unfolding row_size first_node
  row_first [] i v h l j = absurd (omega arith)
  row_first (t ∷ ts) zero v h l j = let e : v + 0 ≡ v = omega arith in ap (on_row_from (action_children acts) (size acts) v) e ∙ row_here v
  row_first (t ∷ ts) (suc i) v h l j =
      let s = action_some t in
      let f = first_below ts i (omega arith) in
      let e : v + (action_size t + first_node ts i) ≡ v + action_size t + first_node ts i = omega arith in
      row-past t v (v + (action_size t + first_node ts i)) (row_parts t ts v h).0 (omega arith) (omega arith) (omega arith)
      ∙ ap (on_row_from (action_children acts) (size acts) (v + action_size t)) e
      ∙ row_first ts i (v + action_size t) (row_parts t ts v h).1 (omega arith) (omega arith)

  pub row_only : (row : List ActionSyntax) (v u : ℕ) → Holds (write_row row v) acts v → v + row_size row ≡ size acts → v ≤ u → u < size acts
      → on_row_from (action_children acts) (size acts) v u ≡ true → (i : ℕ) × (i < length row) × (u ≡ v + first_node row i)
  unfolding row_size first_node
  row_only [] v u h l a b on = absurd (omega arith)
  row_only (t ∷ ts) v u h l a b on = go (row_only ts (v + action_size t) u (row_parts t ts v h).1 (omega arith)) (ℕ_discrete v u) (dec_lt u (v + action_size t))
    where
      rest : v < u → on_row_from (action_children acts) (size acts) (v + action_size t) u ≡ true
      rest k = sym (row-past t v u (row_parts t ts v h).0 (omega arith) k (omega arith)) ∙ on

      go : (v + action_size t ≤ u → u < size acts → on_row_from (action_children acts) (size acts) (v + action_size t) u ≡ true
          → (i : ℕ) × (i < length ts) × (u ≡ v + action_size t + first_node ts i))
          → Dec (v ≡ u) → Dec (u < v + action_size t) → (i : ℕ) × (i < length (t ∷ ts)) × (u ≡ v + first_node (t ∷ ts) i)
      go later (yes e) d = (0, omega arith, omega arith)
      go later (no e) (yes d) =
          let z = eqb-true (v + action_size t) u (sym (row_done (action_children acts) (size acts) (v + action_size t) u (omega arith)) ∙ rest (omega arith)) in
          absurd (omega arith)
      go later (no e) (no d) =
          let (i, j, k) = later (omega arith) b (rest (omega arith)) in
          (suc i, omega arith, omega arith)
