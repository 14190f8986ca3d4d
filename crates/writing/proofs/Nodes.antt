-- A table's words hold its nodes, and words that hold the nodes of a whole table are its words. Assumes nothing.
use mathlib.Core.Path.{◌≡◌, refl, sym, ap, ◌∙◌, subst}
use mathlib.Core.List.{List, [], ◌∷◌, ◌++◌, map}
use Prim.Native.Nat.{ℕ, zero, suc, ◌+◌, ◌*◌, ◌-◌, ◌≤◌, ◌<◌}
use native.Mathlib.Omega.{arith}
use native.Mathlib.Decide.{dec_lt, ℕ_discrete}
use lib.ListN.{length, get_or, length-append, length-map, get_or-append, get_or-map}
use lib.Seq.{get_or-append-add, ext_get_or}
use Rattle.rules.specs.Lists.{word}
use Rattle.rules.specs.Table.{size, kind, operand}
use Rattle.writing.specs.Nodes.{Node, table_words, Holds}

pub holds_split : (xs ys : List Node) (ws : List ℕ) (v n : ℕ) → length xs ≡ n → Holds (xs ++ ys) ws v → Holds xs ws v × Holds ys ws (v + n)
holds_split [] ys ws v n e h = let i : v ≡ v + n = omega arith in (tt, subst (Holds ys ws) i h)
holds_split (x ∷ xs) ys ws v n e (k, o, h) =
    let (p, q) = holds_split xs ys ws (suc v) (length xs) refl h in
    let i : suc v + length xs ≡ v + n = omega arith in
    ((k, o, p), subst (Holds ys ws) i q)

pub holds_join : (xs ys : List Node) (ws : List ℕ) (v n : ℕ) → length xs ≡ n → Holds xs ws v → Holds ys ws (v + n) → Holds (xs ++ ys) ws v
holds_join [] ys ws v n e p q = let i : v + n ≡ v = omega arith in subst (Holds ys ws) i q
holds_join (x ∷ xs) ys ws v n e (k, o, p) q =
    let i : v + n ≡ suc v + length xs = omega arith in
    (k, o, holds_join xs ys ws (suc v) (length xs) refl p (subst (Holds ys ws) i q))

-- the same by places
pub holds_at : (ns : List Node) (ws : List ℕ) (v : ℕ) → Holds ns ws v → (i : ℕ) → i < length ns
    → (kind ws (v + i) ≡ (get_or ns i (0, 0)).0) × (operand ws (v + i) ≡ (get_or ns i (0, 0)).1)
holds_at [] ws v h i l = absurd (omega arith)
holds_at (n ∷ ns) ws v (k, o, h) zero l = let e : v + 0 ≡ v = omega arith in (ap (kind ws) e ∙ k, ap (operand ws) e ∙ o)
holds_at (n ∷ ns) ws v (k, o, h) (suc i) l =
    let e : suc v + i ≡ v + suc i = omega arith in
    let (a, b) = holds_at ns ws (suc v) h i (omega arith) in
    (ap (kind ws) (sym e) ∙ a, ap (operand ws) (sym e) ∙ b)

pub holds_from : (ns : List Node) (ws : List ℕ) (v : ℕ)
    → ((i : ℕ) → i < length ns → (kind ws (v + i) ≡ (get_or ns i (0, 0)).0) × (operand ws (v + i) ≡ (get_or ns i (0, 0)).1)) → Holds ns ws v
holds_from [] ws v h = tt
holds_from (n ∷ ns) ws v h =
    let (k, o) = h 0 (omega arith) in
    let z : v ≡ v + 0 = omega arith in (
      ap (kind ws) z ∙ k,
      ap (operand ws) z ∙ o,
      holds_from ns ws (suc v) (λ i l.
          let e : suc v + i ≡ v + suc i = omega arith in
          let (a, b) = h (suc i) (omega arith) in
          (ap (kind ws) e ∙ a, ap (operand ws) e ∙ b)),
    )

-- ---- what holds of all nodes of a tree: of its first node, and of the nodes of its subtrees

module _ (P : ℕ → Type 0) (v u : ℕ) (here : P v) where
  first_then : (e : ℕ) → (suc v ≤ u → u < e → P u) → v ≤ u → u < e → P u
  first_then e later a b = go (ℕ_discrete v u)
    where
      go : Dec (v ≡ u) → P u
      go (yes i) = subst P i here
      go (no i) = later (omega arith) b

  pub leaf_nodes : v ≤ u → u < v + 1 → P u
  leaf_nodes = first_then (v + 1) (λ a b. absurd (omega arith))

  pub one_nodes : (n : ℕ) → (suc v ≤ u → u < suc v + n → P u) → v ≤ u → u < v + suc n → P u
  one_nodes n later = first_then (v + suc n) (λ a b. later a (omega arith))

  pub two_nodes : (m n : ℕ) → (suc v ≤ u → u < suc v + m → P u) → (suc v + m ≤ u → u < suc v + m + n → P u)
      → v ≤ u → u < v + suc (m + n) → P u
  two_nodes m n left right = first_then (v + suc (m + n)) (λ a b. go a b (dec_lt u (suc v + m)))
    where
      go : suc v ≤ u → u < v + suc (m + n) → Dec (u < suc v + m) → P u
      go a b (yes l) = left a l
      go a b (no l) = right (omega arith) (omega arith)

-- ---- the words of a table

module _ (ns : List Node) where
  pub table-size : size (table_words ns) ≡ length ns
  unfolding table_words
  table-size = refl

  pub table_length : length (table_words ns) ≡ 1 + 2 * length ns
  unfolding table_words
  table_length =
      let a = length-append (map (λ (n : Node). n.0) ns) (map (λ (n : Node). n.1) ns) in
      let b = length-map ns (λ (n : Node). n.0) in
      let c = length-map ns (λ (n : Node). n.1) in
      omega arith

  table_kind : (v : ℕ) → v < length ns → kind (table_words ns) v ≡ (get_or ns v (0, 0)).0
  unfolding table_words
  table_kind v h =
      let e : 1 + v ≡ suc v = omega arith in
      let b = length-map ns (λ (n : Node). n.0) in
      ap (word (table_words ns)) e
      ∙ get_or-append (map (λ (n : Node). n.0) ns) (map (λ (n : Node). n.1) ns) 0 v (omega arith)
      ∙ get_or-map (λ (n : Node). n.0) ns v (0, 0)

  table_operand : (v : ℕ) → operand (table_words ns) v ≡ (get_or ns v (0, 0)).1
  unfolding table_words
  table_operand v =
      let b = length-map ns (λ (n : Node). n.0) in
      let e : 1 + length ns + v ≡ suc (length (map (λ (n : Node). n.0) ns) + v) = omega arith in
      ap (word (table_words ns)) e
      ∙ get_or-append-add (map (λ (n : Node). n.0) ns) (map (λ (n : Node). n.1) ns) v 0
      ∙ get_or-map (λ (n : Node). n.1) ns v (0, 0)

  pub table_holds : Holds ns (table_words ns) 0
  table_holds =
      holds_from ns (table_words ns) 0 (λ i l.
      let e : 0 + i ≡ i = omega arith in
      (ap (kind (table_words ns)) e ∙ table_kind i l, ap (operand (table_words ns)) e ∙ table_operand i))

  -- words of the right length that hold the nodes are the words of the table
  pub table_only : (ws : List ℕ) → length ws ≡ 1 + 2 * size ws → size ws ≡ length ns → Holds ns ws 0 → ws ≡ table_words ns
  unfolding table_words
  table_only ws l s h = ext_get_or 0 ws (table_words ns) (l ∙ ap (λ (n : ℕ). 1 + 2 * n) s ∙ sym table_length) (λ i k. at i k (dec_lt i 1) (dec_lt i (1 + length ns)))
    where
      node : (v : ℕ) → v < length ns → (kind ws v ≡ (get_or ns v (0, 0)).0) × (operand ws v ≡ (get_or ns v (0, 0)).1)
      node v k =
          let e : v ≡ 0 + v = omega arith in
          let (a, b) = holds_at ns ws 0 h v k in
          (ap (kind ws) e ∙ a, ap (operand ws) e ∙ b)

      at : (i : ℕ) → i < length ws → Dec (i < 1) → Dec (i < 1 + length ns) → word ws i ≡ word (table_words ns) i
      at i k (yes a) b =
          let e : i ≡ 0 = omega arith in
          ap (word ws) e ∙ s ∙ sym table-size ∙ ap (word (table_words ns)) (sym e)
      at i k (no a) (yes b) =
          let e : i ≡ 1 + (i - 1) = omega arith in
          ap (word ws) e ∙ (node (i - 1) (omega arith)).0 ∙ sym (table_kind (i - 1) (omega arith)) ∙ ap (word (table_words ns)) (sym e)
      at i k (no a) (no b) =
          let e : i ≡ 1 + size ws + (i - (1 + length ns)) = omega arith in
          let f : 1 + size (table_words ns) + (i - (1 + length ns)) ≡ i = omega (arith, table-size) in
          ap (word ws) e ∙ (node (i - (1 + length ns)) (omega (arith, l))).1 ∙ sym (table_operand (i - (1 + length ns))) ∙ ap (word (table_words ns)) f
