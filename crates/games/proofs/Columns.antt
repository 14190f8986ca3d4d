-- Columns of words, one after another: each word and each stretch of them; and what holds of each column holds of all.
-- Assumes nothing.
use mathlib.Core.Path.{◌≡◌, refl, ap, ap₂, ◌∙◌, subst}
use mathlib.Core.List.{List, [], ◌∷◌, ◌++◌, map, append_assoc}
use mathlib.Core.Logic.{inl, inr}
use Prim.Native.Nat.{ℕ, zero, suc, ◌+◌, ◌*◌, ◌≤◌, ◌<◌}
use native.Mathlib.Nat.{not-suc-le-zero, le_of_suc-le-suc, mul-le-mul_right, suc-mul}
use native.Mathlib.Omega.{arith}
use lib.ListN.{length, get_or, take, drop, length-append, length-map, drop_of_length-le, get_or-append}
use lib.Seq.{slice, drop-cons, get_or-append-add, take-append-le, take-append-add, drop-append-add}
use Rattle.rules.specs.Lists.{word, In}
use Rattle.rules.specs.Game.{Edge, edge_to, vertex_columns, edge_columns, columns}
use Rattle.lists.proofs.Members.{map_at}

-- ---- the columns of a game, one by one: a column that is added is one more argument here

pub each_vertex_column : (P : ℕ → Type 0) → P 0 → P 1 → P 2 → P 3 → (c : ℕ) → c < length vertex_columns → P c
each_vertex_column P owner priority state item zero h = owner
each_vertex_column P owner priority state item (suc zero) h = priority
each_vertex_column P owner priority state item (suc (suc zero)) h = state
each_vertex_column P owner priority state item (suc (suc (suc zero))) h = item
each_vertex_column P owner priority state item (suc (suc (suc (suc c)))) h = absurd (omega arith)

pub each_edge_column : (P : ℕ → Type 0) → P 0 → P 1 → (c : ℕ) → c < length edge_columns → P c
each_edge_column P target count zero h = target
each_edge_column P target count (suc zero) h = count
each_edge_column P target count (suc (suc c)) h = absurd (omega arith)

-- the targets of edges that lead to these numbers
pub targets_plain : (ts : List ℕ) → map (λ (e : Edge). e.target) (map (λ t. edge_to t) ts) ≡ ts
targets_plain [] = refl
targets_plain (t ∷ ts) = ap (λ (l : List ℕ). t ∷ l) (targets_plain ts)

-- functions that agree at each element give the same column
pub map_same : {A B : Type 0} (f h : A → B) (xs : List A) → ((x : A) → In x xs → f x ≡ h x) → map f xs ≡ map h xs
map_same f h [] e = refl
map_same f h (x ∷ xs) e = ap₂ ◌∷◌ (e x (inl refl)) (map_same f h xs (λ y i. e y (inr i)))

-- a product that rises by whole columns
pub rise : (c s n : ℕ) → c < s → c * n + n ≤ s * n
rise c s n h = subst (λ (x : ℕ). x ≤ s * n) (suc-mul c n) (mul-le-mul_right n h)

-- ---- a word of the left part, one of the right part at a place that is said otherwise, and stretches of either

pub left_at : (xs ys : List ℕ) (v : ℕ) → v < length xs → word (xs ++ ys) v ≡ word xs v
left_at xs ys v h = get_or-append xs ys 0 v h

pub right_at : (xs ys : List ℕ) (p v : ℕ) → p ≡ length xs + v → word (xs ++ ys) p ≡ word ys v
right_at xs ys p v e = ap (λ k. get_or (xs ++ ys) k 0) e ∙ get_or-append-add xs ys v 0

pub slice_right : (xs ys : List ℕ) (a b : ℕ) → slice (length xs + a) (length xs + b) (xs ++ ys) ≡ slice a b ys
slice_right xs ys a b = ap (drop (length xs + a)) (take-append-add xs ys b) ∙ drop-append-add xs (take b ys) a

slice_left : (xs ys : List ℕ) (a b : ℕ) → b ≤ length xs → slice a b (xs ++ ys) ≡ slice a b xs
slice_left xs ys a b h = ap (drop a) (take-append-le b xs ys h)

-- ---- columns

module _ {A : Type 0} where
  pub length-columns : (fs : List (A → ℕ)) (xs : List A) → length (columns fs xs) ≡ length fs * length xs
  unfolding columns
  length-columns [] xs = omega arith
  length-columns (f ∷ fs) xs =
      omega (
        arith,
        length-append (map f xs) (columns fs xs),
        length-map xs f,
        length-columns fs xs,
        suc-mul (length fs) (length xs),
      )

  -- those from column c on
  pub columns_more : (fs : List (A → ℕ)) (xs : List A) (c : ℕ) → c < length fs
      → columns (drop c fs) xs ≡ map (get_or fs c (λ x. 0)) xs ++ columns (drop (suc c) fs) xs
  unfolding columns
  columns_more fs xs c h = ap (λ (l : List (A → ℕ)). columns l xs) (drop-cons fs c (λ x. 0) h)

  pub columns_none : (fs : List (A → ℕ)) (xs : List A) (c : ℕ) → length fs ≤ c → columns (drop c fs) xs ≡ []
  unfolding columns
  columns_none fs xs c h = ap (λ (l : List (A → ℕ)). columns l xs) (drop_of_length-le fs h)

  -- word v of column c
  pub column-at : (fs : List (A → ℕ)) (xs : List A) (rest : List ℕ) (c v : ℕ) (d : A) → c < length fs → v < length xs
      → word (columns fs xs ++ rest) (c * length xs + v) ≡ get_or fs c (λ x. 0) (get_or xs v d)
  unfolding columns
  column-at [] xs rest c v d h k = absurd (not-suc-le-zero h)
  column-at (f ∷ fs) xs rest zero v d h k =
      let e : 0 * length xs + v ≡ v = omega arith in
      ap (λ (l : List ℕ). word l (0 * length xs + v)) (append_assoc (map f xs) (columns fs xs) rest)
      ∙ ap (word (map f xs ++ (columns fs xs ++ rest))) e
      ∙ left_at (map f xs) (columns fs xs ++ rest) v (omega (arith, length-map xs f))
      ∙ map_at f xs v d 0 k
  column-at (f ∷ fs) xs rest (suc c) v d h k =
      let e : suc c * length xs + v ≡ length (map f xs) + (c * length xs + v)
      = omega (arith, length-map xs f, suc-mul c (length xs)) in
      ap (λ (l : List ℕ). word l (suc c * length xs + v)) (append_assoc (map f xs) (columns fs xs) rest)
      ∙ right_at (map f xs) (columns fs xs ++ rest) (suc c * length xs + v) (c * length xs + v) e
      ∙ column-at fs xs rest c v d (le_of_suc-le-suc h) k

  -- the words of column c from a up to b
  pub column_slice : (fs : List (A → ℕ)) (xs : List A) (rest : List ℕ) (c a b : ℕ) → c < length fs → b ≤ length xs
      → slice (c * length xs + a) (c * length xs + b) (columns fs xs ++ rest) ≡ slice a b (map (get_or fs c (λ x. 0)) xs)
  unfolding columns
  column_slice [] xs rest c a b h k = absurd (not-suc-le-zero h)
  column_slice (f ∷ fs) xs rest zero a b h k =
      let p : 0 * length xs + a ≡ a = omega arith in
      let q : 0 * length xs + b ≡ b = omega arith in
      rw (p, q, append_assoc (map f xs) (columns fs xs) rest)
      (slice_left (map f xs) (columns fs xs ++ rest) a b (omega (arith, length-map xs f)))
  column_slice (f ∷ fs) xs rest (suc c) a b h k =
      let p : suc c * length xs + a ≡ length (map f xs) + (c * length xs + a)
      = omega (arith, length-map xs f, suc-mul c (length xs)) in
      let q : suc c * length xs + b ≡ length (map f xs) + (c * length xs + b)
      = omega (arith, length-map xs f, suc-mul c (length xs)) in
      rw (p, q, append_assoc (map f xs) (columns fs xs) rest)
      (slice_right (map f xs) (columns fs xs ++ rest) (c * length xs + a) (c * length xs + b)
      ∙ column_slice fs xs rest c a b (le_of_suc-le-suc h) k)
