-- The words of a game as stretches, one after the other: those that a program writes from left to right. Assumes
-- nothing.
use Prim.Native.Nat.{ℕ, suc, ◌+◌, ◌-◌, ◌*◌, ◌≤◌, ◌<◌}
use native.Mathlib.Numerals.{add-one}
use native.Mathlib.Omega.{arith}
use mathlib.Core.Path.{◌≡◌, refl, sym, ap, ◌∙◌}
use mathlib.Core.List.{List, [], ◌∷◌, ◌++◌, map, append-nil, append_assoc}
use lib.ListN.{length, get_or, take, drop, set, replicate, length-append, length-map, length-replicate, replicate-append-replicate}
use Rattle.rules.specs.Game.{Edge, Vertex, edge_to, vertex_columns, edge_columns, edge_count, offsets, all_edges, columns}
use Rattle.rules.specs.Game.{game_of, padded}
use Rattle.lists.proofs.Members.{map-append}
use Rattle.words.specs.Stretches.{Wrote}
use Rattle.words.proofs.Stretches.{Writing, turn, called, done}
use Rattle.games.specs.Columns.{edge_column_of}
use Rattle.games.proofs.Columns.{length-columns, columns_more, columns_none}

-- the header
pub three : (a b c : ℕ) (out : List ℕ) → 3 ≤ length out → Wrote 0 (a ∷ b ∷ c ∷ []) out (set (set (set out 0 a) 1 b) 2 c) 3
three a b c [] h = absurd (omega arith)
three a b c (x ∷ []) h = absurd (omega arith)
three a b c (x ∷ y ∷ []) h = absurd (omega arith)
three a b c (x ∷ y ∷ z ∷ out) h = record { past = refl; words = refl; rest = refl }

-- the whole game, by the counts that are written
pub game_stretches : (vs : List Vertex) (n m : ℕ) → n ≡ length vs → m ≡ edge_count vs
    → game_of 0 vs
    ≡ (n ∷ m ∷ 0 ∷ []) ++ (columns vertex_columns vs ++ (offsets 0 vs ++ columns edge_columns (all_edges vs)))
unfolding game_of
game_stretches vs n m a b = rw (a, b)

-- the targets, and behind them the other columns of the edges
pub targets_first : (vs : List Vertex)
    → columns edge_columns (all_edges vs) ≡ edge_column_of 0 vs ++ columns (drop 1 edge_columns) (all_edges vs)
unfolding columns
targets_first vs = refl

-- the game, and zeros past it
pub game_padded : (stretch out out₁ out' : List ℕ) (r : ℕ) → Wrote 0 stretch out out₁ r → length out₁ ≡ length out → out' ≡ take r out₁ ++ replicate (length out₁ - r) 0
    → out' ≡ padded (length out) stretch
unfolding padded
game_padded stretch out out₁ out' r w l e =
    let n : length out₁ - r ≡ length out - length stretch = omega (arith, w.past) in
    e ∙ ap (λ (ws : List ℕ). ws ++ replicate (length out₁ - r) 0) w.words ∙ ap (λ (k : ℕ). stretch ++ replicate k 0) n

-- ---- one column at a time

module _ {A : Type 0} (fs : List (A → ℕ)) (xs : List A) where
  -- there is room for column c
  pub columns_room : (c : ℕ) {p at₀ : ℕ} {out out₀ : List ℕ} → c < length fs → at₀ + length fs * length xs ≤ length out₀
      → Writing p (columns (drop c fs) xs) out at₀ (columns fs xs) out₀ → p + length xs ≤ length out
  columns_room c h k w =
      omega (
        arith,
        w.long,
        w.last,
        length-columns fs xs,
        ap length (columns_more fs xs c h),
        length-append (map (get_or fs c (λ x. 0)) xs) (columns (drop (suc c) fs) xs),
        length-map xs (get_or fs c (λ x. 0)),
      )

  pub columns_put : (c : ℕ) {p r at₀ : ℕ} {column stretch out out' out₀ : List ℕ} → c < length fs
      → column ≡ map (get_or fs c (λ x. 0)) xs
      → length out' ≡ length out → Wrote p column out out' r → Writing p (columns (drop c fs) xs) out at₀ stretch out₀
      → Writing r (columns (drop (c + 1) fs) xs) out' at₀ stretch out₀
  columns_put c {column = column} h e l wrote w =
      called l wrote
      (turn (columns_more fs xs c h ∙ ap (λ (k : List ℕ). k ++ columns (drop (suc c) fs) xs) (sym e)
      ∙ ap (λ (i : ℕ). column ++ columns (drop i fs) xs) (sym (add-one c))) w)

  pub columns_done : (c : ℕ) {p at₀ : ℕ} {stretch out out₀ : List ℕ} → length fs ≤ c
      → Writing p (columns (drop c fs) xs) out at₀ stretch out₀
      → Wrote at₀ stretch out₀ out p
  columns_done c h w = done (turn (columns_none fs xs c h) w)

-- ---- one vertex at a time

pub offsets_none : (e : ℕ) → offsets e [] ≡ e ∷ []
unfolding offsets
offsets_none e = refl

pub offsets_more : (e : ℕ) (v : Vertex) (vs : List Vertex) → offsets e (v ∷ vs) ≡ e ∷ offsets (e + length v.edges) vs
unfolding offsets
offsets_more e v vs = refl

-- a column of all edges
pub column_none : (f : Edge → ℕ) → map f (all_edges []) ≡ []
unfolding all_edges
column_none f = refl

pub column-more : (f : Edge → ℕ) (v : Vertex) (vs : List Vertex)
    → map f (all_edges (v ∷ vs)) ≡ map f v.edges ++ map f (all_edges vs)
unfolding all_edges
column-more f v vs = map-append f v.edges (all_edges vs)

pub edges_none : edge_count [] ≡ 0
unfolding edge_count Rattle.rules.specs.Lists.sum
edges_none = refl

pub edges_more : (v : Vertex) (vs : List Vertex) → edge_count (v ∷ vs) ≡ length v.edges + edge_count vs
unfolding edge_count Rattle.rules.specs.Lists.sum
edges_more v vs = refl

-- ---- vertices whose edges no modality gives: behind their targets stand zeros

abbrev pub Plain : List Edge → Type 0
Plain es = es ≡ map (λ e. edge_to e.target) es

pub plain_to : {A : Type 0} (f : A → ℕ) (xs : List A) → Plain (map (λ x. edge_to (f x)) xs)
plain_to f [] = refl
plain_to f (x ∷ xs) = ap (λ (l : List Edge). edge_to (f x) ∷ l) (plain_to f xs)

plain_append : (es fs : List Edge) → Plain es → Plain fs → Plain (es ++ fs)
plain_append es fs p q =
    ap (λ (l : List Edge). l ++ fs) p ∙ ap (λ (l : List Edge). map (λ e. edge_to e.target) es ++ l) q ∙ sym (both es)
  where
    both : (xs : List Edge) → map (λ e. edge_to e.target) (xs ++ fs)
        ≡ map (λ e. edge_to e.target) xs ++ map (λ e. edge_to e.target) fs
    both [] = refl
    both (x ∷ xs) = ap (λ (l : List Edge). edge_to x.target ∷ l) (both xs)

pub plain_none : Plain (all_edges [])
unfolding all_edges
plain_none = refl

pub plain_more : (v : Vertex) (vs : List Vertex) → Plain v.edges → Plain (all_edges vs) → Plain (all_edges (v ∷ vs))
unfolding all_edges
plain_more v vs p q = plain_append v.edges (all_edges vs) p q

-- the other columns of such edges
zeros_behind : (es : List Edge) → Plain es
    → columns (drop 1 edge_columns) es ≡ replicate ((length edge_columns - 1) * length es) 0
unfolding columns
zeros_behind es p =
    let n : length es ≡ (length edge_columns - 1) * length es = omega arith in
    append-nil (map (λ e. e.count) es) ∙ ap (map (λ e. e.count)) p ∙ none es ∙ ap (λ (k : ℕ). replicate k 0) n
  where
    none : (xs : List Edge) → map (λ (e : Edge). e.count) (map (λ e. edge_to e.target) xs) ≡ replicate (length xs) 0
    none [] = refl
    none (x ∷ xs) = ap (λ (l : List ℕ). 0 ∷ l) (none xs)

-- so a writer may stop behind the targets: the zeros past the game are the same
pub plain_padded : (vs : List Vertex) (ws : List ℕ) (n : ℕ) → Plain (all_edges vs)
    → game_of 0 vs ≡ ws ++ columns (drop 1 edge_columns) (all_edges vs) → length (game_of 0 vs) ≤ n
    → padded n ws ≡ padded n (game_of 0 vs)
unfolding padded
plain_padded vs ws n p e h =
    let k : ℕ = (length edge_columns - 1) * length (all_edges vs) in
    let f : game_of 0 vs ≡ ws ++ replicate k 0 = e ∙ ap (λ (l : List ℕ). ws ++ l) (zeros_behind (all_edges vs) p) in
    let long : length (game_of 0 vs) ≡ length ws + k
    = ap length f ∙ length-append ws (replicate k 0) ∙ ap (λ (j : ℕ). length ws + j) (length-replicate k 0) in
    let m : n - length ws ≡ k + (n - length (game_of 0 vs)) = omega arith in
    ap (λ (j : ℕ). ws ++ replicate j 0) m
    ∙ ap (λ (l : List ℕ). ws ++ l) (sym (replicate-append-replicate k (n - length (game_of 0 vs)) 0))
    ∙ sym (append_assoc ws (replicate k 0) (replicate (n - length (game_of 0 vs)) 0))
    ∙ ap (λ (l : List ℕ). l ++ replicate (n - length (game_of 0 vs)) 0) (sym f)
