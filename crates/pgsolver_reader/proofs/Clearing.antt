-- The columns of states and items are cleared: the vertices stay written. Assumes nothing.
use Prim.Native.Nat.{ℕ, ◌+◌, ◌-◌, ◌*◌, ◌≤◌}
use native.Mathlib.Omega.{arith}
use mathlib.Core.Path.{◌≡◌, refl, ap, ap₂, ◌∙◌}
use mathlib.Core.Bool.{Bool, true, false, cond}
use mathlib.Core.List.{List, [], ◌∷◌, ◌++◌, map, append-nil}
use Rattle.std.proofs.lemmas.Slice.{take-put_mid, drop-put_mid}
use borrow.Rule.Slice.PartMut.{put_mid}
use lib.ListN.{length, take, replicate, length-replicate, replicate-append-replicate}
use lib.Dec.{eqb}
use Rattle.rules.specs.Lists.{from}
use Rattle.rules.specs.Game.{Vertex, blank_vertex, vertex_columns, columns}
use Rattle.rules.specs.Pgsolver.{SolverLine}
use Rattle.rules.specs.PgsolverReading.{text_vertex, vertex_of, vertex_named}
use Rattle.lists.proofs.Ranges.{from-length}
use Rattle.words.specs.Stretches.{Wrote}
use Rattle.pgsolver_reader.specs.Parts.{verts_to, Part, column_at, offsets_from, edges_begin}
use Rattle.pgsolver_reader.proofs.Writing.{slice_wrote, slice_behind}

-- ---- the words

pub cleared : (n a b : ℕ) (g zeros : List ℕ) → a ≡ column_at n 2 → b ≡ offsets_from n → edges_begin n ≤ length g
    → zeros ≡ replicate (b - a) 0
    → Wrote (column_at n 2) (replicate (2 * n) 0) g (put_mid a (b - a) g zeros) (offsets_from n)
cleared n a b g zeros e f h z =
    let many : b - a ≡ 2 * n = omega arith in
    let long : length zeros ≡ b - a = ap length z ∙ length-replicate {A = ℕ} (b - a) 0 in
    record {
      past = omega (arith, length-replicate {A = ℕ} (2 * n) 0);
      words =
          take-put_mid a (b - a) g zeros (offsets_from n) (omega (arith, long)) (omega arith)
          ∙ ap (λ (k : ℕ). take k g ++ zeros) e
          ∙ ap (λ (ws : List ℕ). take (column_at n 2) g ++ ws) (z ∙ ap (λ (k : ℕ). replicate k 0) many);
      rest = drop-put_mid a (b - a) g zeros (offsets_from n) (omega arith) (omega arith) long;
    }

-- the vertices are written as before
module _ {text : List ℕ} {n q : ℕ} {g g' : List ℕ} (p : Part text n n q g)
    (w : Wrote (column_at n 2) (replicate (2 * n) 0) g g' (offsets_from n)) (same : length g' ≡ length g) where
  inside : column_at n 2 ≤ length g
  inside = omega (arith, p.room)

  pub part_cleared : Part text n n q g'
  part_cleared =
      record {
        room = omega (arith, p.room, same);
        within = p.within;
        place = p.place;
        owners = slice_wrote w inside (column_at n 0) (column_at n 0 + n) (omega arith) ∙ p.owners;
        priorities = slice_wrote w inside (column_at n 1) (column_at n 1 + n) (omega arith) ∙ p.priorities;
        offsets = slice_behind w inside (offsets_from n) (offsets_from n + n) (omega arith) (omega arith) ∙ p.offsets;
        targets = slice_behind w inside (edges_begin n) q (omega arith) (omega (arith, p.place)) ∙ p.targets;
      }

-- ---- the vertices that the text gives

-- a word that is 0 of the vertex of every line is 0 of every vertex
named_none : (f : Vertex → ℕ) → f blank_vertex ≡ 0 → ((l : SolverLine) → f (vertex_of l) ≡ 0) → (ls : List SolverLine) (v : ℕ)
    → f (vertex_named ls v) ≡ 0
unfolding vertex_named
named_none f a b [] v = a
named_none f a b (l ∷ ls) v = go (eqb l.number v) (named_none f a b ls v)
  where
    go : (t : Bool) → f (vertex_named ls v) ≡ 0 → f (cond t (vertex_of l) (vertex_named ls v)) ≡ 0
    go true e = b l
    go false e = e

none_written : (f : Vertex → ℕ) → f blank_vertex ≡ 0 → ((l : SolverLine) → f (vertex_of l) ≡ 0) → (ls : List SolverLine)
    (n : ℕ) → map f (verts_to ls n) ≡ replicate n 0
unfolding verts_to
none_written f a b ls n = each (from 0 n) ∙ ap (λ (k : ℕ). replicate k 0) (from-length 0 n)
  where
    each : (us : List ℕ) → map f (map (vertex_named ls) us) ≡ replicate (length us) 0
    each [] = refl
    each (u ∷ us) = ap₂ ◌∷◌ (named_none f a b ls u) (each us)

-- the words of the vertices, column by column
pub vertex_words : (ls : List SolverLine) (n : ℕ)
    → columns vertex_columns (verts_to ls n)
    ≡ map (λ x. x.owner) (verts_to ls n) ++ (map (λ x. x.priority) (verts_to ls n) ++ replicate (2 * n) 0)
unfolding columns vertex_of text_vertex
vertex_words ls n =
    let vs : List Vertex = verts_to ls n in
    let twice : n + n ≡ 2 * n = omega arith in
    let states : map (λ (x : Vertex). x.state) vs ≡ replicate n 0
    = none_written (λ x. x.state) refl (λ l. refl) ls n in
    let items : map (λ (x : Vertex). x.item) vs ++ [] ≡ replicate n 0
    = append-nil (map (λ (x : Vertex). x.item) vs) ∙ none_written (λ x. x.item) refl (λ l. refl) ls n in
    ap (λ (ws : List ℕ). map (λ x. x.owner) vs ++ (map (λ x. x.priority) vs ++ ws))
    (ap₂ ◌++◌ states items ∙ replicate-append-replicate n n 0 ∙ ap (λ (k : ℕ). replicate k 0) twice)
