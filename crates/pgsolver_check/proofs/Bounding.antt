-- A bound for the edges of lines that needs no set: a line has no more edges than it lists successors, and no more than
-- there are vertices. Assumes nothing.
use Prim.Native.Nat.{ℕ, ◌+◌, ◌≤◌, ◌<◌, min, max}
use native.Mathlib.Omega.{arith}
use mathlib.Core.Path.{◌≡◌, refl, ap, ◌∙◌}
use mathlib.Core.List.{List, [], ◌∷◌, ◌++◌, map}
use mathlib.Core.Logic.{inl, inr}
use lib.ListN.{length, length-map}
use lib.Dec.{eqb}
use Rattle.rules.specs.Lists.{In, from, largest, sum, once}
use Rattle.rules.specs.Game.{Vertex, edge_to, edge_count}
use Rattle.lists.proofs.Members.{map-append, no_more}
use Rattle.lists.proofs.Ranges.{from_in, from-length}
use Rattle.lists.proofs.Inserts.{once_in, once_distinct, once_length}
use Rattle.lists.proofs.Equalities.{number_equality}
use Rattle.rules.specs.Pgsolver.{SolverLine}
use Rattle.rules.specs.PgsolverReading.{text_vertex, vertex_of}
use Rattle.pgsolver_scan.specs.declared.VertexLine.{VertexLine}
use Rattle.pgsolver_scan.specs.Told.{RowAt}
use Rattle.pgsolver_check.specs.Lines.{top_of, tops_of}

-- ---- the highest number

pub in_largest : (ns : List ℕ) (n : ℕ) → In n ns → n ≤ largest ns
unfolding largest
in_largest [] n i = absurd i
in_largest (m ∷ ns) n (inl e) = omega arith
in_largest (m ∷ ns) n (inr i) = omega (arith, in_largest ns n i)

pub largest_more : (ns : List ℕ) (n : ℕ) → largest (ns ++ (n ∷ [])) ≡ max (largest ns) n
unfolding largest
largest_more [] n = omega arith
largest_more (k ∷ ns) n = ap (max k) (largest_more ns n)
    ∙ (let e : max k (max (largest ns) n) ≡ max (max k (largest ns)) n = omega arith in e)

pub tops_more : (ls : List SolverLine) (l : SolverLine) → tops_of (ls ++ (l ∷ [])) ≡ max (tops_of ls) (top_of l)
unfolding tops_of
tops_more ls l = ap largest (map-append top_of ls (l ∷ [])) ∙ largest_more (map top_of ls) (top_of l)

-- ---- edges

pub edges_append : (xs ys : List Vertex) → edge_count (xs ++ ys) ≡ edge_count xs + edge_count ys
unfolding edge_count sum
edges_append [] ys = omega arith
edges_append (x ∷ xs) ys = omega (arith, edges_append xs ys)

pub edges_cons : (x : Vertex) (xs : List Vertex) → edge_count (x ∷ xs) ≡ length x.edges + edge_count xs
unfolding edge_count sum
edges_cons x xs = refl

pub no_edges : edge_count [] ≡ 0
unfolding edge_count sum
no_edges = refl

-- the edges of one line
line_edges : (x : SolverLine) → length (vertex_of x).edges ≡ length (once eqb x.successors)
unfolding vertex_of text_vertex
line_edges x = length-map (once eqb x.successors) edge_to

pub edges-of : (ls : List SolverLine) (x : SolverLine) (ms : List SolverLine)
    → edge_count (map vertex_of (ls ++ (x ∷ ms)))
    ≡ edge_count (map vertex_of ls) + length (once eqb x.successors) + edge_count (map vertex_of ms)
edges-of ls x ms =
    ap edge_count (map-append vertex_of ls (x ∷ ms))
    ∙ omega (
      arith,
      edges_append (map vertex_of ls) (map vertex_of (x ∷ ms)),
      edges_cons (vertex_of x) (map vertex_of ms),
      line_edges x,
    )

-- ---- the bound for the edges

-- the edges of the lines, where all their numbers are vertices up to the highest, which is not saturated
abbrev pub Enough : ℕ → List SolverLine → ℕ → Type 0
Enough highest ls listed =
    tops_of ls ≤ highest → highest < 18446744073709551610 → edge_count (map vertex_of ls) ≤ listed

-- different numbers up to h are no more than h + 1
once_within : (ns : List ℕ) (h : ℕ) → ((n : ℕ) → In n ns → n ≤ h) → length (once eqb ns) ≤ h + 1
once_within ns h f =
    omega (
      arith,
      no_more (once eqb ns) (from 0 (h + 1)) (once_distinct number_equality ns)
          (λ n i. from_in n 0 (h + 1) (omega arith) (omega (arith, f n ((once_in number_equality ns n).0 i)))),
      from-length 0 (h + 1),
    )

line_enough : (x : SolverLine) (row : VertexLine) {text : List ℕ} (h : ℕ) → RowAt text x row → top_of x ≤ h
    → h < 18446744073709551610 → length (once eqb x.successors) ≤ min row.listed (h + 1)
unfolding top_of
line_enough x row h c low small =
    omega (
      arith,
      c.listed,
      once_length number_equality x.successors,
      once_within x.successors h (λ n i. omega (arith, low, in_largest x.successors n i)),
    )

pub enough_more : (h : ℕ) (ls : List SolverLine) (x : SolverLine) (row : VertexLine) {text : List ℕ} {listed : ℕ}
    → RowAt text x row → Enough h ls listed → Enough h (ls ++ (x ∷ [])) (listed + min row.listed (h + 1))
enough_more h ls x row {listed = listed} c f low small =
    let tops : tops_of (ls ++ (x ∷ [])) ≡ max (tops_of ls) (top_of x) = tops_more ls x in
    omega (
      arith,
      tops,
      edges-of ls x [],
      no_edges,
      f (omega (arith, tops, low)) small,
      line_enough x row h c (omega (arith, tops, low)) small,
    )
