-- The vertices that the lines give, by number: which vertex a line gives, and that there are as many edges by vertex as
-- by line. Assumes nothing.
use Prim.Native.Nat.{ℕ, suc, ◌+◌}
use native.Mathlib.Omega.{arith}
use mathlib.Core.Path.{◌≡◌, refl, sym, ap, ◌∙◌, subst}
use mathlib.Core.List.{List, [], ◌∷◌, map}
use mathlib.Core.Logic.{inl, inr}
use lib.ListN.{length, length-map}
use lib.Dec.{eqb}
use borrow.Author.Tests.{eq-eqb, ne_eqb}
use Rattle.rules.specs.Lists.{In, Distinct, from, sum, one, occurrences}
use Rattle.rules.specs.Game.{Vertex, edge_count}
use Rattle.lists.proofs.Members.{in_map, map_in}
use Rattle.lists.proofs.Ranges.{from-length, from_in}
use Rattle.lists.proofs.Occurrences.{alike_sums, alike_all, occurs_not}
use Rattle.rules.specs.Pgsolver.{SolverLine, SolverText}
use Rattle.rules.specs.PgsolverReading.{vertex_of, vertex_named, numbers_of}
use Rattle.restrictions.proofs.Kept.{from_distinct}
use Rattle.game_texts.proofs.Exact.{Passes92}

-- the vertex that a line gives
pub named : (ls : List SolverLine) (x : SolverLine) → Distinct (numbers_of ls) → In x ls
    → vertex_named ls x.number ≡ vertex_of x
unfolding vertex_named
named [] x d i = absurd i
named (l ∷ ls) x d (inl e) =
    rw (eq-eqb l.number x.number (ap (λ (z : SolverLine). z.number) (sym e))) (ap vertex_of (sym e))
named (l ∷ ls) x d (inr i) =
    rw (ne_eqb l.number x.number
    (λ e. d.0 (subst (λ (n : ℕ). In n (numbers_of ls)) (sym e) (map_in (λ (z : SolverLine). z.number) x ls i))))
    (named ls x d.1 i)

-- ---- as many edges by line as by vertex

count_one : (z : ℕ) (xs : List ℕ) → Distinct xs → In z xs → occurrences eqb z xs ≡ 1
unfolding occurrences
count_one z [] d i = absurd i
count_one z (x ∷ xs) d (inl e) =
    omega (arith, occurs_not z xs (λ j. d.0 (subst (λ (w : ℕ). In w xs) e j)), ap one (eq-eqb x z (sym e)))
count_one z (x ∷ xs) d (inr i) =
    omega (arith, count_one z xs d.1 i, ap one (ne_eqb x z (λ e. d.0 (subst (λ (w : ℕ). In w xs) (sym e) i))))

by_line : (ls ms : List SolverLine) → Distinct (numbers_of ls) → ((l : SolverLine) → In l ms → In l ls)
    → edge_count (map vertex_of ms) ≡ sum (map (λ z. length (vertex_named ls z).edges) (numbers_of ms))
unfolding edge_count sum
by_line ls [] d f = refl
by_line ls (m ∷ ms) d f =
    omega (
      arith,
      by_line ls ms d (λ l i. f l (inr i)),
      ap (λ (x : Vertex). length x.edges)
          (named ls m d (f m (inl refl))),
    )

by_vertex : (ls : List SolverLine) (vs : List ℕ)
    → edge_count (map (vertex_named ls) vs) ≡ sum (map (λ z. length (vertex_named ls z).edges) vs)
unfolding edge_count sum
by_vertex ls [] = refl
by_vertex ls (v ∷ vs) = ap (λ (k : ℕ). length (vertex_named ls v).edges + k) (by_vertex ls vs)

pub as_many : (t : SolverText) → Passes92 t
    → edge_count (map vertex_of t.lines) ≡ edge_count (map (vertex_named t.lines) (from 0 (suc t.highest)))
as_many t p =
    by_line t.lines t.lines p.apart (λ l i. i)
    ∙ alike_sums (λ z. length (vertex_named t.lines z).edges) (numbers_of t.lines) (from 0 (suc t.highest))
    (alike_all (numbers_of t.lines) (from 0 (suc t.highest))
    (length-map t.lines (λ l. l.number) ∙ p.long ∙ sym (from-length 0 (suc t.highest)))
    (λ z i. count_one z (numbers_of t.lines) p.apart i
    ∙ sym (count_one z (from 0 (suc t.highest)) (from_distinct 0 (suc t.highest)) (inside_range z i))))
    ∙ sym (by_vertex t.lines (from 0 (suc t.highest)))
  where
    inside_range : (z : ℕ) → In z (numbers_of t.lines) → In z (from 0 (suc t.highest))
    inside_range z i =
        let (l, m, e) = in_map (λ (l : SolverLine). l.number) z t.lines i in
        from_in z 0 (suc t.highest) (omega arith) (omega (arith, (p.inside l m).0))
