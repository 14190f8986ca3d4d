-- The edges of the lines, repeats left out. Assumes nothing.
use Prim.Native.Nat.{ℕ, ◌+◌, ◌-◌, ◌≤◌, ◌<◌}
use native.Mathlib.Omega.{arith}
use mathlib.Core.Path.{◌≡◌, sym, ap, ◌∙◌, subst}
use mathlib.Core.Bool.{true, false, not}
use mathlib.Core.List.{List, [], map}
use lib.ListN.{length}
use lib.Dec.{eqb, ltb}
use borrow.Author.Tests.{lt-ltb, le-ltb}
use Rattle.rules.specs.Lists.{once}
use Rattle.rules.specs.Game.{edge_count}
use Rattle.bitmap.specs.Marks.{Holds}
use Rattle.rules.specs.Pgsolver.{SolverLine}
use Rattle.rules.specs.PgsolverReading.{vertex_of}
use Rattle.pgsolver_scan.specs.Told.{past_line}
use Rattle.pgsolver_check.specs.Lines.{lines_from, Readable}
use Rattle.pgsolver_scan.specs.Successors.{list_at}
use Rattle.pgsolver_check.proofs.Bounding.{no_edges, edges-of}
use Rattle.pgsolver_check.proofs.Walking.{Walk, walk_start, walk_done, walk-next, walk_all, walk_more}

-- ---- the pass

-- the edges of the lines up to p are counted
pub record Edging (text : List ℕ) (first room p edges : ℕ) (bits : List ℕ) : Type 0 where
  pub walk : Walk text first p
  pub many : edges ≡ edge_count (map vertex_of walk.ls)
  pub fits : edges ≤ room
  pub holds : Holds bits []

pub edging_start : {text bits : List ℕ} {first : ℕ} (room : ℕ) → Readable text first → Holds bits []
    → Edging text first room first 0 bits
edging_start room r h = record { walk = walk_start r; many = sym no_edges; fits = omega arith; holds = h }

module _ {text bits : List ℕ} {first p edges room : ℕ} (r : Readable text first)
    (k : Edging text first room p edges bits)
    (h : p < length text) (list : ℕ) {count : ℕ}
    (listed : list_at text list ≡ (walk-next r k.walk h).line.successors)
    (c : count ≡ length (once eqb (list_at text list))) where
  counted : count ≡ length (once eqb (walk-next r k.walk h).line.successors)
  counted = c ∙ ap (λ (ns : List ℕ). length (once eqb ns)) listed

  pub edging_beyond : room - edges < count → false ≡ not (ltb room (edge_count (map vertex_of (lines_from text first))))
  edging_beyond b =
      let x = walk-next r k.walk h in
      let more : room < edge_count (map vertex_of (lines_from text first)) = omega (
        arith,
        counted,
        k.many,
        ap (λ (z : List SolverLine). edge_count (map vertex_of z)) (walk_all r k.walk h),
        edges-of k.walk.ls x.line x.later,
      ) in
      sym (ap not (lt-ltb room (edge_count (map vertex_of (lines_from text first))) more))

  pub edging_more : {bits' : List ℕ} {q : ℕ} → count ≤ room - edges → q ≡ past_line text p → Holds bits' []
      → Edging text first room q (edges + count) bits'
  unfolding walk_more
  edging_more {bits'} f e g =
      let x = walk-next r k.walk h in
      subst (λ (q : ℕ). Edging text first room q (edges + count) bits') (sym e)
      (record {
        walk = walk_more r k.walk h;
        many = omega (arith, counted, k.many, edges-of k.walk.ls x.line [], no_edges);
        fits = omega (arith, k.fits);
        holds = g;
      })

pub edging_done : {text bits : List ℕ} {first room p edges : ℕ} → Edging text first room p edges bits → length text ≤ p
    → true ≡ not (ltb room (edge_count (map vertex_of (lines_from text first))))
edging_done {text} {first = first} {room = room} k h =
    let all : edge_count (map vertex_of (lines_from text first)) ≤ room = omega (
      arith,
      k.many,
      k.fits,
      ap (λ (z : List SolverLine). edge_count (map vertex_of z)) (walk_done k.walk h),
    ) in
    sym (ap not (le-ltb room (edge_count (map vertex_of (lines_from text first))) all))
