-- A verdict that passes the test is accepted. Assumes nothing.
use mathlib.Core.Path.{◌≡◌, sym, subst}
use mathlib.Core.Bool.{Bool, true, false, cond, not, ◌&&◌, ◌||◌}
use mathlib.Core.List.{List}
use Prim.Native.Nat.{ℕ, ◌≤◌, ◌<◌}
use native.Mathlib.Omega.{arith}
use native.Mathlib.Decide.{ℕ_discrete}
use lib.Dec.{eqb, ltb, leb}
use borrow.Author.Tests.{leb-true, ltb-true, le-leb, eq-eqb, ne_eqb}
use Rattle.rules.specs.Lists.{In, from, has}
use Rattle.rules.specs.Game.{vertex_count, initial_in, owner_in, priority_in, targets_in}
use Rattle.lists.proofs.Ranges.{from_in}
use Rattle.lists.proofs.Tests.{and-true}
use Rattle.lists.proofs.Members.{has_in}
use Rattle.lists.proofs.Equalities.{number_equality}
use Rattle.meaning.specs.Quantifiers.{all}
use Rattle.satisfaction.specs.Ranks.{is_even}
use Rattle.meaning.proofs.Quantifiers.{all_in}
use Rattle.satisfaction.specs.Verdict.{OddPriority, Kept, AcceptedVerdict, right_numbers, right_edge, right_vertex, passes}
use Rattle.meaning.proofs.Tests.{both_true, implies}

module _ (g : List ℕ) (region : ℕ → Bool) (pick : ℕ → ℕ) (number : ℕ → ℕ → ℕ) where
  numbers_right : (p v w : ℕ) → right_numbers g region pick number p v w ≡ true → is_even p ≡ false → priority_in g v ≤ p → priority_in g w ≤ p
      → (number p w ≤ number p v) × (priority_in g v ≡ p → number p w < number p v)
  unfolding right_numbers
  numbers_right p v w e odd a b =
      let t : (not (leb (priority_in g v) p && leb (priority_in g w) p) || (leb (number p w) (number p v) && (not (eqb (priority_in g v) p) || ltb (number p w) (number p v)))) ≡ true =
      rw odd at e in
      let (x, y) = and-true (leb (number p w) (number p v)) (not (eqb (priority_in g v) p) || ltb (number p w) (number p v))
      (implies (leb (priority_in g v) p && leb (priority_in g w) p) _ t (both_true _ _ (le-leb (priority_in g v) p a) (le-leb (priority_in g w) p b))) in
      (leb-true (number p w) (number p v) x, λ i. ltb-true (number p w) (number p v) (implies (eqb (priority_in g v) p) _ y (eq-eqb (priority_in g v) p i)))

  module _ (e : passes g region pick number ≡ true) where
    right-vertex : (v : ℕ) → v < vertex_count g → region v ≡ true
        → cond (eqb (owner_in g v) 0) (has eqb (pick v) (targets_in g v) && right_edge g region pick number v (pick v)) (all (right_edge g region pick number v) (targets_in g v)) ≡ true
    unfolding passes right_vertex
    right-vertex v l r =
        let (a, b) = and-true (region (initial_in g)) (all (right_vertex g region pick number) (from 0 (vertex_count g))) e in
        implies (region v) _ (all_in (right_vertex g region pick number) (from 0 (vertex_count g)) b v (from_in v 0 (vertex_count g) (omega arith) (omega arith))) r

    even_vertex : (v : ℕ) → v < vertex_count g → region v ≡ true → owner_in g v ≡ 0 → In (pick v) (targets_in g v) × (right_edge g region pick number v (pick v) ≡ true)
    even_vertex v l r o =
        let t : (has eqb (pick v) (targets_in g v) && right_edge g region pick number v (pick v)) ≡ true = rw (eq-eqb (owner_in g v) 0 o) at (right-vertex v l r) in
        let (a, b) = and-true (has eqb (pick v) (targets_in g v)) (right_edge g region pick number v (pick v)) t in
        (has_in number_equality (pick v) (targets_in g v) a, b)

    other_vertex : (v w : ℕ) → v < vertex_count g → region v ≡ true → (¬ (owner_in g v ≡ 0)) → In w (targets_in g v) → right_edge g region pick number v w ≡ true
    other_vertex v w l r o m =
        let t : all (right_edge g region pick number v) (targets_in g v) ≡ true = rw (ne_eqb (owner_in g v) 0 o) at (right-vertex v l r) in
        all_in (right_edge g region pick number v) (targets_in g v) t w m

    edge_region : (v w : ℕ) → right_edge g region pick number v w ≡ true → region w ≡ true
    unfolding right_edge
    edge_region v w h = (and-true (region w) _ h).0

    edge_numbers : (v w p : ℕ) → right_edge g region pick number v w ≡ true → OddPriority g p → priority_in g v ≤ p → priority_in g w ≤ p
        → (number p w ≤ number p v) × (priority_in g v ≡ p → number p w < number p v)
    unfolding right_edge
    edge_numbers v w p h (odd, (u, l, i)) a b =
        let t = (and-true (region w) (all (λ u. right_numbers g region pick number (priority_in g u) v w) (from 0 (vertex_count g))) h).1 in
        let n : right_numbers g region pick number (priority_in g u) v w ≡ true =
        all_in (λ u. right_numbers g region pick number (priority_in g u) v w) (from 0 (vertex_count g)) t u (from_in u 0 (vertex_count g) (omega arith) (omega arith)) in
        numbers_right p v w (subst (λ (q : ℕ). right_numbers g region pick number q v w ≡ true) i n) odd a b

    kept_right : (v w : ℕ) → Kept g region pick number v w → right_edge g region pick number v w ≡ true
    kept_right v w k = go (ℕ_discrete (owner_in g v) 0)
      where
        go : Dec (owner_in g v ≡ 0) → right_edge g region pick number v w ≡ true
        go (yes o) = subst (λ (u : ℕ). right_edge g region pick number v u ≡ true) (sym (k.picked o)) (even_vertex v k.known k.claimed o).1
        go (no o) = other_vertex v w k.known k.claimed o k.edge

    pub passes_accepted : AcceptedVerdict g region pick number
    unfolding passes
    passes_accepted =
        record {
          starts = (and-true (region (initial_in g)) _ e).0;
          picks = λ v l r o. let (m, t) = even_vertex v l r o in (m, edge_region v (pick v) t);
          stays = λ v w l r o m. edge_region v w (other_vertex v w l r (λ z. omega arith) m);
          falls = λ v w p k. edge_numbers v w p (kept_right v w k);
        }
