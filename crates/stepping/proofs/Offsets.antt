-- What is read off for the game: the degree of a settled vertex is the number of its edges, a waiting one is not
-- settled, and the sums of what they have are the offsets. Assumes nothing.
use mathlib.Core.Path.{◌≡◌, sym, ◌∙◌, ap}
use mathlib.Core.Bool.{false}
use mathlib.Core.List.{List}
use mathlib.Core.Logic.{◌⊎◌, inl, inr}
use Prim.Native.Nat.{ℕ, zero, suc, ◌+◌, ◌≤◌, ◌<◌}
use native.Mathlib.Omega.{arith}
use lib.ListN.{length, get_or, drop, length-drop}
use lib.Seq.{length-take-le}
use Rattle.rules.specs.Lists.{In}
use Rattle.walks.specs.Sums.{Settled, sum_below, sum_settled}
use Rattle.walks.proofs.Facts.{settled_or_waits}
use Rattle.walks.proofs.Sums.{sum_none, sum_waits, sum_settles}
use Rattle.pairs.specs.Table.{keys_of}
use Rattle.pairs.proofs.Uses.{length-keys}
use Rattle.settling.specs.declared.Counters.{Counters}
use Rattle.settling.specs.Stand.{waiting_of, edges_of, stand_of, settled_in, start_in, degree_in, degrees_in}
use Rattle.settling.specs.Good.{edges_due, Good}
use Rattle.settling.proofs.Buffer.{length_edges, degree_unsettled}
use Rattle.stepping.proofs.Steps.{length-edges_for}

module _ (targets : ℕ → List ℕ) (behind : ℕ → ℕ → ℕ) (root v e : ℕ) (w : List ℕ) (c : Counters)
    (g : Good targets behind root w v e c) where
  count : length (keys_of w v c.known) ≡ c.known
  count = length-keys w v c.known

  -- the degree of a settled vertex is the number of its edges
  pub degree_settled : (u : ℕ) → Settled (stand_of w v c) u
      → degree_in w v u ≡ edges_due targets (get_or (keys_of w v c.known) u root)
  degree_settled u s =
      let p = g.stretches u s in
      let start = start_in w v u in
      let many = degree_in w v u in
      let long : length (edges_of w v e c.edges) ≡ c.edges = length_edges w v e c.edges in
      sym (length-take-le many (drop start (edges_of w v e c.edges)) (omega (arith, p.inside, long, length-drop start (edges_of w v e c.edges))))
      ∙ ap length p.row
      ∙ length-edges_for u (keys_of w v c.known) (targets (get_or (keys_of w v c.known) u root))

  -- a waiting vertex is not settled
  pub waits_unsettled : (u : ℕ) → u < c.known → In u (waiting_of w v c.waiting) → settled_in w v u ≡ false
  waits_unsettled u h m = g.unsettled u (omega (arith, g.ready.table.slots.room)) (λ s. s.1 m)

  -- the offset of a vertex
  pub offset : (u : ℕ) → u ≤ c.known → degrees_in w v u ≡ sum_below (edges_due targets) root (stand_of w v c) u
  unfolding degrees_in
  offset zero h = sym (sum_none (edges_due targets) root (stand_of w v c))
  offset (suc u) h = go (settled_or_waits (stand_of w v c) u (omega (arith, count))) (offset u (omega arith))
    where
      go : Settled (stand_of w v c) u ⊎ In u (waiting_of w v c.waiting)
          → degrees_in w v u ≡ sum_below (edges_due targets) root (stand_of w v c) u
          → degrees_in w v u + degree_in w v u ≡ sum_below (edges_due targets) root (stand_of w v c) (suc u)
      go (inl s) ih =
          omega (arith, degree_settled u s, ih, sum_settles (edges_due targets) root (stand_of w v c) u s.1)
      go (inr m) ih =
          let d = degree_unsettled w v u (waits_unsettled u h m) in
          omega (arith, d, ih, sum_waits (edges_due targets) root (stand_of w v c) u m)

  -- the last offset is the number of edges
  pub offset_last : degrees_in w v c.known ≡ c.edges
  unfolding sum_settled
  offset_last = offset c.known (omega arith) ∙ ap (sum_below (edges_due targets) root (stand_of w v c)) (sym count) ∙ sym g.total
