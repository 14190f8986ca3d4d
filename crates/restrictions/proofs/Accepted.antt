-- A game that is not refused is good, and what its offsets, edges and targets are then. Assumes nothing.
use mathlib.Core.Path.{◌≡◌, refl, sym, ap, ◌∙◌, subst}
use mathlib.Core.List.{List, map}
use mathlib.Core.Logic.{⊎_elim}
use Prim.Native.Nat.{ℕ, zero, suc, ◌+◌, ◌-◌, ◌≤◌, ◌<◌}
use native.Mathlib.Omega.{arith}
use lib.ListN.{length, length-map}
use lib.Seq.{slice, slice_empty, slice-cons, length-slice}
use lib.Dec.{eqb, ltb}
use borrow.Author.Tests.{ltb-false, leb-false, eqb-false}
use Rattle.std.specs.declared.result.Result.TheVariants.{Ok}
use Rattle.rules.specs.Lists.{word, In}
use Rattle.rules.specs.Words.{most_vertices, most_edges}
use Rattle.rules.specs.Game.{edge_columns, vertex_count, edges_in, initial_in, vertex_column_at, offsets_at}
use Rattle.rules.specs.Game.{edge_column_at, game_end, offset_in, edges_from, edge_words_in, targets_in, edges_at}
use Rattle.rules.specs.Refusal.{differ, too_large}
use Rattle.rules.specs.GameRefusal.{above_room, refusal51, falls, refusal52, refusal53, game_refusal}
use Rattle.rules.specs.Restrict.{restriction_refusal}
use Rattle.tables.proofs.Faults.{if_passed, if-false, from_passed, first_passed, lower_both, then_both, then_passed}
use Rattle.restrictions.specs.GoodGame.{GoodGame}
use Rattle.lists.proofs.Tests.{or-false}
use Rattle.tables.proofs.Choices.{differ_no, differ_false}
use Rattle.games.specs.Columns.{edge_column}
use Rattle.games.proofs.Offsets.{offset_within}
use Rattle.games.proofs.Stretches.{edges_words}

module _ (g : List ℕ) (r51 : refusal51 g ≡ Ok tt) (r52 : refusal52 g ≡ Ok tt) (r53 : refusal53 g ≡ Ok tt) where
  sizes : (length g ≡ game_end g) × (1 ≤ vertex_count g) × (vertex_count g ≤ 1_048_576) × (edges_in g ≤ 4_194_304)
  unfolding above_room refusal51
  sizes =
      let (short, a) = or-false (ltb (length g) 3) _ (if_passed 51 0 _ r51) in
      let (other, b) = or-false (differ (length g) (game_end g)) _ a in
      let (empty, c) = or-false (eqb (vertex_count g) 0) _ b in
      let (many, most) = or-false (ltb most_vertices (vertex_count g)) (ltb most_edges (edges_in g)) c in
      let some : ¬ (vertex_count g ≡ 0) = eqb-false (vertex_count g) 0 empty in (
        differ_false (length g) (game_end g) other,
        go some,
        ltb-false 1_048_576
            (vertex_count g) many,
        ltb-false 4_194_304 (edges_in g) most,
      )
    where
      go : (¬ (vertex_count g ≡ 0)) → 1 ≤ vertex_count g
      go n = omega arith

  steady : (w : ℕ) → 1 + offsets_at g ≤ w → w < 1 + offsets_at g + vertex_count g → word g (w - 1) ≤ word g w
  unfolding refusal52 falls
  steady w a b =
      ltb-false (word g w) (word g (w - 1))
      (from_passed 52 (1 + offsets_at g) (1 + offsets_at g + vertex_count g) (falls g)
      (lower_both _ _ (lower_both _ _ r52).1).0 w a b)

  first_offset : offset_in g 0 ≡ 0
  unfolding refusal52
  first_offset = differ_false (offset_in g 0) 0 (if_passed 52 (offsets_at g) _ (lower_both _ _ r52).0)

  last_offset : offset_in g (vertex_count g) ≡ edges_in g
  unfolding refusal52
  last_offset =
      differ_false (offset_in g (vertex_count g)) (edges_in g)
      (if_passed 52 (offsets_at g + vertex_count g) _ (lower_both _ _ (lower_both _ _ r52).1).1)

  initial_small : initial_in g < vertex_count g
  unfolding refusal53
  initial_small = leb-false (vertex_count g) (initial_in g) (if_passed 53 2 _ (lower_both _ _ r53).0)

  owner_small : (w : ℕ) → vertex_column_at g 0 ≤ w → w < vertex_column_at g 1 → word g w ≤ 1
  unfolding refusal53
  owner_small w a b =
      ltb-false 1 (word g w)
      (from_passed 53 (vertex_column_at g 0) (vertex_column_at g 1) (λ w. ltb 1 (word g w))
      (lower_both _ _ (lower_both _ _ r53).1).0 w a b)

  target_small : (w : ℕ) → edge_column_at g 0 ≤ w → w < edge_column_at g 1 → word g w < vertex_count g
  unfolding refusal53 too_large
  target_small w a b =
      leb-false (vertex_count g) (word g w)
      (from_passed 53 (edge_column_at g 0) (edge_column_at g 1) (too_large g (vertex_count g))
      (lower_both _ _ (lower_both _ _ r53).1).1 w a b)

  good_words : GoodGame g
  good_words =
      let (sized, some, few, light) = sizes in
      record {
        sized = sized;
        some = some;
        few = few;
        light = light;
        begins = first_offset;
        rises = λ v h.
            let e : offsets_at g + suc v - 1 ≡ offsets_at g + v = omega arith in
            subst (λ (w : ℕ). word g w ≤ offset_in g (suc v)) e
            (steady (offsets_at g + suc v) (omega arith) (omega arith));
        ends = last_offset;
        initial = initial_small;
        owned = λ v h. let b = owner_small (vertex_column_at g 0 + v) (omega arith) (omega arith) in omega arith;
        leads = λ e h. target_small (edge_column_at g 0 + e) (omega arith) (omega arith);
      }

pub good_game : (g : List ℕ) → game_refusal g ≡ Ok tt → GoodGame g
unfolding game_refusal
good_game g e = good_words g (first_passed _ e 0) (first_passed _ e 1) (first_passed _ e 2)

-- the lent slices have the right lengths too
pub accepted_slices : (g : List ℕ) (out numbers work : ℕ) → restriction_refusal g out numbers work ≡ Ok tt
    → (game_refusal g ≡ Ok tt) × (out ≡ length g) × (numbers ≡ vertex_count g) × (work ≡ vertex_count g)
unfolding restriction_refusal
accepted_slices g out numbers work e =
    let (a, b) = then_both (game_refusal g) _ e in
    let (c, d) = or-false (differ out (length g)) _ (if_passed 2 0 _ b) in
    let (m, n) = or-false (differ numbers (vertex_count g)) (differ work (vertex_count g)) d in
    (a, differ_false out (length g) c, differ_false numbers (vertex_count g) m, differ_false work (vertex_count g) n)

-- and slices of these lengths are accepted with a game that is
pub slices_accepted : (g : List ℕ) (out numbers work : ℕ) → game_refusal g ≡ Ok tt → out ≡ length g → numbers ≡ vertex_count g → work ≡ vertex_count g
    → restriction_refusal g out numbers work ≡ Ok tt
unfolding restriction_refusal
slices_accepted g out numbers work e a b c =
    then_passed _ e ∙ if-false 2 0 (rw (differ_no a, differ_no b, differ_no c) refl)

module _ (g : List ℕ) (good : GoodGame g) where
  -- no offset is above the edge count
  pub most_offset : (v : ℕ) → v ≤ vertex_count g → offset_in g v ≤ edges_in g
  most_offset = offset_within g good.rises good.ends

  targets_end : (v : ℕ) → v < vertex_count g → edges_from g 0 (suc v) ≤ length g
  targets_end v h = omega (arith, good.sized, most_offset (suc v) h)

  pub degree : (v : ℕ) → v < vertex_count g → offset_in g (suc v) ≡ offset_in g v + length (targets_in g v)
  degree v h =
      omega (arith, good.rises v h, length-slice (edges_from g 0 v) (edges_from g 0 (suc v)) g (targets_end v h))

  -- the edges of a vertex one by one, and the words of a column
  pub edges_column : (c v : ℕ) → c < length edge_columns → v < vertex_count g
      → map (edge_column c) (edges_at g v) ≡ edge_words_in g c v
  edges_column c v b h =
      edges_words g c v b (good.rises v h) (most_offset (suc v) h) (omega (arith, good.sized))

  pub edges_many : (c v : ℕ) → c < length edge_columns → v < vertex_count g
      → length (edges_at g v) ≡ length (edge_words_in g c v)
  edges_many c v b h = sym (length-map (edges_at g v) (edge_column c)) ∙ ap length (edges_column c v b h)

  -- what holds of the words from a to b holds of the slice's members
  in_slice : (P : ℕ → Type 0) (d a b : ℕ) → b ≤ length g → a + d ≡ b → ((p : ℕ) → a ≤ p → p < b → P (word g p)) → (t : ℕ) → In t (slice a b g) → P t
  in_slice P zero a b k e all t m = let z : a ≡ b = omega arith in absurd (subst (In t) (slice_empty b g) (subst (λ (i : ℕ). In t (slice i b g)) z m))
  in_slice P (suc d) a b k e all t m =
      ⊎_elim (λ q. subst P (sym q) (all a (omega arith) (omega arith))) (in_slice P d (suc a) b k (omega arith) (λ p h. all p (omega arith)) t)
      (subst (In t) (slice-cons a b g 0 (omega arith) k) m)

  -- edges lead to vertices
  pub target_below : (v : ℕ) → v < vertex_count g → (t : ℕ) → In t (targets_in g v) → t < vertex_count g
  target_below v h =
      let more = good.rises v h in
      let last = most_offset (suc v) h in
      in_slice (λ t. t < vertex_count g) (offset_in g (suc v) - offset_in g v) (edges_from g 0 v) (edges_from g 0 (suc v))
      (targets_end v h) (omega arith)
      (λ p a b.
      let e : p ≡ edge_column_at g 0 + (p - edge_column_at g 0) = omega arith in
      subst (λ (q : ℕ). word g q < vertex_count g) (sym e) (good.leads (p - edge_column_at g 0) (omega arith)))
