-- The refusals 52 and 53 of a game as a program finds them, by the sizes that it has read. Assumes nothing.
use Prim.Native.Nat.{ℕ, ◌+◌, ◌*◌}
use native.Mathlib.Omega.{arith}
use mathlib.Core.Path.{◌≡◌, refl, sym, ap, ap₂, ◌∙◌, subst}
use mathlib.Core.List.{List}
use lib.ListN.{length}
use mathlib.Core.Bool.{not}
use lib.Dec.{eqb, ltb, leb}
use Rattle.rules.specs.Answers.{Check}
use Rattle.std.specs.declared.result.Result.TheVariants.{Ok}
use Rattle.rules.specs.Answers.{fault}
use Rattle.rules.specs.Lists.{word}
use Rattle.rules.specs.Answers.{fault_if, and_then}
use Rattle.rules.specs.Game.{vertex_columns, vertex_count, edges_in, initial_in}
use Rattle.rules.specs.Refusal.{differ, fault_from, lower_fault, too_large}
use Rattle.rules.specs.GameRefusal.{falls, refusal52, refusal53}
use Rattle.tables.proofs.Faults.{then_fault, then_passed, then_same}
use Rattle.parity_game.proofs.Pools.{in_order_lem, if_before, if_past, from_before, from_past, then_before}

-- ---- 52 and 53 in the order of the places, by the counts that were read

module _ (g : List ℕ) (n m : ℕ) (en : n ≡ vertex_count g) (em : m ≡ edges_in g) where
  -- the first offset, and the first word of the edges
  abbrev first : ℕ
  first = 3 + length vertex_columns * n

  abbrev edges : ℕ
  edges = 4 + (length vertex_columns + 1) * n

  offsets_checked : refusal52 g
      ≡ and_then (fault_if 52 first (differ (word g first) 0))
      (and_then (fault_from 52 (first + 1) (first + n + 1) (falls g))
      (fault_if 52 (first + n) (differ (word g (first + n)) m)))
  unfolding refusal52
  offsets_checked =
      let a : 1 + first ≡ first + 1 = omega arith in
      let b : 1 + first + n ≡ first + n + 1 = omega arith in
      let p : first + 0 ≡ first = omega arith in
      let begin : Check = fault_if 52 first (differ (word g first) 0) in
      let rising : Check = fault_from 52 (first + 1) (first + n + 1) (falls g) in
      let last : Check = fault_if 52 (first + n) (differ (word g (first + n)) m) in
      let later = in_order_lem (first + n) rising last (from_past (first + n) 52 _ _ (falls g) (omega arith))
      (if_before (first + n) 52 _ _ (omega arith)) in
      rw (← en, ← em, b, a, p)
      (ap (lower_fault begin) later
      ∙ in_order_lem first begin (and_then rising last) (if_past first 52 _ _ (omega arith))
      (then_before first rising last (from_before first 52 _ _ (falls g) (omega arith))
      (if_before first 52 _ _ (omega arith))))

  owner_small : fault_from 53 (3 + 0 * n) (3 + 1 * n) (λ w. ltb 1 (word g w))
      ≡ fault_from 53 (3 + 0 * n) (3 + 1 * n) (too_large g 2)
  unfolding too_large
  owner_small = refl

  vertices_checked : refusal53 g
      ≡ and_then (fault_if 53 2 (leb n (initial_in g)))
      (and_then (fault_from 53 (3 + 0 * n) (3 + 1 * n) (too_large g 2))
      (fault_from 53 (edges + 0 * m) (edges + 1 * m) (too_large g n)))
  unfolding refusal53
  vertices_checked =
      let begin : Check = fault_if 53 2 (leb n (initial_in g)) in
      let owners : Check = fault_from 53 (3 + 0 * n) (3 + 1 * n) (too_large g 2) in
      let targets : Check = fault_from 53 (edges + 0 * m) (edges + 1 * m) (too_large g n) in
      let later = in_order_lem (3 + n) owners targets (from_past (3 + n) 53 _ _ (too_large g 2) (omega arith)) (from_before (3 + n) 53 _ _ (too_large g n) (omega arith)) in
      rw (← en, ← em, owner_small)
      (ap (lower_fault begin) later
      ∙ in_order_lem 2 begin (and_then owners targets) (if_past 2 53 _ _ (omega arith))
      (then_before 2 owners targets (from_before 2 53 _ _ (too_large g 2) (omega arith)) (from_before 2 53 _ _ (too_large g n) (omega arith))))

  -- the answers of the program, one law for each check that it makes, by the place of the first offset

  module _ (f : ℕ) (ef : f ≡ 3 + length vertex_columns * n) where
    read : refusal52 g
        ≡ and_then (fault_if 52 f (differ (word g f) 0))
        (and_then (fault_from 52 (f + 1) (f + n + 1) (falls g)) (fault_if 52 (f + n) (differ (word g (f + n)) m)))
    read =
        subst
        (λ (p : ℕ). refusal52 g
        ≡ and_then (fault_if 52 p (differ (word g p) 0))
        (and_then (fault_from 52 (p + 1) (p + n + 1) (falls g)) (fault_if 52 (p + n) (differ (word g (p + n)) m))))
        (sym ef) offsets_checked

    module _ {begin : Check} {w : ℕ} (ew : w ≡ word g f) (eb : begin ≡ fault_if 52 f (not (eqb w 0))) where
      begun : refusal52 g
          ≡ and_then begin
          (and_then (fault_from 52 (f + 1) (f + n + 1) (falls g)) (fault_if 52 (f + n) (differ (word g (f + n)) m)))
      unfolding differ
      begun = read ∙ then_same _ (ap (λ (v : ℕ). fault_if 52 f (not (eqb v 0))) (sym ew) ∙ sym eb)

      pub first_offset : {k p : ℕ} → begin ≡ fault k p → refusal52 g ≡ fault k p
      first_offset e = begun ∙ then_fault _ e

      pub offset-falls : {rising : Check} {k p : ℕ} → begin ≡ Ok tt
          → rising ≡ fault_from 52 (f + 1) (f + n + 1) (falls g) → rising ≡ fault k p → refusal52 g ≡ fault k p
      offset-falls h r e = begun ∙ then_passed _ h ∙ then_fault _ (sym r ∙ e)

      pub last_offset : {rising last : Check} {v : ℕ} → begin ≡ Ok tt
          → rising ≡ fault_from 52 (f + 1) (f + n + 1) (falls g) → rising ≡ Ok tt → v ≡ word g (f + n)
          → last ≡ fault_if 52 (f + n) (not (eqb v m)) → last ≡ refusal52 g
      unfolding differ
      last_offset h r e ev l =
          l ∙ ap (λ (x : ℕ). fault_if 52 (f + n) (not (eqb x m))) ev
          ∙ sym (begun ∙ then_passed _ h ∙ then_passed _ (sym r ∙ e))

  module _ {begin : Check} {w : ℕ} (ew : w ≡ initial_in g) (eb : begin ≡ fault_if 53 2 (leb n w)) where
    initial_checked : refusal53 g
        ≡ and_then begin
        (and_then (fault_from 53 (3 + 0 * n) (3 + 1 * n) (too_large g 2))
        (fault_from 53 (edges + 0 * m) (edges + 1 * m) (too_large g n)))
    initial_checked = vertices_checked ∙ then_same _ (ap (λ (v : ℕ). fault_if 53 2 (leb n v)) (sym ew) ∙ sym eb)

    pub wrong-initial : {k p : ℕ} → begin ≡ fault k p → refusal53 g ≡ fault k p
    wrong-initial e = initial_checked ∙ then_fault _ e

    -- by the places where the owners and the targets begin and end
    module _ (a b : ℕ) (ea : a ≡ 3 + 0 * n) (ee : b ≡ 3 + 1 * n) where
      owners_read : fault_from 53 (3 + 0 * n) (3 + 1 * n) (too_large g 2) ≡ fault_from 53 a b (too_large g 2)
      owners_read = ap₂ (λ (p q : ℕ). fault_from 53 p q (too_large g 2)) (sym ea) (sym ee)

      pub wrong_owner : {k p : ℕ} → begin ≡ Ok tt → fault_from 53 a b (too_large g 2) ≡ fault k p
          → refusal53 g ≡ fault k p
      wrong_owner h e = initial_checked ∙ then_passed _ h ∙ then_fault _ (owners_read ∙ e)

      pub right_owners : (p q : ℕ) → p ≡ 4 + (length vertex_columns + 1) * n + 0 * m
          → q ≡ 4 + (length vertex_columns + 1) * n + 1 * m
          → begin ≡ Ok tt → fault_from 53 a b (too_large g 2) ≡ Ok tt → refusal53 g ≡ fault_from 53 p q (too_large g n)
      right_owners p q ep eq h e =
          initial_checked ∙ then_passed _ h ∙ then_passed _ (owners_read ∙ e)
          ∙ ap₂ (λ (u v : ℕ). fault_from 53 u v (too_large g n)) (sym ep) (sym eq)
