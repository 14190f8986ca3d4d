-- An empty table: slots that are all 0. Assumes nothing.
use Rattle.std.proofs.Common.{◌≡◌, ℕ, ◌+◌, ◌*◌, ◌<◌, ◌≤◌, List, ◌++◌, length, drop, replicate, sym, ◌∙◌, subst, not-suc-le-zero, arith, le-ltb}
use Rattle.std.proofs.Math.ListN.{get_or-append}
use Rattle.std.proofs.lemmas.List.{get_or-replicate, length-replicate}
use Rattle.std.proofs.lemmas.Slice.{drop-append-drop}
use Rattle.rules.specs.Lists.{word}
use Rattle.lists.proofs.Tallies.{tally-zero}
use Rattle.pairs.specs.Table.{slot_count, slots_of, held_in, taken, keys_in, Table, Started}
use Rattle.pairs.proofs.Parts.{slot_at}

pub empty : (w : List ℕ) (v : ℕ) → ((i : ℕ) → i < 3 * v → word (slots_of w v) i ≡ 0) → Table w v 0
unfolding keys_in
empty w v h =
    record {
      slots =
          record {
            room = omega arith;
            distinct = tt;
            vertex = λ i l. absurd (not-suc-le-zero l);
            holding = λ p l b. absurd (not-suc-le-zero (subst (λ (x : ℕ). 0 < x) (h (2 * p + 1) (omega arith)) b));
            count = tally-zero (taken (slots_of w v)) 0 (slot_count v) (λ q x y. le-ltb 0 (held_in (slots_of w v) q) (omega (arith, h (2 * q + 1) (omega arith))));
          };
      small = λ i l. absurd (not-suc-le-zero l);
    }

-- slots that were filled with 0
pub begun : (v : ℕ) (w : List ℕ) → 3 * v ≤ length w → Started w (replicate (3 * v) 0 ++ drop (3 * v) w) v
begun v w h =
    record {
      table =
          empty _ v
          (λ i l. sym (slot_at v i (replicate (3 * v) 0 ++ drop (3 * v) w) l)
          ∙ get_or-append (replicate (3 * v) 0) _ 0 i (omega (arith, length-replicate {A = ℕ} (3 * v) 0))
          ∙ get_or-replicate (3 * v) i 0 0 l);
      rest = drop-append-drop (3 * v) w _ (3 * v) (omega arith) (length-replicate {A = ℕ} (3 * v) 0);
    }
