-- A pair is met: from what numbering it answers to what the walk's definition says. Assumes nothing.
use mathlib.Core.Path.{◌≡◌, refl, sym, ◌∙◌, ap, subst}
use mathlib.Core.List.{List, ◌∷◌}
use Prim.Native.Nat.{ℕ, suc, ◌+◌, ◌-◌, ◌*◌, ◌≤◌, ◌<◌}
use native.Mathlib.Omega.{arith}
use lib.Dec.{eqb, lit≤, lit<}
use lib.ListN.{length, drop}
use Rattle.player.specs.declared.VertexIndex.{VertexIndex}
use Rattle.rules.specs.Lists.{position}
use Rattle.rules.specs.Walk.{push_new}
use Rattle.work_slice.specs.Regions.{region, put_word}
use Rattle.work_slice.proofs.Regions.{region_same, region_other, rest_put, rest_later, rest_region, length-region}
use Rattle.pairs.specs.declared.Numbered.{Numbered}
use Rattle.pairs.specs.declared.NoRoom.{NoRoom}
use Rattle.std.specs.Prelude.{Result}
use Rattle.std.specs.declared.result.Result.TheVariants.{Ok}
use Rattle.pairs.specs.Table.{keys_of}
use Rattle.pairs.specs.Answers.{Numbers, Numbering}
use Rattle.pairs.proofs.Uses.{keys_kept, table_kept, numbers_by, vertex_place, more_count, room_new, known_new, vertex_new}
use Rattle.settling.specs.declared.Counters.{Counters}
use Rattle.settling.specs.Stand.{waiting_in, waiting_of}
use Rattle.settling.specs.Made.{Meeting}
use Rattle.settling.proofs.Buffer.{waiting_more}
use Rattle.walks.proofs.Pushes.{push_none}

push_one : (n n' : ℕ) (before : List ℕ) → n' ≡ n + 1 → push_new n (n' - n) before ≡ n ∷ before
unfolding push_new
push_one n n' before e =
    let z : n' - n ≡ suc 0 = omega arith in
    let o : n + 0 ≡ n = omega arith in
    rw (z, o)

module _ (w w' : List ℕ) (v t : ℕ) (c : Counters) (r : Result Numbered NoRoom) (p : Numbering w w' v c.known t r) (i : VertexIndex) (n' : ℕ) (e : r ≡ Ok (record { vertex = i; known = n' })) where
  abbrev n : ℕ
  n = c.known

  abbrev m : ℕ
  m = c.waiting

  numbers : Numbers w w' v n t i.0 n'
  numbers = numbers_by w w' v n t r (record { vertex = i; known = n' }) p e

  -- the count stays: the pair was known
  pub met_old : n' ≡ n → Meeting w w' v c t i.0 c
  met_old d = known (subst (Numbers w w' v n t i.0) d numbers)
    where
      known : Numbers w w' v n t i.0 n → Meeting w w' v c t i.0 c
      known a =
          record {
            table = a.table;
            keys = a.keys;
            vertex = vertex_place w w' v n t i.0 n a;
            waits = ap (λ (s : List ℕ). waiting_in s m) (rest_region 4 4 v w w' a.rest (lit≤ tt)) ∙ sym (push_none n (waiting_of w v m));
            balance = refl;
            grows = omega arith;
            same_settled = refl;
            same_edges = refl;
            rest = rest_later 4 5 v w w' a.rest (lit≤ tt);
          }

  -- where the count grows there is room
  pub met_room : (n' ≡ n → ⊥) → n < v
  met_room d = room_new w w' v n t i.0 n' numbers (more_count w w' v n t i.0 n' numbers d)

  -- the count grows: the pair is new, and its number is pushed
  pub met_new : (w'' : List ℕ) → (n' ≡ n → ⊥) → m < v → 8 * v ≤ length w' → w'' ≡ put_word 4 v m i.0 w'
      → Meeting w w'' v c t i.0 (record { known = n'; settled = c.settled; edges = c.edges; waiting = m + 1 })
  met_new w'' d h long put =
      let a = numbers in
      let new = more_count w w' v n t i.0 n' a d in
      let more : n' ≡ n + 1 = known_new w w' v n t i.0 n' a new in
      let g : w'' ≡ put_word 4 v m n w' = put ∙ ap (λ (k : ℕ). put_word 4 v m k w') (vertex_new w w' v n t i.0 n' a new) in
      let kept : (b : ℕ) → b < 4 → region b v w'' ≡ region b v w' = λ b l. ap (region b v) g ∙ region_other b 4 v m n w' h (omega arith) in
      let ks : keys_of w'' v n' ≡ keys_of w' v n' = keys_kept w' w'' v n' kept in
      record {
        table = table_kept w' w'' v n' kept a.table;
        keys = ks ∙ a.keys;
        vertex = subst (λ (l : List ℕ). i.0 ≡ position eqb t l) (sym ks) (vertex_place w w' v n t i.0 n' a);
        waits =
            ap (λ (u : List ℕ). waiting_of u v (m + 1)) g
            ∙ ap (λ (s : List ℕ). waiting_in s (m + 1)) (region_same 4 v m n w' h)
            ∙ waiting_more (region 4 v w') m n (omega (arith, length-region 4 v w' (omega arith)))
            ∙ ap (λ (s : List ℕ). n ∷ waiting_in s m) (rest_region 4 4 v w w' a.rest (lit≤ tt))
            ∙ sym (push_one n n' (waiting_of w v m) more);
        balance = omega arith;
        grows = omega arith;
        same_settled = refl;
        same_edges = refl;
        rest = ap (drop (5 * v)) g ∙ rest_put 5 4 v m n w' h (lit< tt) ∙ rest_later 4 5 v w w' a.rest (lit≤ tt);
      }
