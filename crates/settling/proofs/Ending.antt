-- The end of a step: the edges of the vertex are counted, after one to itself where there are none. Assumes nothing.
use mathlib.Core.Path.{◌≡◌, refl, ◌∙◌, ap, ap₂}
use mathlib.Core.List.{List}
use Prim.Native.Nat.{ℕ, suc, ◌+◌, ◌-◌, ◌<◌}
use native.Mathlib.Numerals.{add-one}
use native.Mathlib.Omega.{arith}
use lib.Dec.{lit<}
use lib.ListN.{length, set}
use Rattle.work_slice.specs.Regions.{region, put_word}
use Rattle.work_slice.proofs.Regions.{region_same, region_other, length-put_word}
use Rattle.pairs.proofs.Uses.{keys_kept, table_kept}
use Rattle.settling.specs.declared.Counters.{Counters}
use Rattle.settling.specs.Stand.{edges_of, counts_of, put_edge}
use Rattle.settling.specs.Made.{Ready, Closing}
use Rattle.settling.proofs.Buffer.{region_edge, edges_more, counts_more, edges_put, counts_put}
use Rattle.settling.proofs.Buffer.{length-put_edge, ready_on}

module _ (v e : ℕ) (w w₁ w₂ : List ℕ) (c : Counters) (x start : ℕ) (r : Ready w v e c) (below : x < v) (left : c.settled + c.waiting < c.known) where
  -- no edge yet: one to itself
  pub close_loop : c.edges ≡ start → c.edges < e → w₁ ≡ put_edge v e c.edges x 0 w → w₂ ≡ put_word 6 v x 2 w₁
      → Closing w v e x start c w₂ (record { known = c.known; settled = c.settled + 1; edges = c.edges + 1; waiting = c.waiting })
  close_loop none room g₁ g₂ =
      let early : (a : ℕ) → a < 8 → region a v w₁ ≡ region a v w =
      λ a b. ap (region a v) g₁ ∙ region_edge a v e c.edges x 0 w b room in
      let kept : (a : ℕ) → a < 6 → region a v w₂ ≡ region a v w = λ a b. ap (region a v) g₂ ∙ region_other a 6 v x 2 w₁ below (omega arith) ∙ early a (omega arith) in
      let two : 2 ≡ suc (c.edges + 1 - start) = omega arith in
      record {
        ready =
            ready_on v e w w₂ c _ r
            (ap length g₂ ∙ length-put_word 6 v x 2 w₁ ∙ ap length g₁ ∙ length-put_edge v e c.edges x 0 w)
            (table_kept w w₂ v c.known (λ a b. kept a (omega arith)) r.table) (omega arith) (omega arith);
        same_known = refl;
        same_waiting = refl;
        one-settled = add-one c.settled;
        keys = keys_kept w w₂ v c.known (λ a b. kept a (omega arith));
        waits = kept 4 (lit< tt);
        starts = kept 5 (lit< tt);
        degrees = ap (region 6 v) g₂ ∙ region_same 6 v x 2 w₁ below ∙ ap₂ (λ (l : List ℕ) (y : ℕ). set l x y) (early 6 (lit< tt)) two;
        marks = ap (region 7 v) g₂ ∙ region_other 7 6 v x 2 w₁ below (omega arith) ∙ early 7 (lit< tt);
        looped = λ y. (
          add-one c.edges,
          ap (λ (u : List ℕ). edges_of u v e (c.edges + 1)) g₂
              ∙ edges_put 6 v e x 2 (c.edges + 1) w₁ (lit< tt) below (omega arith)
              ∙ ap (λ (u : List ℕ). edges_of u v e (c.edges + 1)) g₁
              ∙ edges_more v e c.edges x 0 w room (omega (arith, r.whole)),
          ap (λ (u : List ℕ). counts_of u v e (c.edges + 1)) g₂
              ∙ counts_put 6 v e x 2 (c.edges + 1) w₁ (lit< tt) below (omega arith)
              ∙ ap (λ (u : List ℕ). counts_of u v e (c.edges + 1)) g₁
              ∙ counts_more v e c.edges x 0 w room (omega (arith, r.whole)),
        );
        others = λ d. absurd (d none);
      }

  pub close_others : (c.edges ≡ start → ⊥) → w₁ ≡ put_word 6 v x (c.edges - start + 1) w
      → Closing w v e x start c w₁ (record { known = c.known; settled = c.settled + 1; edges = c.edges; waiting = c.waiting })
  close_others some g =
      let kept : (a : ℕ) → (a ≡ 6 → ⊥) → region a v w₁ ≡ region a v w = λ a b. ap (region a v) g ∙ region_other a 6 v x (c.edges - start + 1) w below b in
      let first : (a : ℕ) → a < 4 → region a v w₁ ≡ region a v w = λ a b. kept a (omega arith) in
      record {
        ready =
            ready_on v e w w₁ c _ r (ap length g ∙ length-put_word 6 v x (c.edges - start + 1) w)
            (table_kept w w₁ v c.known first r.table) (omega arith) r.buffer;
        same_known = refl;
        same_waiting = refl;
        one-settled = add-one c.settled;
        keys = keys_kept w w₁ v c.known first;
        waits = kept 4 (omega arith);
        starts = kept 5 (omega arith);
        degrees = ap (region 6 v) g ∙ region_same 6 v x (c.edges - start + 1) w below ∙ ap (set (region 6 v w) x) (add-one (c.edges - start));
        marks = kept 7 (omega arith);
        looped = λ y. absurd (some y);
        others = λ d. (
          refl,
          ap (λ (u : List ℕ). edges_of u v e c.edges) g
              ∙ edges_put 6 v e x (c.edges - start + 1) c.edges w (lit< tt) below r.buffer,
          ap (λ (u : List ℕ). counts_of u v e c.edges) g
              ∙ counts_put 6 v e x (c.edges - start + 1) c.edges w (lit< tt) below r.buffer,
        );
      }
