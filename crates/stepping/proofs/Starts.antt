-- The beginning of a walk: the marks and the degrees are cleared, and the root is met. Assumes nothing.
use mathlib.Core.Path.{◌≡◌, refl, sym, ◌∙◌, ap, ap₂, subst, subst₂}
use mathlib.Core.List.{List, [], ◌∷◌}
use mathlib.Core.Logic.{inl}
use Prim.Native.Nat.{ℕ, ◌+◌, ◌-◌, ◌*◌, ◌<◌}
use native.Mathlib.Omega.{arith}
use lib.Dec.{eqb, lit≤}
use lib.ListN.{length}
use Rattle.rules.specs.Lists.{word, In, has, insert}
use Rattle.rules.specs.Walk.{push_new}
use Rattle.lists.proofs.Inserts.{insert_new}
use Rattle.lists.proofs.Equalities.{number_equality}
use Rattle.walks.specs.Sums.{stand_with, sum_settled, sum_below}
use Rattle.walks.proofs.Steps.{Sound, sound_start, walk_start}
use Rattle.work_slice.specs.Regions.{region, Zeroed}
use Rattle.work_slice.proofs.Regions.{rest_region}
use Rattle.work_slice.proofs.Zeros.{zeroed_region, zeroed_other}
use Rattle.pairs.specs.Table.{keys_in, keys_of, Started}
use Rattle.pairs.proofs.Uses.{table_kept, length-keys}
use Rattle.settling.specs.declared.Counters.{Counters}
use Rattle.settling.specs.Stand.{waiting_in, waiting_of, stand_of}
use Rattle.settling.specs.Made.{Ready, Marks, Meeting, Sized}
use Rattle.settling.specs.Good.{edges_due, WalkMade}
use Rattle.settling.proofs.Buffer.{unsettled_in}
use Rattle.settling.proofs.Make.{marks_bounded}

-- ---- the root

no_keys : (keys : List ℕ) → keys_in keys 0 ≡ []
unfolding keys_in
no_keys keys = refl

no_sum : (weight : ℕ → ℕ) (root : ℕ) → sum_settled weight root (stand_with (root ∷ []) (0 ∷ [])) ≡ 0
unfolding sum_settled sum_below has
no_sum weight root = refl

abbrev pub no_counts : Counters
no_counts = record { known = 0; settled = 0; edges = 0; waiting = 0 }

-- the words are started, their marks cleared, and then their degrees
module _ (w w₁ wₘ w₂ : List ℕ) (v e : ℕ) (z : Sized w v e) (s : Started w w₁ v)
    (k : Zeroed w₁ wₘ (7 * v + 0) (7 * v + v)) (k₆ : Zeroed wₘ w₂ (6 * v + 0) (6 * v + v)) (long : length w₂ ≡ length w) where
  same_region : (r : ℕ) → (r ≡ 6 → ⊥) → region r v w₂ ≡ region r v wₘ
  same_region r d = zeroed_other r 6 v wₘ w₂ d k₆

  pub empty_ready : Ready w₂ v e no_counts
  empty_ready =
      record {
        some = z.some;
        most = z.most;
        most-edges = z.most-edges;
        whole = omega (arith, z.whole);
        table = table_kept w₁ w₂ v 0 (λ r h. same_region r (omega arith) ∙ zeroed_other r 7 v w₁ wₘ (omega arith) k) s.table;
        stack = omega arith;
        buffer = omega arith;
      }

  module _ (targets : ℕ → List ℕ) (root : ℕ) where
    first_keys : insert eqb (keys_of w₂ v 0) root ≡ root ∷ []
    first_keys = ap (λ (a : List ℕ). insert eqb a root) (no_keys (region 3 v w₂)) ∙ insert_new number_equality [] root (λ m. m)

    pub start_full : {A : Type 0} → v < length (insert eqb (keys_of w₂ v 0) root) → A
    start_full l = absurd (omega (arith, z.some, ap length first_keys))

    module _ (behind : ℕ → ℕ → ℕ) (w₃ : List ℕ) (u : ℕ) (c : Counters) (p : Meeting w₂ w₃ v no_counts root u c)
        (same : length w₃ ≡ length w₂) where
      keys₃ : keys_of w₃ v c.known ≡ root ∷ []
      keys₃ = p.keys ∙ first_keys

      one : c.known ≡ 1
      one = sym (length-keys w₃ v c.known) ∙ ap length keys₃

      pushed : (a : ℕ) → a ≡ 1 → push_new 0 (a - 0) (waiting_in (region 4 v w₂) 0) ≡ 0 ∷ []
      unfolding push_new waiting_in
      pushed a h = ap (λ (b : ℕ). push_new 0 (b - 0) (waiting_in (region 4 v w₂) 0)) h

      waits₃ : waiting_of w₃ v c.waiting ≡ 0 ∷ []
      waits₃ = p.waits ∙ pushed c.known one

      stands₃ : stand_of w₃ v c ≡ stand_with (root ∷ []) (0 ∷ [])
      stands₃ = ap₂ (λ (a b : List ℕ). stand_with a b) keys₃ waits₃

      pub start_made : WalkMade targets behind root v e 0 w₃ c
      start_made =
          record {
            stands = stands₃ ∙ sym (walk_start eqb targets root);
            good =
                record {
                  ready =
                      record {
                        some = z.some;
                        most = z.most;
                        most-edges = z.most-edges;
                        whole = omega (arith, z.whole);
                        table = p.table;
                        stack = omega (arith, p.balance, p.same_settled);
                        buffer = omega (arith, p.same_edges);
                      };
                  sound = subst₂ (Sound targets root) (sym keys₃) (sym waits₃) (sound_start number_equality targets root);
                  balance = omega (arith, p.balance, p.same_settled);
                  marks =
                      subst (Marks w₃ v) (sym p.same_edges) (marks_bounded w₂ w₃ v 0 p.rest
                      (λ j h.
                      let same = ap (λ (l : List ℕ). word l j) (same_region 7 (omega arith)) in
                      omega (arith, same, zeroed_region 7 v w₁ wₘ k j h)));
                  total = p.same_edges ∙ sym (ap (sum_settled (edges_due targets) root) stands₃ ∙ no_sum (edges_due targets) root);
                  stretches = λ y (h, out). absurd (out (subst (In y) (sym waits₃) (inl (omega (arith, one, length-keys w₃ v c.known)))));
                  unsettled = λ y h out.
                      let same = ap (λ (l : List ℕ). word l y) (rest_region 5 6 v w₂ w₃ p.rest (lit≤ tt)) in
                      unsettled_in w₃ v y (omega (arith, same, zeroed_region 6 v wₘ w₂ k₆ y h));
                };
          }
