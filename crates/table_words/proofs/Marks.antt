-- The first nodes of the row's trees, as a walk from tree to tree marks them. Assumes nothing.
use Prim.Native.Nat.{ℕ, ◌≤◌, ◌<◌}
use native.Mathlib.Omega.{arith}
use native.Mathlib.Decide.{dec_lt, ℕ_discrete}
use mathlib.Core.Path.{◌≡◌, refl, sym, ◌∙◌}
use mathlib.Core.Bool.{Bool, true, false}
use mathlib.Core.List.{List}
use lib.ListN.{length, get_or, set}
use lib.Seq.{get_or-set_same, get_or-set_other}
use borrow.Author.Tests.{eq-eqb, ne_eqb}
use Rattle.rules.specs.Table.{on_row}
use Rattle.tables.specs.Ends.{end_of, on_row_from}
use Rattle.tables.proofs.Ends.{row-start, row_done, row_step, end_number_past}
use Rattle.table_words.specs.Tables.{Firsts}

-- the walk is at node u: what is marked before u is right, and nothing is marked from u on, where the rest of the row
-- decides
abbrev pub FirstsTo : (ℕ → ℕ) → ℕ → ℕ → List Bool → Type 0
FirstsTo c n u fs = (v : ℕ) → v ≤ n → (v < u → get_or fs v false ≡ on_row c n v) × (u ≤ v → (get_or fs v false ≡ false) × (on_row c n v ≡ on_row_from c n u v))

module _ (c : ℕ → ℕ) (n : ℕ) where
  pub firsts_start : (fs : List Bool) → ((v : ℕ) → v ≤ n → get_or fs v false ≡ false) → FirstsTo c n 0 fs
  firsts_start fs blank v l = ((λ h. absurd (omega arith)), λ h. (blank v l, row-start c n v))

  one_more : (u : ℕ) (fs : List Bool) → u ≤ n → u < length fs → FirstsTo c n u fs → FirstsTo c n (end_of c n u) (set fs u true)
  one_more u fs i room known v l = (before (ℕ_discrete v u) (dec_lt v u), after)
    where
      before : Dec (v ≡ u) → Dec (v < u) → v < end_of c n u → get_or (set fs u true) v false ≡ on_row c n v
      before (yes e) d h =
          let (a, b) = (known u i).1 (omega arith) in
          rw e (get_or-set_same fs u true false room ∙ sym (b ∙ row_done c n u u (omega arith) ∙ eq-eqb u u refl))
      before (no e) (yes d) h = get_or-set_other fs u v true false e ∙ (known v l).0 d
      before (no e) (no d) h =
          let (a, b) = (known v l).1 (omega arith) in
          get_or-set_other fs u v true false e ∙ a
          ∙ sym (b ∙ row_step c n u v (omega arith) l ∙ row_done c n (end_of c n u) v (omega arith) ∙ ne_eqb (end_of c n u) v (λ q. omega arith))

      after : end_of c n u ≤ v → (get_or (set fs u true) v false ≡ false) × (on_row c n v ≡ on_row_from c n (end_of c n u) v)
      after h =
          let p = end_number_past c n u i in
          let (a, b) = (known v l).1 (omega arith) in
          (get_or-set_other fs u v true false (λ q. omega arith) ∙ a, b ∙ row_step c n u v (omega arith) l)

  -- one more tree, which ends at e
  pub firsts_more : (u e : ℕ) (fs : List Bool) → e ≡ end_of c n u → u ≤ n → u < length fs → FirstsTo c n u fs → FirstsTo c n e (set fs u true)
  firsts_more u e fs q i room known = rw q (one_more u fs i room known)

  pub firsts_all : (u : ℕ) (fs : List Bool) → n < u → FirstsTo c n u fs → Firsts c n fs
  firsts_all u fs h known v l = (known v l).0 (omega arith)
