-- Steps one after another: the loop of the function `walk`. Assumes nothing.
use mathlib.Core.Path.{◌≡◌, refl, sym, ◌∙◌, ap, subst}
use mathlib.Core.List.{List, []}
use mathlib.Core.Bool.{false≢true}
use mathlib.Core.Logic.{inl, inr, ⊎_elim}
use Prim.Native.Nat.{ℕ, zero, suc, ◌+◌, ◌-◌, ◌≤◌, ◌<◌}
use native.Mathlib.Numerals.{add-one}
use native.Mathlib.Decide.{ℕ_discrete}
use native.Mathlib.Omega.{arith}
use Rattle.pairs.proofs.Uses.{length-keys}
use lib.Dec.{eqb}
use lib.ListN.{length}
use Rattle.std.specs.Prelude.{Result, IsErr}
use Rattle.std.specs.declared.result.Result.TheVariants.{Ok, Err}
use Rattle.pairs.specs.declared.NoRoom.{NoRoom}
use Rattle.rules.specs.Walk.{Stand, step, walk}
use Rattle.lists.proofs.Shapes.{begins_length}
use Rattle.lists.proofs.Equalities.{number_equality}
use Rattle.walks.proofs.Steps.{walk_step, idle_walk, step_idle}
use Rattle.walks.proofs.Facts.{walk_keeps, walk_grows}
use Rattle.work_slice.specs.Regions.{region}
use Rattle.settling.specs.declared.Counters.{Counters}
use Rattle.settling.specs.Stand.{waiting_in, waiting_of, stand_of}
use Rattle.settling.specs.Good.{edges_due, Exceeding, Good, StepMade, WalkMade, WalkAnswer}
use Rattle.settling.proofs.Buffer.{none_waits}
use Rattle.stepping.specs.Answers.{TriedAnswer}

-- too many after fewer steps are too many after more
pub exceeding_later : (targets : ℕ → List ℕ) (root v e i k : ℕ) → i ≤ k → Exceeding targets root v e (walk eqb targets root i) → Exceeding targets root v e (walk eqb targets root k)
exceeding_later targets root v e i k h f =
    ⊎_elim
    (λ l. inl (omega (arith, begins_length (walk eqb targets root i).known (walk eqb targets root k).known (walk_keeps number_equality targets root i k h))))
    (λ l. inr (omega (arith, walk_grows number_equality targets root (edges_due targets) i k h)))
    f

-- i steps are done
pub record Walking (targets : ℕ → List ℕ) (behind : ℕ → ℕ → ℕ) (root v e k : ℕ) (w : List ℕ) (c : Counters) (i : ℕ)
    : Type 0 where
  pub until : i ≤ k
  pub made : WalkMade targets behind root v e i w c

module _ (targets : ℕ → List ℕ) (behind : ℕ → ℕ → ℕ) (root v e k : ℕ) where
  module _ (w : List ℕ) (c : Counters) (i : ℕ) (s : Walking targets behind root v e k w c i) where
    one_more : step eqb targets root (stand_of w v c) ≡ walk eqb targets root (i + 1)
    one_more = ap (step eqb targets root) s.made.stands ∙ sym (walk_step eqb targets root i) ∙ ap (walk eqb targets root) (sym (add-one i))

    pub walking_on : (w' : List ℕ) (c' : Counters) → i < k → StepMade targets behind root w v e c w' c'
        → Walking targets behind root v e k w' c' (i + 1)
    walking_on w' c' h m =
        record { until = omega arith; made = record { stands = m.stands ∙ one_more; good = m.good } }

    pub walking_many : i < k → Exceeding targets root v e (step eqb targets root (stand_of w v c)) → Exceeding targets root v e (walk eqb targets root k)
    walking_many h f = exceeding_later targets root v e (i + 1) k (omega arith) (subst (Exceeding targets root v e) one_more f)

    -- where none waits later steps change nothing
    pub walking_idle : c.waiting ≡ 0 → WalkMade targets behind root v e k w c
    walking_idle h =
        let z : i + (k - i) ≡ k = omega (arith, s.until) in
        let n : (walk eqb targets root i).waiting ≡ [] = ap (λ (st : Stand ℕ). st.waiting) (sym s.made.stands) ∙ none_waits (region 4 v w) c.waiting h in
        record {
          stands = s.made.stands ∙ sym (idle_walk eqb targets root i (k - i) n) ∙ ap (walk eqb targets root) z;
          good = s.made.good;
        }

-- where a walk answers that there is no room
pub walk_failed : (targets : ℕ → List ℕ) (behind : ℕ → ℕ → ℕ) (root v e k : ℕ) (w : List ℕ) (r : Result Counters NoRoom)
    → IsErr r → Exceeding targets root v e (walk eqb targets root k) → WalkAnswer targets behind root v e k w r
walk_failed targets behind root v e k w (Ok c) h f = absurd (false≢true h)
walk_failed targets behind root v e k w (Err x₀) h f = f

-- ---- a step in place

nothing_waits : (stack : List ℕ) (n : ℕ) → waiting_in stack n ≡ [] → n ≡ 0
unfolding waiting_in
nothing_waits stack zero h = refl
nothing_waits stack (suc n) h = absurd (omega (arith, ap length h))

-- a step after which none waits, where none did
pub still_none : (targets : ℕ → List ℕ) (behind : ℕ → ℕ → ℕ) (root v e : ℕ) (w : List ℕ) (c : Counters) (w' : List ℕ)
    (c' : Counters) → StepMade targets behind root w v e c w' c' → c.waiting ≡ 0 → c'.waiting ≡ 0
still_none targets behind root v e w c w' c' m h =
    let none : waiting_of w v c.waiting ≡ [] = none_waits (region 4 v w) c.waiting h in
    nothing_waits (region 4 v w') c'.waiting
    (ap (λ (st : Stand ℕ). st.waiting) (m.stands ∙ step_idle eqb targets root (stand_of w v c) none) ∙ none)

-- too much is a step only of a vertex that waits
pub some_waits : (targets : ℕ → List ℕ) (behind : ℕ → ℕ → ℕ) (root v e : ℕ) (w : List ℕ) (c : Counters)
    → Good targets behind root w v e c → Exceeding targets root v e (step eqb targets root (stand_of w v c)) → 0 < c.waiting
some_waits targets behind root v e w c g f = go (ℕ_discrete c.waiting 0)
  where
    fits : Exceeding targets root v e (stand_of w v c) → ⊥
    fits (inl l) = omega (arith, length-keys w v c.known, g.ready.table.slots.room)
    fits (inr l) = omega (arith, g.total, g.ready.buffer)

    go : Dec (c.waiting ≡ 0) → 0 < c.waiting
    go (yes h) =
        let idle = step_idle eqb targets root (stand_of w v c) (none_waits (region 4 v w) c.waiting h) in
        absurd (fits (subst (Exceeding targets root v e) idle f))
    go (no h) = omega arith

pub tried_failed : (targets : ℕ → List ℕ) (behind : ℕ → ℕ → ℕ) (root v e : ℕ) (w : List ℕ) (c : Counters) (w' : List ℕ)
    (c' : Counters) (r : Result Unit NoRoom) → IsErr r → Good targets behind root w v e c → c' ≡ c
    → Exceeding targets root v e (step eqb targets root (stand_of w v c)) → TriedAnswer targets behind root w v e c w' c' r
tried_failed targets behind root v e w c w' c' (Ok x) h g z f = absurd (false≢true h)
tried_failed targets behind root v e w c w' c' (Err x) h g z f = (z, some_waits targets behind root v e w c g f, f)
