-- How many vertices are settled after k steps, against any list of all reachable elements in which no two are alike.
-- Assumes nothing beyond the parameters.
use mathlib.Core.Path.{◌≡◌, refl, sym, subst}
use mathlib.Core.Bool.{Bool}
use mathlib.Core.List.{List, [], ◌∷◌}
use Prim.Native.Nat.{ℕ, zero, suc, ◌-◌, ◌≤◌, ◌<◌, min}
use native.Mathlib.Omega.{arith}
use lib.ListN.{length}
use Rattle.rules.specs.Lists.{In, has, Distinct}
use Rattle.rules.specs.Walk.{Stand, step_from, step, walk}
use Rattle.rules.specs.Reach.{Reachable}
use Rattle.lists.specs.Shapes.{Equality}
use Rattle.lists.proofs.Members.{no_more}
use Rattle.lists.proofs.Shapes.{falling_length}
use Rattle.walks.specs.Sums.{stand_with, settled, sum_below, sum_settled}
use Rattle.walks.proofs.Steps.{Sound, sound, settled_settle, all_known, walk_start, walk_step}
use Rattle.walks.proofs.Sums.{sum_settle}

module _ {A : Type 0} {same : A → A → Bool} (eq : Equality same) (next : A → List A) (root : A) where
  -- one for each settled vertex
  abbrev count : Stand A → ℕ
  count st = sum_settled (λ p. 1) root st

  -- what a step does to the number of settled vertices
  record Counted (known : List A) (waiting : List ℕ) (st : Stand A) : Type 0 where
    one_more : 0 < length waiting → settled st ≡ suc (length known - length waiting)
    idle : length waiting ≡ 0 → st ≡ stand_with known waiting
    counts : count (stand_with known waiting) ≡ length known - length waiting → count st ≡ settled st

  counted-from : (known : List A) (waiting : List ℕ) → Sound next root known waiting → Counted known waiting (step_from same next root known waiting)
  unfolding step_from settled
  counted-from known [] s = record { one_more = λ h. absurd (omega arith); idle = λ e. refl; counts = λ e. e }
  counted-from known (v ∷ rest) s =
      record {
        one_more = λ h. one;
        idle = λ e. absurd (omega arith);
        counts = λ e. omega (arith, sum_settle eq next root (λ p. 1) known v rest s, one);
      }
    where
      one : settled (step_from same next root known (v ∷ rest)) ≡ suc (length known - suc (length rest))
      one = settled_settle eq next root known v rest (falling_length (length known) (v ∷ rest) s.falling)

  counted : (st : Stand A) → Sound next root st.known st.waiting → Counted st.known st.waiting (step same next root st)
  unfolding step
  counted st s = counted-from st.known st.waiting s

  start_counted : count (stand_with (root ∷ []) (0 ∷ [])) ≡ settled (stand_with (root ∷ []) (0 ∷ []))
  unfolding settled sum_settled sum_below has
  start_counted = refl

  -- the number of settled vertices is the count of them
  pub count_settled : (k : ℕ) → count (walk same next root k) ≡ settled (walk same next root k)
  unfolding settled
  count_settled zero = subst (λ (st : Stand A). count st ≡ settled st) (sym (walk_start same next root)) start_counted
  count_settled (suc k) =
      subst (λ (st : Stand A). count st ≡ settled st) (sym (walk_step same next root k))
      ((counted (walk same next root k) (sound eq next root k)).counts (count_settled k))

  record Progress (k : ℕ) (st : Stand A) : Type 0 where
    at_most : settled st ≤ k
    exactly : 0 < length st.waiting → settled st ≡ k

  start_progress : Progress 0 (stand_with (root ∷ []) (0 ∷ []))
  unfolding settled
  start_progress = record { at_most = omega arith; exactly = λ h. omega arith }

  progress_step : (k : ℕ) (st : Stand A) → Progress k st → Counted st.known st.waiting (step same next root st) → Progress (suc k) (step same next root st)
  unfolding settled
  progress_step k st = go (length st.waiting) refl
    where
      go : (n : ℕ) → length st.waiting ≡ n → Progress k st → Counted st.known st.waiting (step same next root st) → Progress (suc k) (step same next root st)
      go zero e p c =
          let few = p.at_most in
          subst (Progress (suc k)) (sym (c.idle e)) (record { at_most = omega arith; exactly = λ h. absurd (omega arith) })
      go (suc n) e p c =
          let one = c.one_more (omega arith) in
          let now = p.exactly (omega arith) in
          record { at_most = omega arith; exactly = λ h. omega arith }

  progress : (k : ℕ) → Progress k (walk same next root k)
  progress zero = subst (Progress 0) (sym (walk_start same next root)) start_progress
  progress (suc k) =
      subst (Progress (suc k)) (sym (walk_step same next root k))
      (progress_step k (walk same next root k) (progress k) (counted (walk same next root k) (sound eq next root k)))

  -- ---- against a list of all reachable elements, none twice
  module _ (all : List A) (once : Distinct all) (only : (p : A) → In p all → Reachable next root p) (every : (p : A) → Reachable next root p → In p all) where
    -- where the walk stands after k steps, in numbers
    pub record StepCount (k : ℕ) (st : Stand A) : Type 0 where
      pub steps : settled st ≡ min k (length all)
      pub ends : length st.waiting ≡ 0 → length all ≤ k
      pub ended : length all ≤ k → length st.waiting ≡ 0
      pub whole : length all ≤ k → length st.known ≡ length all
      pub complete : length all ≤ k → (p : A) → Reachable next root p → In p st.known

    step_count_on : (k : ℕ) (known : List A) (waiting : List ℕ) → Sound next root known waiting → Progress k (stand_with known waiting) → StepCount k (stand_with known waiting)
    unfolding settled
    step_count_on k known [] s p =
        let least = no_more known all s.distinct (λ x m. every x (s.reached x m)) in
        let most = no_more all known once (λ x m. all_known eq next root known s x (only x m)) in
        record {
          steps = omega (arith, p.at_most);
          ends = λ h. omega (arith, p.at_most);
          ended = λ h. refl;
          whole = λ h. omega arith;
          complete = λ h. all_known eq next root known s;
        }
    step_count_on k known (v ∷ rest) s p =
        let least = no_more known all s.distinct (λ x m. every x (s.reached x m)) in
        let room = falling_length (length known) (v ∷ rest) s.falling in
        let now = p.exactly (omega arith) in
        record {
          steps = omega arith;
          ends = λ h. absurd (omega arith);
          ended = λ h. absurd (omega arith);
          whole = λ h. absurd (omega arith);
          complete = λ h. absurd (omega arith);
        }

    pub step_count : (k : ℕ) → StepCount k (walk same next root k)
    step_count k = step_count_on k (walk same next root k).known (walk same next root k).waiting (sound eq next root k) (progress k)
