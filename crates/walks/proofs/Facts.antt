-- The facts of a walk of k steps. Assumes nothing beyond the parameters: a list that has every reachable element, and
-- is no longer than the bound.
use mathlib.Core.Path.{◌≡◌, refl, sym, ap, ◌∙◌}
use mathlib.Core.Bool.{Bool}
use mathlib.Core.List.{List, [], ◌∷◌}
use mathlib.Core.Logic.{◌⊎◌, inl, inr}
use Prim.Native.Nat.{ℕ, ◌≤◌, ◌<◌}
use native.Mathlib.Nat.{le_trans}
use native.Mathlib.Decide.{dec_lt}
use native.Mathlib.Omega.{arith}
use lib.ListN.{length, get_or}
use Rattle.rules.specs.Lists.{In}
use Rattle.rules.specs.Walk.{Stand, walk}
use Rattle.rules.specs.Reach.{Reachable, reached_in}
use Rattle.lists.specs.Shapes.{Equality, Begins}
use Rattle.lists.proofs.Members.{in_or, position_below, position_at}
use Rattle.lists.proofs.Shapes.{begins-at, begins_length}
use Rattle.lists.proofs.Equalities.{number_equality}
use Rattle.walks.specs.Sums.{Settled, sum_settled}
use Rattle.walks.specs.Facts.{WalkFacts}
use Rattle.walks.proofs.Steps.{sound, idle_walk, begins_walk, walk_later, walk_start}
use Rattle.walks.proofs.Sums.{sum_walk}
use Rattle.walks.proofs.Count.{count_settled, StepCount, step_count}
use Rattle.walks.proofs.Reached.{reached_distinct, reached_reachable, reached_every, reached_within}

empty : (xs : List ℕ) → length xs ≡ 0 → xs ≡ []
empty [] e = refl
empty (x ∷ xs) e = absurd (omega arith)

-- a vertex is settled or waits
pub settled_or_waits : {A : Type 0} (st : Stand A) (v : ℕ) → v < length st.known → Settled st v ⊎ In v st.waiting
settled_or_waits st v h = go (in_or number_equality v st.waiting)
  where
    go : In v st.waiting ⊎ (¬ In v st.waiting) → Settled st v ⊎ In v st.waiting
    go (inl m) = inr m
    go (inr n) = inl (h, n)

module _ {A : Type 0} {same : A → A → Bool} (eq : Equality same) (next : A → List A) (root : A) where
  pub walk_keeps : (k j : ℕ) → k ≤ j → Begins (walk same next root k).known (walk same next root j).known
  walk_keeps k j l = walk_later same next root k j l (λ st. Begins (walk same next root k).known st.known) (begins_walk eq next root k)

  pub walk_grows : (weight : A → ℕ) (k j : ℕ) → k ≤ j → sum_settled weight root (walk same next root k) ≤ sum_settled weight root (walk same next root j)
  walk_grows weight k j l =
      walk_later same next root k j l (λ st. sum_settled weight root (walk same next root k) ≤ sum_settled weight root st) (sum_walk eq next root weight k)

  -- vertex 0 is the root
  pub walk_first : (k : ℕ) → (0 < length (walk same next root k).known) × (get_or (walk same next root k).known 0 root ≡ root)
  walk_first k = go (walk_keeps 0 k (omega arith))
    where
      first : (walk same next root 0).known ≡ root ∷ []
      first = ap (λ (st : Stand A). st.known) (walk_start same next root)

      go : Begins (walk same next root 0).known (walk same next root k).known → (0 < length (walk same next root k).known) × (get_or (walk same next root k).known 0 root ≡ root)
      go b = (
        omega (arith, begins_length (walk same next root 0).known (walk same next root k).known b, ap length first),
        begins-at (walk same next root 0).known (walk same next root k).known root b 0 (omega (arith, ap length first))
            ∙ ap (λ (l : List A). get_or l 0 root) first,
      )

  module _ (all : List A) (cover : (p : A) → Reachable next root p → In p all) (bound : ℕ) (few : length all ≤ bound) where
    abbrev found : List A
    found = reached_in same next root bound

    stands : (k : ℕ)
        → StepCount eq next root found (reached_distinct eq next root bound) (reached_reachable eq next root bound) (reached_every eq next root all cover bound few) k
        (walk same next root k)
    stands k = step_count eq next root found (reached_distinct eq next root bound) (reached_reachable eq next root bound) (reached_every eq next root all cover bound few) k

    still : (k : ℕ) → 0 < length (walk same next root k).waiting → k < length found
    still k h = go (dec_lt k (length found))
      where
        go : Dec (k < length found) → k < length found
        go (yes l) = l
        go (no n) = absurd (omega (arith, (stands k).ended (omega arith)))

    waits : (k : ℕ) → k < length found → 0 < length (walk same next root k).waiting
    waits k h = go (dec_lt 0 (length (walk same next root k).waiting))
      where
        go : Dec (0 < length (walk same next root k).waiting) → 0 < length (walk same next root k).waiting
        go (yes l) = l
        go (no n) = absurd (omega (arith, (stands k).ends (omega arith)))

    pub walk_facts : (k : ℕ) → WalkFacts same next root bound k
    walk_facts k =
        let s = sound eq next root k in
        let c = stands k in
        let known = (walk same next root k).known in
        record {
          steps = c.steps;
          counted = count_settled eq next root k;
          first = walk_first k;
          reached = s.reached;
          distinct = s.distinct;
          edges = λ v h q i. let m = s.edges v h.0 h.1 q i in (position_below eq q known m, position_at eq q known root m);
          falling = s.falling;
          either = settled_or_waits (walk same next root k);
          ended = (λ e. c.ends (ap length e), λ h. empty (walk same next root k).waiting (c.ended h));
          cut = (still k, waits k);
          complete = c.complete;
          whole = c.whole;
          stays = λ h j l. walk_later same next root k j l (λ st. st ≡ walk same next root k)
              (λ i. idle_walk same next root k i (empty (walk same next root k).waiting (c.ended h)));
          keeps = walk_keeps k;
          grows = λ weight. walk_grows weight k;
          exactly = λ p. (reached_reachable eq next root bound p, reached_every eq next root all cover bound few p);
          once = reached_distinct eq next root bound;
          within = le_trans (reached_within eq next root all cover bound) few;
        }

    -- where nothing waits, the known elements are all, and N is their number
    pub count-is : (k : ℕ) → (walk same next root k).waiting ≡ [] → length (reached_in same next root bound) ≡ length (walk same next root k).known
    count-is k e = let c = walk_facts k in sym (c.whole (c.ended.0 e))
