-- What holds of a walk of k steps: what it has settled, what it knows, and when it is cut. N is the number of the
-- elements that chains of at most `bound` targets reach. Assumes nothing: this is a statement.
use Rattle.std.specs.Prelude.{◌≡◌, Bool, List, [], ◌⊎◌, ◌↔◌, ℕ, ◌≤◌, ◌<◌, min, length, get_or}
use Rattle.rules.specs.Lists.{In, Distinct, position}
use Rattle.rules.specs.Walk.{walk}
use Rattle.rules.specs.Reach.{Reachable, reached_in}
use Rattle.lists.specs.Shapes.{Falling, Begins}
use Rattle.walks.specs.Sums.{settled, Settled, sum_settled}

module _ {A : Type 0} (same : A → A → Bool) (next : A → List A) (root : A) (bound : ℕ) where
  -- the elements known and the vertices waiting after k steps
  abbrev pub known_after : ℕ → List A
  known_after k = (walk same next root k).known

  abbrev pub waiting_after : ℕ → List ℕ
  waiting_after k = (walk same next root k).waiting

  -- how many elements are reachable
  abbrev pub reachable_count : ℕ
  reachable_count = length (reached_in same next root bound)

  pub record WalkFacts (k : ℕ) : Type 0 where
    -- k vertices are settled, or all if they are fewer
    pub steps : settled (walk same next root k) ≡ min k reachable_count
    -- that number is the count of the settled vertices
    pub counted : sum_settled (λ p. 1) root (walk same next root k) ≡ settled (walk same next root k)
    -- vertex 0 stands for the root, each vertex for a reachable element, and no two for the same
    pub first : (0 < length (known_after k)) × (get_or (known_after k) 0 root ≡ root)
    pub reached : (p : A) → In p (known_after k) → Reachable next root p
    pub distinct : Distinct (known_after k)
    -- for each target of a settled vertex's element a vertex stands
    pub edges : (v : ℕ) → Settled (walk same next root k) v → (q : A) → In q (next (get_or (known_after k) v root))
        → (position same q (known_after k) < length (known_after k)) × (get_or (known_after k) (position same q (known_after k)) root ≡ q)
    -- the waiting vertices are numbers of known elements, the last numbered first, none twice, and a vertex waits or is
    -- settled
    pub falling : Falling (length (known_after k)) (waiting_after k)
    pub either : (v : ℕ) → v < length (known_after k) → Settled (walk same next root k) v ⊎ In v (waiting_after k)
    -- the walk is cut, a vertex still waiting, exactly if k is below N
    pub ended : (waiting_after k ≡ []) ↔ (reachable_count ≤ k)
    pub cut : (0 < length (waiting_after k)) ↔ (k < reachable_count)
    -- a walk that is not cut knows every reachable element, and changes no more
    pub complete : reachable_count ≤ k → (p : A) → Reachable next root p → In p (known_after k)
    pub whole : reachable_count ≤ k → length (known_after k) ≡ reachable_count
    pub stays : reachable_count ≤ k → (j : ℕ) → k ≤ j → walk same next root j ≡ walk same next root k
    -- later steps keep each vertex's number, and no sum over the settled vertices falls
    pub keeps : (j : ℕ) → k ≤ j → Begins (known_after k) (known_after j)
    pub grows : (weight : A → ℕ) (j : ℕ) → k ≤ j → sum_settled weight root (walk same next root k) ≤ sum_settled weight root (walk same next root j)
    -- N is the number of all reachable elements: they are listed, none twice
    pub exactly : (p : A) → In p (reached_in same next root bound) ↔ Reachable next root p
    pub once : Distinct (reached_in same next root bound)
    pub within : reachable_count ≤ bound
