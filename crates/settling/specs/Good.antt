-- What holds of the work words and the counters between the steps of a walk over keys, and what a step and a walk
-- answer. Assumes nothing: these are definitions.
use Rattle.std.specs.Prelude.{◌≡◌, true, false, List, ◌⊎◌, Result, ℕ, ◌+◌, ◌≤◌, ◌<◌, max, eqb, length, get_or, take, drop}
use Rattle.rules.specs.Walk.{Stand, step, walk}
use Rattle.walks.specs.Sums.{Settled, sum_settled}
use Rattle.walks.proofs.Steps.{Sound}
use Rattle.pairs.specs.Table.{keys_of}
use Rattle.settling.specs.declared.Counters.{Counters}
use Rattle.pairs.specs.declared.NoRoom.{NoRoom}
use Rattle.std.specs.declared.result.Result.TheVariants.{Ok, Err}
use Rattle.settling.specs.Stand.{stand_of, waiting_of, edges_of, counts_of, edges_for, counts_for, settled_in, start_in, degree_in}
use Rattle.settling.specs.Made.{Ready, Marks}

-- the edges of a settled vertex: one for each target, or one to itself
abbrev pub edges_due : {A : Type 0} → (A → List A) → A → ℕ
edges_due targets p = max 1 (length (targets p))

-- with the walk in this state the vertices or the edges are too many
abbrev pub Exceeding : (ℕ → List ℕ) → ℕ → (v e : ℕ) → Stand ℕ → Type 0
Exceeding targets root v e st = (v < length st.known) ⊎ (e < sum_settled (edges_due targets) root st)

-- vertex u is settled, and the stretch of the edge buffer that it has: targets and counts
pub record Stretch (targets : ℕ → List ℕ) (behind : ℕ → ℕ → ℕ) (root : ℕ) (w : List ℕ) (v e : ℕ) (c : Counters) (u : ℕ)
    : Type 0 where
  pub settled : settled_in w v u ≡ true
  pub inside : start_in w v u + degree_in w v u ≤ c.edges
  pub row : take (degree_in w v u) (drop (start_in w v u) (edges_of w v e c.edges))
      ≡ edges_for u (keys_of w v c.known) (targets (get_or (keys_of w v c.known) u root))
  pub counts : let key = get_or (keys_of w v c.known) u root in
      take (degree_in w v u) (drop (start_in w v u) (counts_of w v e c.edges)) ≡ counts_for (behind key) (targets key)

pub record Good (targets : ℕ → List ℕ) (behind : ℕ → ℕ → ℕ) (root : ℕ) (w : List ℕ) (v e : ℕ) (c : Counters) : Type 0 where
  pub ready : Ready w v e c
  pub sound : Sound targets root (keys_of w v c.known) (waiting_of w v c.waiting)
  pub balance : c.settled + c.waiting ≡ c.known
  pub marks : Marks w v c.edges
  pub total : c.edges ≡ sum_settled (edges_due targets) root (stand_of w v c)
  pub stretches : (u : ℕ) → Settled (stand_of w v c) u → Stretch targets behind root w v e c u
  pub unsettled : (u : ℕ) → u < v → (¬ Settled (stand_of w v c) u) → settled_in w v u ≡ false

-- the walk stands where the definition does after one step, and all is well again
pub record StepMade (targets : ℕ → List ℕ) (behind : ℕ → ℕ → ℕ) (root : ℕ) (w : List ℕ) (v e : ℕ) (c : Counters)
    (w' : List ℕ) (c' : Counters) : Type 0 where
  pub stands : stand_of w' v c' ≡ step eqb targets root (stand_of w v c)
  pub good : Good targets behind root w' v e c'

abbrev pub StepAnswer : (ℕ → List ℕ) → (ℕ → ℕ → ℕ) → ℕ → List ℕ → ℕ → ℕ → Counters → List ℕ
    → Result Counters NoRoom → Type 0
StepAnswer targets behind root w v e c w' (Ok c') = StepMade targets behind root w v e c w' c'
StepAnswer targets behind root w v e c w' (Err x) = Exceeding targets root v e (step eqb targets root (stand_of w v c))

-- the walk stands where the definition does after k steps
pub record WalkMade (targets : ℕ → List ℕ) (behind : ℕ → ℕ → ℕ) (root v e k : ℕ) (w' : List ℕ) (c' : Counters) : Type 0 where
  pub stands : stand_of w' v c' ≡ walk eqb targets root k
  pub good : Good targets behind root w' v e c'

abbrev pub WalkAnswer : (ℕ → List ℕ) → (ℕ → ℕ → ℕ) → ℕ → ℕ → ℕ → ℕ → List ℕ → Result Counters NoRoom → Type 0
WalkAnswer targets behind root v e k w' (Ok c') = WalkMade targets behind root v e k w' c'
WalkAnswer targets behind root v e k w' (Err x) = Exceeding targets root v e (walk eqb targets root k)
