-- Demands 1 and 3 of a run, said of the answer and of the words that stand in the lent slices afterwards. No definition
-- of a run, of a walk with its stack or of a computed refusal is used: the demands can be held beside document 01 by
-- themselves. Assumes nothing: these are statements.
use Rattle.std.specs.Prelude.{◌≡◌, cond, List, [], ◌∷◌, ◌++◌, map, ◌⊎◌, ◌↔◌, ℕ, zero, suc, ◌+◌, ◌*◌, ◌≤◌, ◌<◌, min, max, length, get_or, ltb}
use Rattle.player.specs.Player.{player_index}
use Rattle.player.specs.declared.Player.{Player}
use Rattle.rules.specs.declared.Answer.{Answer}
use Rattle.rules.specs.declared.Answer.TheVariants.{Done, Cut, Refused}
use Rattle.rules.specs.Lists.{word, sum, zeros, In, Distinct}
use Rattle.rules.specs.declared.Room.{Room}
use Rattle.rules.specs.Words.{Input}
use Rattle.rules.specs.Answers.{Accepted}
use Rattle.rules.specs.System.{state_count}
use Rattle.rules.specs.Depth.{Ranking}
use Rattle.rules.specs.Items.{items}
use Rattle.rules.specs.Pairs.{Pair, initial_pair, owner, priority, targets, transitions_behind}
use Rattle.rules.specs.Reach.{Reachable, reachable_pairs, N}
use Rattle.rules.specs.Game.{vertex_count, edges_in, initial_in, owner_in, priority_in, state_in, item_in, pair_in, pairs_in}
use Rattle.rules.specs.Game.{offset_in, targets_in, counts_in, game_end}
use Rattle.rules.specs.Vertices.{stuck_priority}
use Rattle.rules.specs.Faulty.{FirstFaulty, Faultless}

-- ---- 01's "One step" as a relation: no stack

-- "numbers new targets in order": the known pairs, the targets, the known pairs afterwards
pub data Numbers {A : Type 0} : List A → List A → List A → Type 0 where
  numbered : {known : List A} → Numbers known [] known
  old : {known ts more : List A} {t : A} → In t known → Numbers known ts more → Numbers known (t ∷ ts) more
  new : {known ts more : List A} {t : A} → (¬ In t known) → Numbers (known ++ t ∷ []) ts more → Numbers known (t ∷ ts) more

-- vertex v is known and not settled
abbrev pub Waits : {A : Type 0} → List A → List ℕ → ℕ → Type 0
Waits known settled v = (v < length known) × (¬ In v settled)

module _ {A : Type 0} (next : A → List A) (root : A) where
  -- After k steps: the known pairs by number, and the settled vertices, the latest first. "A step takes the waiting
  -- vertex that was numbered last, settles it"
  pub data After : ℕ → List A → List ℕ → Type 0 where
    start : After zero (root ∷ []) []
    settles : {k : ℕ} {known more : List A} {settled : List ℕ} (v : ℕ) → After k known settled → Waits known settled v
        → ((u : ℕ) → Waits known settled u → u ≤ v) → Numbers known (next (get_or known v root)) more → After (suc k) more (v ∷ settled)
    rests : {k : ℕ} {known : List A} {settled : List ℕ} → After k known settled → ((u : ℕ) → ¬ Waits known settled u) → After (suc k) known settled

-- ---- demand 3: the cut theorem

-- how many of the first n vertices are settled: their owner is 0 or 1
unfoldable pub settled_below : List ℕ → ℕ → ℕ
settled_below g zero = 0
settled_below g (suc v) = cond (ltb (owner_in g v) 2) 1 0 + settled_below g v

-- vertex v of game g stands for the pair p: "The cut theorem now reads its pairs off the game itself" (#105)
abbrev pub Stands : List ℕ → ℕ → Pair → Type 0
Stands g v p = (v < vertex_count g) × (pair_in g v ≡ p)

-- "no two vertices have the same two values", state and item
abbrev pub Apart : List ℕ → Type 0
Apart g = (u v : ℕ) → u < vertex_count g → v < vertex_count g → state_in g u ≡ state_in g v → item_in g u ≡ item_in g v → u ≡ v

-- one edge for each of the pairs, in order, to the vertex that stands for it
abbrev pub Lead : List ℕ → List ℕ → List Pair → Type 0
Lead g [] [] = Unit {0}
Lead g [] (q ∷ qs) = ⊥
Lead g (u ∷ us) [] = ⊥
Lead g (u ∷ us) (q ∷ qs) = Stands g u q × Lead g us qs

-- "A settled vertex without targets gets an edge to itself, and priority 0 if Odd, 1 if Even": the vertex; its owner,
-- priority and edges by the rules; the priority shown and the edges added
abbrev pub Totalised : ℕ → Player → ℕ → List ℕ → ℕ → List ℕ → Type 0
Totalised v o p [] shown added = (shown ≡ stuck_priority o) × (added ≡ v ∷ [])
Totalised v o p (t ∷ ts) shown added = (shown ≡ p) × (added ≡ [])

-- vertex v is shown as the rules have its pair p; each edge with the number of transitions behind it, an added one
-- with 0 (document 02, #102: "Transitions behind an edge")
pub record SettledRow (rank : Ranking) (x : Input) (g : List ℕ) (v : ℕ) (p : Pair) : Type 0 where
  pub ruled : List ℕ
  pub added : List ℕ
  pub owned : owner_in g v ≡ player_index (owner x p)
  pub edges : targets_in g v ≡ ruled ++ added
  pub leads : Lead g ruled (targets x p)
  pub counts : counts_in g v ≡ map (transitions_behind x p) (targets x p) ++ zeros added
  pub total : Totalised v (owner x p) (priority rank x p) ruled (priority_in g v) added

-- a: the answer; g: the game slice's words. The pair of a vertex is the state and the item that g shows of it
pub record CutTheorem (rank : Ranking) (x : Input) (k : ℕ) (a : Answer) (g : List ℕ) : Type 0 where
  -- demand 3: the settled vertices number exactly the smaller of k and N
  pub counted : settled_below g (vertex_count g) ≡ min k (N x)
  -- demand 3: cut exactly when k < N. "Done (steps, vertices, edges), Cut (steps, vertices known, edges)"
  pub answered : let s = settled_below g (vertex_count g) in
      a ≡ cond (ltb k (N x)) (Cut s (vertex_count g) (edges_in g)) (Done s (vertex_count g) (edges_in g))
  -- "Each vertex, waiting ones too", shows a state of the system and an item of the formula
  pub inside : (v : ℕ) → v < vertex_count g → (state_in g v < state_count x.system) × (item_in g v < length (items x))
  -- "Vertex 0 is (initial state, equation 0)"
  pub first : (initial_in g ≡ 0) × Stands g 0 (initial_pair x)
  -- demand 3: distinct reachable pairs, waiting ones too
  pub distinct : Apart g
  pub reached : (v : ℕ) → v < vertex_count g → Reachable (targets x) (initial_pair x) (pair_in g v)
  -- demand 3: right owners, priorities, edges
  pub settled : (v : ℕ) → v < vertex_count g → owner_in g v < 2 → SettledRow rank x g v (pair_in g v)
  pub waiting : (v : ℕ) → v < vertex_count g → (¬ (owner_in g v < 2)) → (owner_in g v ≡ 2) × (priority_in g v ≡ 0) × (targets_in g v ≡ [])
  -- which pairs are known, under which numbers, and which are settled is as 01's steps leave it, in a cut game too
  pub order : List ℕ
  pub walked : After (targets x) (initial_pair x) k (pairs_in g) order
  pub taken : (v : ℕ) → v < vertex_count g → (owner_in g v < 2) ↔ In v order
  -- the words are a game, and nothing else stands in the slice
  pub begins : offset_in g 0 ≡ 0
  pub follows : (v : ℕ) → v < vertex_count g → offset_in g (suc v) ≡ offset_in g v + length (targets_in g v)
  pub ends : (offset_in g (vertex_count g) ≡ edges_in g) × (game_end g ≤ length g)
  pub past : (i : ℕ) → game_end g ≤ i → word g i ≡ 0
  -- demand 3: N is counted from the words alone. It is the number of all reachable pairs, at most states times items
  pub exactly : (p : Pair) → In p (reachable_pairs x) ↔ Reachable (targets x) (initial_pair x) p
  pub once : Distinct (reachable_pairs x)
  pub within : N x ≤ state_count x.system * length (items x)
  -- in a cut game a vertex waits
  pub waits : k < N x → (v : ℕ) × (v < vertex_count g) × (owner_in g v ≡ 2)
  -- else the run ends after exactly N steps, and every reachable pair is a settled vertex
  pub ended : N x ≤ k → a ≡ Done (N x) (vertex_count g) (edges_in g)
  pub complete : N x ≤ k → (p : Pair) → Reachable (targets x) (initial_pair x) p → (v : ℕ) × Stands g v p × (owner_in g v < 2)

-- the cut theorem holds of every run that is not refused; there is only one such answer and game (theorems
-- `answer_once`, `game_once`)
abbrev pub Demand3 : Ranking → Input → ℕ → Answer → List ℕ → Type 0
Demand3 rank x k a g = Accepted a → CutTheorem rank x k a g

-- ---- demand 1: the exact conditions of refusal, and what a refusal leaves

-- the edges of the settled vertices, added self-loops included
unfoldable pub edges_after : Input → List Pair → List ℕ → ℕ
edges_after x known settled = sum (map (λ v. max 1 (length (targets x (get_or known v (initial_pair x))))) settled)

-- "within the first k steps the vertices known exceed V or the edges, added self-loops included, exceed E"
abbrev pub Exceeded : Input → Room → ℕ → Type 0
Exceeded x r k = (j : ℕ) × (known : List Pair) × (settled : List ℕ) × (j ≤ k) × After (targets x) (initial_pair x) j known settled
    × ((r.vertices < length known) ⊎ (r.edges < edges_after x known settled))

-- the slices at entry, the answer, the slices afterwards. Every run is of one of three kinds (theorem `kinds_of_run`)
pub record Demand1 (x : Input) (r : Room) (k : ℕ) (game work : List ℕ) (a : Answer) (game' work' : List ℕ)
    : Type 0 where
  -- "Within a number the smallest place wins"; "Except for 60, a refusal alters nothing"
  pub refused : (n p : ℕ) → FirstFaulty x r (length game) (length work) n p
      → (a ≡ Refused n p) × (game' ≡ game) × (work' ≡ work)
  -- "60 last"; "Game and work are then all zero"
  pub full : Faultless x r (length game) (length work) → Exceeded x r k
      → (a ≡ Refused 60 0) × (game' ≡ zeros game) × (work' ≡ zeros work)
  -- "After Done and Cut the work slice is all zero"
  pub accepted : Faultless x r (length game) (length work) → (¬ Exceeded x r k) → Accepted a × (work' ≡ zeros work)
