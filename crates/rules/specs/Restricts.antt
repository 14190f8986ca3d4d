-- What users of the restriction rely on, said of the words that stand in the lent slices afterwards. Assumes nothing:
-- these are statements.
use Rattle.std.specs.Prelude.{◌≡◌, List, [], ◌∷◌, map, ◌↔◌, ℕ, zero, suc, ◌+◌, ◌≤◌, ◌<◌, length, get_or}
use Rattle.rules.specs.declared.Answer.{Answer}
use Rattle.rules.specs.declared.Answer.TheVariants.{Done, Refused}
use Rattle.rules.specs.Lists.{word, zeros, In, Distinct}
use Rattle.rules.specs.Answers.{Accepted}
use Rattle.rules.specs.Reach.{Reachable}
use Rattle.rules.specs.Game.{vertex_count, edges_in, initial_in, owner_in, priority_in, state_in, item_in, offset_in}
use Rattle.rules.specs.Game.{targets_in, counts_in, game_end}
use Rattle.rules.specs.FaultyGame.{FaultyRestriction, FirstFaultyRestriction}
use Rattle.rules.specs.Demands.{Numbers, Apart}

-- "breadth first, targets in order; the first met gets the next number" as a relation: the vertices met once the first
-- i of them have been gone through, the least number first
pub data Searched (g : List ℕ) : ℕ → List ℕ → Type 0 where
  begun : Searched g zero (initial_in g ∷ [])
  gone : {i : ℕ} {met more : List ℕ} → Searched g i met → i < length met → Numbers met (targets_in g (get_or met i 0)) more → Searched g (suc i) more

-- g: the game restricted; a: the answer; h: the words of the output; ns: those of the map; met: the old vertex of each
-- new one
pub record Restricts (g : List ℕ) (a : Answer) (h ns met : List ℕ) : Type 0 where
  -- the new vertices are those met by the search, once all of them have been gone through
  pub searched : Searched g (length met) met
  -- they are exactly the vertices that a chain of edges leads to from the initial vertex, each once
  pub exactly : (v : ℕ) → In v met ↔ Reachable (targets_in g) (initial_in g) v
  pub once : Distinct met
  -- Done (n, n, m), and vertex 0 is the initial vertex
  pub answer : a ≡ Done (length met) (length met) (edges_in h)
  pub first : (vertex_count h ≡ length met) × (initial_in h ≡ 0) × (get_or met 0 0 ≡ initial_in g)
  -- the map sends a reachable vertex to its new number, so different ones to different numbers, and any other vertex to
  -- 4,294,967,295
  pub mapped : length ns ≡ vertex_count g
  pub sends : (v : ℕ) → Reachable (targets_in g) (initial_in g) v → (word ns v < length met) × (get_or met (word ns v) 0 ≡ v)
  pub leaves : (v : ℕ) → v < vertex_count g → (¬ Reachable (targets_in g) (initial_in g) v) → word ns v ≡ 4_294_967_295
  -- each new vertex has the owner, the priority, the state, the item and, in order, the mapped edges of its old one,
  -- with their counts
  pub owners : (u : ℕ) → u < length met → owner_in h u ≡ owner_in g (get_or met u 0)
  pub priorities : (u : ℕ) → u < length met → priority_in h u ≡ priority_in g (get_or met u 0)
  pub states : (u : ℕ) → u < length met → state_in h u ≡ state_in g (get_or met u 0)
  pub items : (u : ℕ) → u < length met → item_in h u ≡ item_in g (get_or met u 0)
  pub edges : (u : ℕ) → u < length met → targets_in h u ≡ map (λ t. word ns t) (targets_in g (get_or met u 0))
  pub counts : (u : ℕ) → u < length met → counts_in h u ≡ counts_in g (get_or met u 0)
  -- where no two vertices have the same state and item, no two of the new ones do
  pub apart : Apart g → Apart h
  -- the words are a game, and nothing else stands in the slice
  pub begins : offset_in h 0 ≡ 0
  pub follows : (u : ℕ) → u < vertex_count h → offset_in h (suc u) ≡ offset_in h u + length (targets_in h u)
  pub ends : (offset_in h (vertex_count h) ≡ edges_in h) × (game_end h ≤ length h)
  pub past : (i : ℕ) → game_end h ≤ i → word h i ≡ 0

-- Demand 1 of the restriction: the exact conditions of refusal, and what a refusal leaves. There is no fault or a first
-- one (theorem `game_none_or_first`). g: the game; out, mapping, work: the lent slices at entry; a: the answer;
-- out', mapping', work': the slices afterwards
pub record RestrictionDemand1 (g out mapping work : List ℕ) (a : Answer) (out' mapping' work' : List ℕ) : Type 0 where
  -- "Except for 60, a refusal alters nothing"
  pub refused : (n p : ℕ) → FirstFaultyRestriction g (length out) (length mapping) (length work) n p
      → (a ≡ Refused n p) × (out' ≡ out) × (mapping' ≡ mapping) × (work' ≡ work)
  -- "After Done and Cut the work slice is all zero"
  pub accepted : ((n p : ℕ) → ¬ FaultyRestriction g (length out) (length mapping) (length work) n p)
      → Accepted a × (work' ≡ zeros work)
