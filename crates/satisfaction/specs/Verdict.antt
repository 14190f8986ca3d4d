-- When a verdict on a game is accepted with its reasons: request #111, over the game's words. The arrays that are
-- handed over are read as functions of the vertex (and of the priority) here. Assumes nothing: these are statements.
use Rattle.std.specs.Prelude.{◌≡◌, Bool, true, false, cond, not, ◌&&◌, ◌||◌, List, ℕ, ◌≤◌, ◌<◌, eqb, ltb, leb}
use Rattle.rules.specs.Lists.{In, from, has}
use Rattle.rules.specs.Game.{vertex_count, initial_in, owner_in, priority_in, targets_in}
use Rattle.meaning.specs.Quantifiers.{all}
use Rattle.satisfaction.specs.Ranks.{is_even}

-- "each odd priority in the game"
abbrev pub OddPriority : List ℕ → ℕ → Type 0
OddPriority g p = (is_even p ≡ false) × ((v : ℕ) × (v < vertex_count g) × (priority_in g v ≡ p))

-- g: the game's words; region: is the vertex claimed for Even; pick: Even's pick at a vertex; number: for a priority
-- and a vertex
module _ (g : List ℕ) (region : ℕ → Bool) (pick : ℕ → ℕ) (number : (p v : ℕ) → ℕ) where
  -- an edge from the region is kept, unless Even, who is player 0, owns the vertex and picks another
  pub record Kept (v w : ℕ) : Type 0 where
    pub known : v < vertex_count g
    pub claimed : region v ≡ true
    pub edge : In w (targets_in g v)
    pub picked : owner_in g v ≡ 0 → w ≡ pick v

  pub record AcceptedVerdict : Type 0 where
    -- "the region holds the initial vertex"
    pub starts : region (initial_in g) ≡ true
    -- "each pick is an edge that stays in the region": each of Even's, at the vertices of the region
    pub picks : (v : ℕ) → v < vertex_count g → region v ≡ true → owner_in g v ≡ 0 → In (pick v) (targets_in g v) × (region (pick v) ≡ true)
    -- "every Odd edge from it stays"
    pub stays : (v w : ℕ) → v < vertex_count g → region v ≡ true → owner_in g v ≡ 1 → In w (targets_in g v) → region w ≡ true
    -- "along kept edges between vertices of priority at most p the number for p never rises and falls after a vertex of
    -- priority p"
    pub falls : (v w p : ℕ) → Kept v w → OddPriority g p → priority_in g v ≤ p → priority_in g w ≤ p
        → (number p w ≤ number p v) × (priority_in g v ≡ p → number p w < number p v)

-- a verdict on the game g that is accepted
pub record Verdict (g : List ℕ) : Type 0 where
  pub region : ℕ → Bool
  pub pick : ℕ → ℕ
  pub number : (p v : ℕ) → ℕ
  pub accepted : AcceptedVerdict g region pick number

module _ (g : List ℕ) (region : ℕ → Bool) (pick : ℕ → ℕ) (number : (p v : ℕ) → ℕ) where
  -- ---- a test that only accepted verdicts pass (theorem `passes_accepted`)

  unfoldable pub right_numbers : (p v w : ℕ) → Bool
  right_numbers p v w =
      is_even p || (not (leb (priority_in g v) p && leb (priority_in g w) p)
      || (leb (number p w) (number p v) && (not (eqb (priority_in g v) p) || ltb (number p w) (number p v))))

  unfoldable pub right_edge : (v w : ℕ) → Bool
  right_edge v w = region w && all (λ u. right_numbers (priority_in g u) v w) (from 0 (vertex_count g))

  unfoldable pub right_vertex : ℕ → Bool
  right_vertex v = not (region v) || cond (eqb (owner_in g v) 0) (has eqb (pick v) (targets_in g v) && right_edge v (pick v)) (all (right_edge v) (targets_in g v))

  unfoldable pub passes : Bool
  passes = region (initial_in g) && all right_vertex (from 0 (vertex_count g))
