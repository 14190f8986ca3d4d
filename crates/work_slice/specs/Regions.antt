-- One flat list of words, seen as regions of v words each, and what stands behind them (document 01, "Words handed
-- over": the work slice). Assumes nothing: these are definitions.
use Rattle.std.specs.Prelude.{◌≡◌, ℕ, suc, ◌+◌, ◌-◌, ◌*◌, ◌≤◌, ◌<◌, List, length, set, take, drop}
use Rattle.rules.specs.Lists.{word}
use Rattle.work_slice.specs.declared.Region.{Region}
use Rattle.work_slice.specs.declared.Region.TheVariants.{Slots, Keys, Stack, Starts, Degrees, Marks}

-- which of the eight regions it is: the slots are regions 0 to 2
abbrev pub region_code : Region → ℕ
region_code Slots = 0
region_code Keys = 3
region_code Stack = 4
region_code Starts = 5
region_code Degrees = 6
region_code Marks = 7

-- the words of region r
unfoldable pub region : ℕ → ℕ → List ℕ → List ℕ
region r v w = take v (drop (r * v) w)

-- the words with x at word i of region r
unfoldable pub put_word : ℕ → ℕ → ℕ → ℕ → List ℕ → List ℕ
put_word r v i x w = set w (r * v + i) x

-- the words from a up to b become 0, and all others are as they were
pub record Zeroed (w w' : List ℕ) (a b : ℕ) : Type 0 where
  pub long : length w' ≡ length w
  pub none : (p : ℕ) → a ≤ p → p < b → word w' p ≡ 0
  pub before : take a w' ≡ take a w
  pub behind : drop b w' ≡ drop b w

-- ---- the edges, behind the eight regions: column 0 has their targets and column 1 their counts, each with a word for
-- each of the e edges that fit

-- where a column ends
abbrev pub edges_end : (v e column : ℕ) → ℕ
edges_end v e column = 8 * v + suc column * e

-- the word that the edge at place i has in a column, which is filled from its end downwards
abbrev pub edge_word : (v e column i : ℕ) → ℕ
edge_word v e column i = edges_end v e column - suc i
