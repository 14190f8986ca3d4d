-- What the parts of a step answer: the vertex that is taken off the stack, and the operands of its item.
-- Assumes nothing: these are definitions.
use Rattle.std.specs.Prelude.{◌≡◌, cond, List, [], ◌∷◌, ℕ, ◌-◌, ltb}
use Rattle.rules.specs.Lists.{word}
use Rattle.rules.specs.Pairs.{Pair as RulesPair}
use Rattle.work_slice.specs.Regions.{region, put_word}
use Rattle.pairs.specs.Table.{state_at, item_at}
use Rattle.settling.specs.declared.Counters.{Counters}
use Rattle.stepping.specs.declared.Pair.{Pair}
use Rattle.stepping.specs.declared.Popped.{Popped}

-- the pair that is held
abbrev pub pair_in : Pair → RulesPair
pair_in p = (p.state, p.item)

-- the vertex on top of the stack
abbrev pub top_of : List ℕ → (v : ℕ) → Counters → ℕ
top_of w v c = word (region 4 v w) (c.waiting - 1)

-- the counters without it
abbrev pub without_top : Counters → Counters
without_top c = record { known = c.known; settled = c.settled; edges = c.edges; waiting = c.waiting - 1 }

-- it is taken off, and its edges start where there are none yet
pub record PopAnswer (w : List ℕ) (v : ℕ) (c : Counters) (w' : List ℕ) (p : Popped) : Type 0 where
  pub counters : p.counters ≡ without_top c
  pub vertex : p.vertex.0 ≡ top_of w v c
  pub state : p.pair.state ≡ state_at w v p.vertex.0
  pub item : p.pair.item ≡ item_at w v p.vertex.0
  pub start : w' ≡ put_word 5 v p.vertex.0 c.edges w

-- the operands of an item by its kind, where that is no modality: none of a constant, both of a conjunction or a
-- disjunction, else the left one
unfoldable pub operands_of : (kind left right : ℕ) → List ℕ
operands_of kind left right = cond (ltb kind 2) [] (cond (ltb kind 4) (left ∷ right ∷ []) (left ∷ []))
