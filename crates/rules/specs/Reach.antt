-- Reachable pairs (document 01, "Pairs": "A pair is reachable if it is (initial state, equation 0) or a chain of
-- targets leads from that one to it"), and N. No walk, ranking, limit or room is mentioned here. Assumes nothing: these
-- are definitions.
use Rattle.std.specs.Prelude.{ℕ, zero, suc, ◌*◌, Bool, List, [], ◌∷◌, ◌++◌, length}
use Rattle.rules.specs.Lists.{In, insert_all}
use Rattle.rules.specs.Words.{Input}
use Rattle.rules.specs.System.{state_count}
use Rattle.rules.specs.Items.{items}
use Rattle.rules.specs.Pairs.{Pair, same_pair, initial_pair, targets}

module _ {A : Type 0} (next : A → List A) (root : A) where
  pub data Reachable : A → Type 0 where
    at_root : Reachable root
    onward : {p q : A} → Reachable p → In q (next p) → Reachable q

module _ {A : Type 0} (same : A → A → Bool) (next : A → List A) (root : A) where
  -- the targets of all of these
  unfoldable pub all_targets : List A → List A
  all_targets [] = []
  all_targets (p ∷ ps) = next p ++ all_targets ps

  -- the pairs that a chain of at most k targets leads to, each once
  unfoldable pub reached_in : ℕ → List A
  reached_in zero = root ∷ []
  reached_in (suc k) = let before = reached_in k in insert_all same before (all_targets before)

-- states times items: no chain needs more targets than there are pairs
abbrev pub pair_count : Input → ℕ
pair_count x = state_count x.system * length (items x)

-- all reachable pairs, each once (fields `exactly` and `once` of the cut theorem)
unfoldable pub reachable_pairs : Input → List Pair
reachable_pairs x = reached_in same_pair (targets x) (initial_pair x) (pair_count x)

-- N, the number of reachable pairs
unfoldable pub N : Input → ℕ
N x = length (reachable_pairs x)
