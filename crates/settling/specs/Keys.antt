-- Pairs as keys: the table of known pairs holds a pair as one number, so the code's walk is a walk over keys. Assumes
-- nothing: these are definitions.
use Rattle.std.specs.Prelude.{ℕ, ◌/◌, ◌%◌, List, map}
use Rattle.rules.specs.Words.{Input}
use Rattle.rules.specs.Pairs.{Pair, initial_pair, targets, transitions_behind}
use Rattle.pairs.specs.Slot.{key_of}

abbrev pub pair_key : Pair → ℕ
pair_key p = key_of p.0 p.1

-- the pair that a key says
abbrev pub key_pair : ℕ → Pair
key_pair k = (k / 2048, k % 2048)

-- the keys of the targets of a key's pair
unfoldable pub key_targets : Input → ℕ → List ℕ
key_targets x k = map pair_key (targets x (key_pair k))

-- the transitions behind the edge from one key's pair to another's
unfoldable pub key_behind : Input → ℕ → ℕ → ℕ
key_behind x k l = transitions_behind x (key_pair k) (key_pair l)

abbrev pub root_key : Input → ℕ
root_key x = pair_key (initial_pair x)
