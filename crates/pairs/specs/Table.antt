-- The known pairs, in the first four regions of the work words. The first three hold the slots, two words each: a key,
-- and one more than the number of its vertex, or 0 in an empty slot. There are half as many slots again as vertices, so
-- that some are always empty and a search is short. The fourth region has the key of each vertex. Assumes nothing:
-- these are definitions.
use Rattle.std.specs.Prelude.{◌≡◌, ℕ, zero, suc, ◌+◌, ◌-◌, ◌*◌, ◌/◌, ◌%◌, ◌<◌, ◌≤◌, Bool, List, [], ◌∷◌, ◌++◌, length, drop, nat_lt}
use Rattle.rules.specs.Lists.{word, tally, Distinct}
use Rattle.rules.specs.Words.{most_states, most_vertices}
use Rattle.work_slice.specs.Regions.{region}
use Rattle.pairs.specs.Slot.{probe_sequence}

-- ---- the words

-- how many slots there are
abbrev pub slot_count : ℕ → ℕ
slot_count v = v + v / 2

-- the words of the slots
abbrev pub slots_of : List ℕ → ℕ → List ℕ
slots_of w v = region 0 (3 * v) w

-- what slot p has: a key, and what it holds, which is 0 or a vertex and 1
abbrev pub key_in : List ℕ → ℕ → ℕ
key_in slots p = word slots (2 * p)

abbrev pub held_in : List ℕ → ℕ → ℕ
held_in slots p = word slots (2 * p + 1)

-- slot p holds a vertex
abbrev pub taken : List ℕ → ℕ → Bool
taken slots p = nat_lt 0 (held_in slots p)

-- the key of vertex i
abbrev pub key_at : List ℕ → ℕ → ℕ → ℕ
key_at w v i = word (region 3 v w) i

-- the state and the item of vertex i, as its key shows them
abbrev pub state_at : List ℕ → ℕ → ℕ → ℕ
state_at w v i = key_at w v i / 2048

abbrev pub item_at : List ℕ → ℕ → ℕ → ℕ
item_at w v i = key_at w v i % 2048

-- the keys of the first n vertices
unfoldable pub keys_in : List ℕ → ℕ → List ℕ
keys_in keys zero = []
keys_in keys (suc n) = keys_in keys n ++ (word keys n ∷ [])

abbrev pub keys_of : List ℕ → ℕ → ℕ → List ℕ
keys_of w v n = keys_in (region 3 v w) n

-- ---- what they say

-- a search in this order of slots comes to slot p, since all before it are taken
pub record Path (slots order : List ℕ) (p : ℕ) : Type 0 where
  pub place : ℕ
  pub inside : place < length order
  pub there : word order place ≡ p
  pub before : (t : ℕ) → t < place → 0 < held_in slots (word order t)

-- vertex i stands in a slot to which a search in this order comes
pub record Reached (slots order : List ℕ) (i : ℕ) : Type 0 where
  pub slot : ℕ
  pub path : Path slots order slot
  pub holds : held_in slots slot ≡ i + 1

-- slot p, if it is taken, holds one of the first n vertices, beside its key
pub record Holding (slots keys : List ℕ) (n p : ℕ) : Type 0 where
  pub known : held_in slots p ≤ n
  pub key : key_in slots p ≡ word keys (held_in slots p - 1)

-- the slots hold n vertices with these keys, which are distinct: a search for its key comes to each, and no other slot
-- is taken
pub record Slots (slots keys : List ℕ) (v n : ℕ) : Type 0 where
  pub room : n ≤ v
  pub distinct : Distinct keys
  pub vertex : (i : ℕ) → i < n → Reached slots (probe_sequence (word keys i) (slot_count v)) i
  pub holding : (p : ℕ) → p < slot_count v → 0 < held_in slots p → Holding slots keys n p
  pub count : tally (taken slots) 0 (slot_count v) ≡ n

-- the words hold n known pairs, whose keys are within the limits: a state is below 65,535
pub record Table (w : List ℕ) (v n : ℕ) : Type 0 where
  pub slots : Slots (slots_of w v) (keys_of w v n) v n
  pub small : (i : ℕ) → i < n → key_at w v i < most_states * 2048

-- ---- what calls ask and do

-- what a call asks that looks a pair up
pub record Asks (w : List ℕ) (v n state item : ℕ) : Type 0 where
  pub some : 0 < v
  pub most : v ≤ most_vertices
  pub whole : 8 * v ≤ length w
  pub state_fits : state < most_states
  pub item_fits : item < 2048
  pub table : Table w v n

-- the words w' hold no pair, and are as w behind the slots
pub record Started (w w' : List ℕ) (v : ℕ) : Type 0 where
  pub table : Table w' v 0
  pub rest : drop (3 * v) w' ≡ drop (3 * v) w
