-- The key of a pair, and the slots in which a search for it looks (document 01, "Looking up a pair"). Assumes nothing:
-- these are definitions.
use Rattle.std.specs.Prelude.{ℕ, zero, suc, ◌+◌, ◌-◌, ◌*◌, ◌/◌, ◌%◌, ◌^◌, List, [], ◌++◌, min}
use Rattle.rules.specs.Lists.{from}

-- "The key is state times 2,048 plus item", a number below 2,048
abbrev pub key_of : ℕ → ℕ → ℕ
key_of state item = state * 2048 + item

-- the key times 2,654,435,761 with everything above 32 bits dropped, brought below v by its high bits
unfoldable pub slot_of : ℕ → ℕ → ℕ
slot_of key v = key * 2654435761 % 2 ^ 32 * v / 2 ^ 32

-- ---- the multiple of a key

-- "key times 2,654,435,761 with everything above 32 bits dropped"
abbrev pub multiple : ℕ → ℕ
multiple key = key * 2654435761 % 2 ^ 32

-- the same "summed at first from a 256-entry table of byte multiples": for each of the key's four bytes its multiple,
-- shifted to the byte's place; what the sum has above 32 bits is dropped, too
unfoldable pub sum_of_byte_multiples : ℕ → ℕ
sum_of_byte_multiples key =
    (multiple (key % 256) + multiple (key / 256 % 256) * 2 ^ 8 + multiple (key / 65536 % 256) * 2 ^ 16
    + multiple (key / 16777216 % 256) * 2 ^ 24) % 2 ^ 32

-- ---- the slots, of v, in which a search looks
-- 01 says where it starts; how it goes on is ours: "No output depends on it"

-- so many slots are a bucket, and a search looks at so many buckets
abbrev pub bucket_size : ℕ
bucket_size = 16

abbrev pub bucket_count : ℕ
bucket_count = 64

-- the key's own slot and those behind it: as many as a bucket has, or fewer at the end
abbrev pub bucket : ℕ → ℕ → List ℕ
bucket key v = from (slot_of key v) (min bucket_size (v - slot_of key v))

-- n buckets: that of the key, that of its multiple, that of the multiple's multiple, ..
unfoldable pub buckets : ℕ → ℕ → ℕ → List ℕ
buckets zero key v = []
buckets (suc n) key v = bucket key v ++ buckets n (multiple key) v

-- the slots in the order in which a search for a key looks at them. Keys whose own slots are neighbours mostly part
-- after the first bucket. All slots come last, for the case that the buckets are full
abbrev pub probe_sequence : ℕ → ℕ → List ℕ
probe_sequence key v = buckets bucket_count key v ++ from 0 v
