-- What looking a pair up and numbering it answer. Assumes nothing: these are definitions.
use Rattle.std.specs.Prelude.{◌≡◌, ℕ, ◌+◌, ◌*◌, ◌<◌, List, length, drop, ◌≢◌, nat_eq}
use Rattle.std.specs.Prelude.{Result}
use Rattle.std.specs.declared.option.Option.{Option}
use Rattle.std.specs.declared.option.Option.TheVariants.{Some, None}
use Rattle.std.specs.declared.result.Result.TheVariants.{Ok, Err}
use Rattle.rules.specs.Lists.{word, In, position, insert}
use Rattle.pairs.specs.declared.Place.{Place}
use Rattle.pairs.specs.declared.Place.TheVariants.{Known, Free}
use Rattle.pairs.specs.declared.Numbered.{Numbered}
use Rattle.pairs.specs.declared.NoRoom.{NoRoom}
use Rattle.pairs.specs.Slot.{probe_sequence}
use Rattle.pairs.specs.Table.{slot_count, slots_of, key_in, held_in, keys_of, Path, Table}

-- ---- along the slots in some order

-- each is taken, by another key than k
pub record Others (slots order : List ℕ) (k : ℕ) : Type 0 where
  pub taken : (t : ℕ) → t < length order → 0 < held_in slots (word order t)
  pub other : (t : ℕ) → t < length order → key_in slots (word order t) ≢ k

-- one has the key k, and holds vertex i
pub record Has (slots order : List ℕ) (k i : ℕ) : Type 0 where
  pub place : ℕ
  pub inside : place < length order
  pub key : key_in slots (word order place) ≡ k
  pub holds : held_in slots (word order place) ≡ i + 1

-- slot p is the first empty one, and none before it has the key k
pub record Ends (slots order : List ℕ) (k p : ℕ) : Type 0 where
  pub path : Path slots order p
  pub empty : held_in slots p ≡ 0
  pub other : (t : ℕ) → t < path.place → key_in slots (word order t) ≢ k

abbrev pub Probed : List ℕ → List ℕ → ℕ → Option Place → Type 0
Probed slots order k (Some (Known i)) = Has slots order k i.0
Probed slots order k (Some (Free p)) = Ends slots order k p
Probed slots order k None = Others slots order k

-- ---- in the table

-- key k is not known, and slot p is the empty one for it. That it is one of the slots follows from the path; it is
-- said here for whoever writes to it
pub record Fresh (w : List ℕ) (v n k p : ℕ) : Type 0 where
  pub new : ¬ In k (keys_of w v n)
  pub within : p < slot_count v
  pub path : Path (slots_of w v) (probe_sequence k (slot_count v)) p
  pub empty : held_in (slots_of w v) p ≡ 0

-- key k is looked up: it is known by its place among the keys, or it is new; no slot is empty only where there is no
-- room for one vertex more
abbrev pub Finding : List ℕ → (v n k : ℕ) → Option Place → Type 0
Finding w v n k (Some (Known i)) = In k (keys_of w v n) × (i.0 ≡ position nat_eq k (keys_of w v n))
Finding w v n k (Some (Free p)) = Fresh w v n k p
Finding w v n k None = (¬ In k (keys_of w v n)) × (n ≡ v)

-- key k is inserted: it stands for vertex i, and m vertices are known now. All from region 4 on is as it was
pub record Numbers (w w' : List ℕ) (v n k i m : ℕ) : Type 0 where
  pub keys : keys_of w' v m ≡ insert nat_eq (keys_of w v n) k
  pub vertex : i ≡ position nat_eq k (insert nat_eq (keys_of w v n) k)
  pub table : Table w' v m
  pub rest : drop (4 * v) w' ≡ drop (4 * v) w

-- with key k there would be more vertices than there is room for: nothing is altered
pub record Full (w w' : List ℕ) (v n k : ℕ) : Type 0 where
  pub more : v < length (insert nat_eq (keys_of w v n) k)
  pub kept : w' ≡ w

abbrev pub Numbering : List ℕ → List ℕ → ℕ → ℕ → ℕ → Result Numbered NoRoom → Type 0
Numbering w w' v n k (Ok a) = Numbers w w' v n k a.vertex.0 a.known
Numbering w w' v n k (Err e) = Full w w' v n k
