-- What a caller reads off a numbering, and that the table stays where the first four regions stay. Assumes nothing.
use Rattle.std.proofs.Common.{◌≡◌, ℕ, ◌+◌, ◌/◌, ◌%◌, ◌<◌, eqb, List, [], ◌∷◌, length, sym, ap, ◌∙◌, subst, arith, lit<, length-append}
use Rattle.std.specs.Prelude.{Result}
use Rattle.std.specs.declared.result.Result.TheVariants.{Ok}
use Rattle.rules.specs.Lists.{word, In, position, insert}
use Rattle.lists.proofs.Inserts.{insert_old, insert_new}
use Rattle.lists.proofs.Equalities.{number_equality}
use Rattle.lists.proofs.Members.{position_out}
use Rattle.work_slice.specs.Regions.{region}
use Rattle.pairs.specs.declared.Numbered.{Numbered}
use Rattle.pairs.specs.declared.NoRoom.{NoRoom}
use Rattle.pairs.specs.Slot.{key_of}
use Rattle.pairs.specs.Table.{key_at, keys_of, Table}
use Rattle.pairs.specs.Answers.{Numbers, Numbering}
use Rattle.pairs.proofs.Filled.{length-keys_in, get_d_keys_in}
use Rattle.pairs.proofs.Parts.{slots_kept}

-- ---- a key says its pair

pub key_state : (s q : ℕ) → q < 2048 → key_of s q / 2048 ≡ s
key_state s q h = omega arith

pub key_item : (s q : ℕ) → q < 2048 → key_of s q % 2048 ≡ q
key_item s q h = omega arith

pub key_same : (s q s' q' : ℕ) → q < 2048 → q' < 2048 → key_of s q ≡ key_of s' q' → (s ≡ s') × (q ≡ q')
key_same s q s' q' h h' e = omega arith

pub key-pair : (k : ℕ) → k ≡ key_of (k / 2048) (k % 2048)
key-pair k = omega arith

pub key_item_below : (k : ℕ) → k % 2048 < 2048
key_item_below k = omega arith

-- ---- the words of the first four regions hold the table

pub keys_kept : (w w' : List ℕ) (v n : ℕ) → ((r : ℕ) → r < 4 → region r v w' ≡ region r v w) → keys_of w' v n ≡ keys_of w v n
keys_kept w w' v n e = rw (e 3 (lit< tt))

pub table_kept : (w w' : List ℕ) (v n : ℕ) → ((r : ℕ) → r < 4 → region r v w' ≡ region r v w) → Table w v n → Table w' v n
table_kept w w' v n e t =
    record {
      slots = rw (slots_kept w w' v e, e 3 (lit< tt)) t.slots;
      small = rw (e 3 (lit< tt)) t.small;
    }

pub length-keys : (w : List ℕ) (v n : ℕ) → length (keys_of w v n) ≡ n
length-keys w v n = length-keys_in (region 3 v w) n

-- the key of vertex i
pub key_word : (w : List ℕ) (v n i : ℕ) → i < n → word (keys_of w v n) i ≡ key_at w v i
key_word w v n i h = get_d_keys_in (region 3 v w) n i h

-- ---- which answer it was

pub numbers_by : (w w' : List ℕ) (v n k : ℕ) (r : Result Numbered NoRoom) (a : Numbered) → Numbering w w' v n k r → r ≡ Ok a
    → Numbers w w' v n k a.vertex.0 a.known
numbers_by w w' v n k r a p e = subst (Numbering w w' v n k) e p

-- ---- key k was inserted

module _ (w w' : List ℕ) (v n k i m : ℕ) (p : Numbers w w' v n k i m) where
  known_now : m ≡ length (insert eqb (keys_of w v n) k)
  known_now = sym (length-keys w' v m) ∙ ap length p.keys

  pub vertex_place : i ≡ position eqb k (keys_of w' v m)
  vertex_place = p.vertex ∙ ap (position eqb k) (sym p.keys)

  -- it was there, or is new: the count tells which
  known_old : In k (keys_of w v n) → m ≡ n
  known_old h = known_now ∙ ap length (insert_old number_equality (keys_of w v n) k h) ∙ length-keys w v n

  pub known_new : (¬ In k (keys_of w v n)) → m ≡ n + 1
  known_new h = omega (arith, known_now, ap length (insert_new number_equality (keys_of w v n) k h), length-append (keys_of w v n) (k ∷ []), length-keys w v n)

  pub more_count : (m ≡ n → ⊥) → ¬ In k (keys_of w v n)
  more_count d h = d (known_old h)

  -- it has the first number that was free
  pub vertex_new : (¬ In k (keys_of w v n)) → i ≡ n
  vertex_new h =
      p.vertex ∙ ap (position eqb k) (insert_new number_equality (keys_of w v n) k h)
      ∙ position_out number_equality k (keys_of w v n) [] h ∙ length-keys w v n

  pub room_new : (¬ In k (keys_of w v n)) → n < v
  room_new h = omega (arith, known_new h, p.table.slots.room)
