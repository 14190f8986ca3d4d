-- Which numbers a bitmap marks, and what its functions promise. Assumes nothing: these are definitions.
use Rattle.std.specs.Prelude.{ℕ, ◌+◌, ◌/◌, ◌%◌, ◌^◌, ◌≡◌, Bool, true, false, cond, ◌||◌, List, length, eqb}
use Rattle.rules.specs.Lists.{word, In, has}

-- a bitmap has so many words, with a bit for each of so many numbers
abbrev pub bitmap_words : ℕ
bitmap_words = 32_768

abbrev pub bitmap_numbers : ℕ
bitmap_numbers = 1_048_576

-- bit i of a word
unfoldable pub bit_of : ℕ → ℕ → Bool
bit_of w i = eqb ((w / 2 ^ i) % 2) 1

-- the word with bit i, which it lacks
unfoldable pub set_word : ℕ → ℕ → ℕ
set_word w i = w + 2 ^ i

-- number v is marked
unfoldable pub marked : List ℕ → ℕ → Bool
marked bits v = bit_of (word bits (v / 32)) (v % 32)

-- v was met: now it is marked, the others as before
pub record Met (bits bits' : List ℕ) (v : ℕ) : Type 0 where
  pub long : length bits' ≡ length bits
  pub marks : (u : ℕ) → marked bits' u ≡ (eqb u v || marked bits u)

-- the numbers in v's word are no longer marked, the others as before
pub record Wiped (bits bits' : List ℕ) (v : ℕ) : Type 0 where
  pub long : length bits' ≡ length bits
  pub marks : (u : ℕ) → marked bits' u ≡ cond (eqb (u / 32) (v / 32)) false (marked bits u)

-- ---- the bitmap of a list

-- exactly these numbers are marked
pub record Holds (bits xs : List ℕ) : Type 0 where
  pub long : length bits ≡ bitmap_words
  pub marks : (u : ℕ) → marked bits u ≡ has eqb u xs

-- no others are marked
pub record Only (bits xs : List ℕ) : Type 0 where
  pub long : length bits ≡ bitmap_words
  pub inside : (u : ℕ) → marked bits u ≡ true → In u xs
