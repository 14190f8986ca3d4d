-- Words in bytes, the lowest byte first (document 01, the thin program's "little-endian words"). Assumes nothing: these
-- are definitions.
use Rattle.std.specs.Prelude.{ℕ, zero, suc, ◌+◌, ◌*◌, List, [], ◌∷◌, ◌++◌}
use Rattle.rules.specs.Lists.{word}
use Rattle.rules.specs.Program.{word_of}

-- the word whose first byte stands at p
unfoldable pub word_at : List ℕ → ℕ → ℕ
word_at bytes p = word_of (word bytes p) (word bytes (p + 1)) (word bytes (p + 2)) (word bytes (p + 3))

-- so many words, one after the other, from the first byte on
unfoldable pub words_at : (count : ℕ) → List ℕ → List ℕ
words_at zero bytes = []
words_at (suc n) bytes = words_at n bytes ++ (word_at bytes (4 * n) ∷ [])
