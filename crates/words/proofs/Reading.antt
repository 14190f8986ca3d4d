-- Words are read from bytes one after the other: what holds after one more. Assumes nothing.
use mathlib.Core.Path.{◌≡◌, refl, ap, ◌∙◌}
use mathlib.Core.List.{List, [], ◌∷◌, ◌++◌}
use Prim.Native.Nat.{ℕ, ◌+◌, ◌*◌, ◌<◌}
use native.Mathlib.Numerals.{add-one}
use lib.ListN.{length, take, set}
use lib.Seq.{take-suc-set}
use Rattle.words.specs.Bytes.{word_at, words_at}

pub read_none : (bytes : List ℕ) → [] ≡ words_at 0 bytes
unfolding words_at
read_none bytes = refl

pub read_more : (bytes ws : List ℕ) (i x : ℕ) → x ≡ word_at bytes (4 * i) → i < length ws → take i ws ≡ words_at i bytes
    → take (i + 1) (set ws i x) ≡ words_at (i + 1) bytes
unfolding words_at
read_more bytes ws i x e h t = rw (e, add-one i) (take-suc-set ws i (word_at bytes (4 * i)) h ∙ ap (λ (l : List ℕ). l ++ (word_at bytes (4 * i) ∷ [])) t)
