-- What a text holds, and what is appended to it. Assumes nothing: these are definitions.
use Rattle.std.specs.Prelude.{◌≡◌, Bool, true, false, List, [], ℕ, ◌+◌, ◌≤◌, length, take}
use Rattle.std.specs.Borrow.{GName}
use Rattle.words.specs.Stretches.{Wrote}
use Rattle.text_writer.specs.declared.Text.{Text}

-- which slice is lent to it
abbrev pub loan : Text → GName
loan text = text.bytes.ghost_name

-- the bytes of that slice
abbrev pub lent_bytes : Text → List ℕ
lent_bytes text = text.bytes.now

-- how many bytes of it stand in front of what comes next
abbrev pub written_size : Text → ℕ
written_size text = text.size

-- what is written so far
abbrev pub written : Text → List ℕ
written text = take text.size text.bytes.now

-- what is appended, unless the test holds: a number that was met before is not given again
unfoldable pub unless : Bool → List ℕ → List ℕ
unless true s = []
unless false s = s

-- the bytes fit behind it
abbrev pub Room : Text → List ℕ → Type 0
Room text bytes = text.size + length bytes ≤ length text.bytes.now

-- the text grew by these bytes, in the same slice; those in front of them and behind them stay
pub record Appended (bytes : List ℕ) (text text' : Text) : Type 0 where
  pub same : text'.bytes.ghost_name ≡ text.bytes.ghost_name
  pub long : length text'.bytes.now ≡ length text.bytes.now
  pub wrote : Wrote text.size bytes text.bytes.now text'.bytes.now text'.size
