-- A stretch of words that a function appends to those that a slice holds already. Assumes nothing: these are
-- definitions.
use Rattle.std.specs.Prelude.{◌≡◌, List, ◌++◌, ℕ, ◌+◌, length, take, drop}

-- the stretch is written from `at` on, and r is the place past it: the words in front and those behind stay
pub record Wrote (at : ℕ) (stretch out out' : List ℕ) (r : ℕ) : Type 0 where
  pub past : r ≡ at + length stretch
  pub words : take r out' ≡ take at out ++ stretch
  pub rest : drop r out' ≡ drop r out
