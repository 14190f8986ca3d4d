-- Which words the thin program runs (document 01, "with more than 2,048 words in all, a broken last word or lengths
-- that disagree it prints `refused 2 0`"). Assumes nothing: these are definitions.
use Rattle.std.specs.Prelude.{ℕ, cond, List}
use Rattle.std.proofs.Math.Option.{Option, none, some}
use Rattle.rules.specs.Program.{words_of, disagree}

unfoldable pub agreeing : Option (List ℕ) → Option (List ℕ)
agreeing none = none
agreeing (some ws) = cond (disagree ws) none (some ws)

-- the words of these bytes, none where they are refused
unfoldable pub accepted : List ℕ → Option (List ℕ)
accepted bytes = agreeing (words_of bytes)
