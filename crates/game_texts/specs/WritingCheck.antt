-- Every refusal of writing as one check (document 02, #101: "Refused in writing: after 53, 98 for a vertex without
-- successors, then 2 for too short a text slice"). Assumes nothing: these are definitions.
use Rattle.std.specs.Prelude.{ℕ, List, length, ltb}
use Rattle.rules.specs.Answers.{Check}
use Rattle.rules.specs.Answers.{fault_if, and_then}
use Rattle.rules.specs.PgsolverWriting.{game_text, writing_refusal}

-- `text` is the length of the slice lent
unfoldable pub writing_check : List ℕ → (text : ℕ) → Check
writing_check g text = and_then (writing_refusal g) (fault_if 2 0 (ltb text (length (game_text g))))
