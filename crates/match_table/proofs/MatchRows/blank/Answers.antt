use Rattle.std.proofs.Common.{ℕ, Option, None}
use Rattle.std.proofs.lemmas.List.{get_or-replicate}
use Rattle.match_table.proofs.MatchRows.blank.Goals as goal

pub returns : goal.returns
returns c = λ a h. get_or-replicate {A = Option ℕ} 1024 a None None h
