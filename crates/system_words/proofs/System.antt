-- What system words with the right sizes have. Assumes nothing.
use Prim.Native.Nat.{ℕ, ◌+◌, ◌-◌, ◌*◌, ◌≤◌}
use native.Mathlib.Omega.{arith}
use mathlib.Core.Path.{◌≡◌, ap, ◌∙◌}
use mathlib.Core.List.{List, [], ◌∷◌}
use lib.ListN.{length, take, drop}
use lib.Dec.{ltb}
use borrow.Author.Tests.{ltb-false}
use Rattle.std.specs.declared.result.Result.TheVariants.{Ok}
use Rattle.rules.specs.Lists.{sum_words}
use Rattle.rules.specs.Answers.{first_fault}
use Rattle.rules.specs.System.{state_count, transition_count}
use Rattle.rules.specs.Refusal.{outside, refusal21, refusal22}
use Rattle.tables.proofs.Faults.{if_passed, first_passed}
use Rattle.lists.proofs.Tests.{or-false}
use Rattle.words.proofs.Sums.{sum_of_slice}
use Rattle.tables.proofs.Choices.{differ_false, outside_false}

pub sizes_passed : (ss : List ℕ) → first_fault (refusal21 ss ∷ refusal22 ss ∷ []) ≡ Ok tt
    → (length ss ≡ 3 + state_count ss + 2 * transition_count ss) × (state_count ss ≤ 65535) × (transition_count ss ≤ 262144)
unfolding refusal21 refusal22
sizes_passed ss e =
    let b = or-false (ltb (length ss) 3) _ (if_passed 21 0 _ (first_passed _ e 0)) in
    let d = or-false (outside 1 65535 (state_count ss)) _ (if_passed 22 0 _ (first_passed _ e 1)) in
    (differ_false _ _ b.1, (outside_false _ _ _ d.0).1, ltb-false 262144 _ d.1)

-- the out-degrees, as they are lent, and their sum
pub degrees_summed : (ss : List ℕ) (states sum : ℕ) → states ≡ state_count ss
    → sum ≡ sum_words (take (3 + states - 3) (drop 3 ss)) 0 (length (take (3 + states - 3) (drop 3 ss))) → 3 + states ≤ length ss
    → sum ≡ sum_words ss 3 (state_count ss)
degrees_summed ss states sum e total h =
    total ∙ sum_of_slice ss 3 (3 + states - 3) (omega arith) ∙ ap (sum_words ss 3) (omega arith)
