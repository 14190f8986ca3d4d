-- Marks of labels: labels of one multiset have one mark, so that only labels with equal marks need to be compared.
-- Assumes nothing: these are definitions.
use Rattle.std.specs.Prelude.{◌≡◌, false, List, ℕ, ◌+◌, ◌*◌, ◌/◌, ◌%◌, ◌^◌, ◌≤◌, ◌<◌}
use Rattle.std.specs.List.{sum_by}
use Rattle.rules.specs.Lists.{word}
use Rattle.rules.specs.Labels.{same_label}
use Rattle.labels.specs.Stretches.{Starts, ActionsOf}

-- an action's number, stirred: a number below 2^32
unfoldable pub stirred : ℕ → ℕ
stirred a = (a * 2_654_435_761 + 1_013_904_223) % 2 ^ 32

-- what an action adds to a mark: a square, so that labels whose actions have equal sums get different marks
unfoldable pub weight : ℕ → ℕ
weight a = stirred a * stirred a / 2 ^ 32

-- label l starts at place s and has the mark m
pub record MarkOf (ls : List ℕ) (l s m : ℕ) : Type 0 where
  pub starts : Starts ls l s
  pub actions : List ℕ
  pub own : ActionsOf ls l actions
  pub sum : m ≡ sum_by weight actions % 2 ^ 32

-- the entries of the first n labels are their starts and their marks
abbrev pub Marked : (ls starts marks : List ℕ) (n : ℕ) → Type 0
Marked ls starts marks n = (l : ℕ) → l < n → MarkOf ls l (word starts l) (word marks l)

-- it is known where each label up to l starts
abbrev pub StartsKnown : (ls starts : List ℕ) (l : ℕ) → Type 0
StartsKnown ls starts l = (z : ℕ) → z ≤ l → Starts ls z (word starts z)

-- a label before l that has another mark is another multiset
abbrev pub MarksTell : (ls marks : List ℕ) (l : ℕ) → Type 0
MarksTell ls marks l = (z : ℕ) → z < l → ¬ (word marks z ≡ word marks l) → same_label ls z l ≡ false
