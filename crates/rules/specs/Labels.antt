-- Labels (document 01, "Words handed over": "L (0 to 4,096), A (0 to 16,384); A label numbers, never falling; A action
-- numbers, any value"; "A label is the multiset of its actions"). Assumes nothing: these are definitions.
use Rattle.std.specs.Prelude.{ℕ, ◌+◌, Bool, ◌&&◌, List, eqb}
use Rattle.rules.specs.Lists.{word, tally, every, seek}

abbrev pub label_count : List ℕ → ℕ
label_count ls = word ls 0

abbrev pub action_count : List ℕ → ℕ
action_count ls = word ls 1

-- the label number and the action number at place p
abbrev pub label_at : List ℕ → ℕ → ℕ
label_at ls p = word ls (2 + p)

abbrev pub action_at : List ℕ → ℕ → ℕ
action_at ls p = word ls (2 + action_count ls + p)

-- how often action a occurs in label l
unfoldable pub times : List ℕ → ℕ → ℕ → ℕ
times ls l a = tally (λ p. eqb (label_at ls p) l && eqb (action_at ls p) a) 0 (action_count ls)

-- labels l and m are the same multiset: each action of the table occurs as often in the one as in the other
unfoldable pub same_label : List ℕ → ℕ → ℕ → Bool
same_label ls l m = every (λ p. eqb (times ls l (action_at ls p)) (times ls m (action_at ls p))) 0 (action_count ls)

-- The multiset of label l, named by the lowest label that is the same. Two labels have the same name exactly if every
-- action occurs equally often in both (theorem `multiset_same`)
unfoldable pub multiset : List ℕ → ℕ → ℕ
multiset ls l = seek (λ j. same_label ls j l) 0 l
