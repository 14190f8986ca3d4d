-- Some action formulas decided at labels, by computation. Assumes nothing.
use mathlib.Core.Path.{◌≡◌, refl}
use mathlib.Core.Bool.{Bool, true, false}
use mathlib.Core.List.{List, [], ◌∷◌, map}
use Prim.Native.Nat.{ℕ}
use Rattle.rules.specs.Lists.{from, tally, every, seek}
use Rattle.rules.specs.Labels.{times, same_label, multiset}
use Rattle.rules.specs.Table.{decode_action, action_node}
use Rattle.rules.specs.Actions.{action_of, action_to, action_tree, matches}

-- {7, 8}, {8, 7}, {7}
labels : List ℕ
labels = 3 ∷ 5 ∷ 0 ∷ 0 ∷ 1 ∷ 1 ∷ 2 ∷ 7 ∷ 8 ∷ 8 ∷ 7 ∷ 7 ∷ []

-- not {8, 7}; {8, 7} or {7}; {7} and {7}
actions : List ℕ
actions = 8 ∷ 5 ∷ 2 ∷ 3 ∷ 2 ∷ 2 ∷ 4 ∷ 2 ∷ 2 ∷ 0 ∷ 1 ∷ 4 ∷ 1 ∷ 2 ∷ 7 ∷ 2 ∷ 2 ∷ []

decided : (node : ℕ) → List Bool
decided node = map (λ l. matches (multiset labels l) (action_tree labels actions node)) (from 0 3)

decisions : (decided 0 ≡ false ∷ false ∷ true ∷ []) × (decided 2 ≡ true ∷ true ∷ true ∷ []) × (decided 5 ≡ false ∷ false ∷ true ∷ [])
unfolding labels actions decided from tally every seek times same_label multiset decode_action action_node action_of action_to action_tree matches
decisions = (refl, refl, refl)
