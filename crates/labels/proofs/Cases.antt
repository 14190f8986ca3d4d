-- The multisets of six small labels, by computation. Assumes nothing.
use mathlib.Core.Path.{◌≡◌, refl}
use mathlib.Core.List.{List, [], ◌∷◌, map}
use Prim.Native.Nat.{ℕ}
use Rattle.rules.specs.Lists.{from, tally, every, seek}
use Rattle.rules.specs.Labels.{times, same_label, multiset}

-- {7}, {7, 8}, {8, 7}, {7, 7}, {}, {7}
six : List ℕ
six = 6 ∷ 8 ∷ 0 ∷ 1 ∷ 1 ∷ 2 ∷ 2 ∷ 3 ∷ 3 ∷ 5 ∷ 7 ∷ 7 ∷ 8 ∷ 8 ∷ 7 ∷ 7 ∷ 7 ∷ 7 ∷ []

multisets_6 : map (multiset six) (from 0 6) ≡ 0 ∷ 1 ∷ 1 ∷ 3 ∷ 4 ∷ 0 ∷ []
unfolding six from tally every seek times same_label multiset
multisets_6 = refl
