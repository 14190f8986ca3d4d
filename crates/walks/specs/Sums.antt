-- Which vertices of a walk are settled, how many they are, and sums over them. Assumes nothing: these are definitions.
use Rattle.std.specs.Prelude.{cond, List, ℕ, zero, suc, ◌+◌, ◌-◌, ◌<◌, length, get_or, eqb}
use Rattle.rules.specs.Lists.{In, has}
use Rattle.rules.specs.Walk.{Stand}

-- where a walk with these known elements and these waiting vertices stands
abbrev pub stand_with : {A : Type 0} → List A → List ℕ → Stand A
stand_with known waiting = record { known = known; waiting = waiting }

-- how many vertices are settled
unfoldable pub settled : {A : Type 0} → Stand A → ℕ
settled st = length st.known - length st.waiting

-- vertex v is settled
abbrev pub Settled : {A : Type 0} → Stand A → ℕ → Type 0
Settled st v = (v < length st.known) × (¬ In v st.waiting)

-- The weights of the settled vertices below n, summed. A weight is a function of the element; `root` is only the
-- default of a place past the end
unfoldable pub sum_below : {A : Type 0} → (weight : A → ℕ) → (root : A) → Stand A → ℕ → ℕ
sum_below weight root st zero = 0
sum_below weight root st (suc v) = cond (has eqb v st.waiting) 0 (weight (get_or st.known v root)) + sum_below weight root st v

-- the weights of all settled vertices, summed
unfoldable pub sum_settled : {A : Type 0} → (weight : A → ℕ) → (root : A) → Stand A → ℕ
sum_settled weight root st = sum_below weight root st (length st.known)
