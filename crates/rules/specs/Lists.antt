-- Lists: what the other modules say of them. An element type comes with a test `same` of two elements, which the
-- theorems take to be equality. Assumes nothing: these are definitions.
-- A definition that calls itself behind a test binds that call by `let`: antt then computes it only where the test
-- chooses it.
use Rattle.std.specs.Prelude.{◌≡◌, Bool, true, false, cond, ◌&&◌, ◌||◌, List, [], ◌∷◌, ◌++◌, ◌⊎◌, ℕ, zero, suc, ◌+◌, max, get_or, length, replicate}

-- word i, and 0 past the end
abbrev pub word : List ℕ → ℕ → ℕ
word ws i = get_or ws i 0

-- n numbers: i, i + 1, ..
unfoldable pub from : ℕ → ℕ → List ℕ
from i zero = []
from i (suc n) = i ∷ from (suc i) n

unfoldable pub sum : List ℕ → ℕ
sum [] = 0
sum (x ∷ xs) = x + sum xs

-- the largest, and 0 if there is none
unfoldable pub largest : List ℕ → ℕ
largest [] = 0
largest (x ∷ xs) = max x (largest xs)

-- as many zeros
unfoldable pub zeros : List ℕ → List ℕ
zeros ws = replicate (length ws) 0

-- ---- the positions p, p + 1, .. (n of them) at which a test holds

-- 1 if it holds
abbrev pub one : Bool → ℕ
one true = 1
one false = 0

-- at how many of them
unfoldable pub tally : (ℕ → Bool) → ℕ → ℕ → ℕ
tally f p zero = 0
tally f p (suc n) = tally f p n + one (f (p + n))

-- at each of them
unfoldable pub every : (ℕ → Bool) → ℕ → ℕ → Bool
every f p zero = true
every f p (suc n) = every f p n && f (p + n)

-- the first of them, or the position after them if there is none
unfoldable pub seek : (ℕ → Bool) → ℕ → ℕ → ℕ
seek f p zero = p
seek f p (suc n) = let later = seek f (suc p) n in cond (f p) p later

-- the sum of the n words from p on
unfoldable pub sum_words : List ℕ → ℕ → ℕ → ℕ
sum_words ws p zero = 0
sum_words ws p (suc n) = sum_words ws p n + word ws (p + n)

-- the elements for which a test holds, in order
unfoldable pub filter : {A : Type 0} → (A → Bool) → List A → List A
filter f [] = []
filter f (x ∷ xs) = let rest = filter f xs in cond (f x) (x ∷ rest) rest

-- ---- membership

abbrev pub In : {A : Type 0} → A → List A → Type 0
In a [] = ⊥
In a (b ∷ bs) = (a ≡ b) ⊎ In a bs

-- no two elements are alike
abbrev pub Distinct : {A : Type 0} → List A → Type 0
Distinct [] = Unit {0}
Distinct (a ∷ bs) = (¬ In a bs) × Distinct bs

module _ {A : Type 0} (same : A → A → Bool) where
  -- a stands in the list
  unfoldable pub has : A → List A → Bool
  has a [] = false
  has a (b ∷ bs) = same a b || has a bs

  -- how often a stands in the list
  unfoldable pub occurrences : A → List A → ℕ
  occurrences a [] = 0
  occurrences a (b ∷ bs) = occurrences a bs + one (same b a)

  -- the position of a, and the length where it has none
  unfoldable pub position : A → List A → ℕ
  position a [] = 0
  position a (b ∷ bs) = let later = suc (position a bs) in cond (same a b) 0 later

  -- the list with x at its end, unless it has it already
  unfoldable pub insert : List A → A → List A
  insert xs x = cond (has x xs) xs (xs ++ (x ∷ []))

  -- the list with each of ys inserted in order: "numbers from 0 in order of insertion"
  unfoldable pub insert_all : List A → List A → List A
  insert_all xs [] = xs
  insert_all xs (y ∷ ys) = insert_all (insert xs y) ys

  -- each element once, where it first stands
  unfoldable pub once : List A → List A
  once ys = insert_all [] ys
