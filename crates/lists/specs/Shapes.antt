-- Tests that are equality, and shapes of lists that the laws speak of. Assumes nothing: these are definitions.
use Rattle.std.specs.Prelude.{◌≡◌, Bool, true, List, [], ◌∷◌, ◌++◌, map, ℕ, ◌<◌}
use Rattle.rules.specs.Lists.{position}

-- the test of two elements tells whether they are equal
pub record Equality {A : Type 0} (same : A → A → Bool) : Type 0 where
  pub sound : (a b : A) → same a b ≡ true → a ≡ b
  pub self : (a : A) → same a a ≡ true

-- each number is below the one before it, and the first is below n
abbrev pub Falling : ℕ → List ℕ → Type 0
Falling n [] = Unit {0}
Falling n (x ∷ xs) = (x < n) × Falling x xs

-- the list `long` begins with the list `short`
abbrev pub Begins : {A : Type 0} → List A → List A → Type 0
Begins {A = A} short long = (rest : List A) × (long ≡ short ++ rest)

-- the places of the elements ts
unfoldable pub positions : {A : Type 0} → (A → A → Bool) → List A → List A → List ℕ
positions same xs ts = map (λ t. position same t xs) ts
