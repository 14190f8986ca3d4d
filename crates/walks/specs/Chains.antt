-- Chains of at most k targets. Assumes nothing: these are definitions.
use Rattle.std.specs.Prelude.{List, ℕ, suc}
use Rattle.rules.specs.Lists.{In}

module _ {A : Type 0} (next : A → List A) (root : A) where
  -- a chain of at most k targets leads from the root to the element
  pub data ReachableIn : ℕ → A → Type 0 where
    none : {k : ℕ} → ReachableIn k root
    more : {k : ℕ} {p q : A} → ReachableIn k p → In q (next p) → ReachableIn (suc k) q
