-- A region of pairs that is claimed for Even, with its reasons: what an accepted verdict on a game's words says of the
-- pairs that its vertices stand for. Assumes nothing.
use mathlib.Core.Path.{◌≡◌, refl, sym, subst}
use mathlib.Core.Bool.{Bool, true, false}
use mathlib.Core.List.{List, [], ◌∷◌}
use mathlib.Core.Logic.{inl, inr}
use Prim.Native.Nat.{ℕ, ◌≤◌, ◌<◌}
use Rattle.player.specs.declared.Player.{Player}
use Rattle.player.specs.declared.Player.TheVariants.{Even, Odd}
use Rattle.rules.specs.Lists.{In}
use Rattle.rules.specs.Words.{Input}
use Rattle.rules.specs.Depth.{Ranking}
use Rattle.rules.specs.Pairs.{Pair, owner, priority, targets}
use Rattle.satisfaction.specs.Ranks.{is_even}

-- which edges, by the priorities at their ends, the number for n is asked of: those between priorities at most n; or
-- all, but those from an even priority above n
abbrev pub BothBelow : (n from to : ℕ) → Type 0
BothBelow n a b = (a ≤ n) × (b ≤ n)

abbrev pub EvenBelow : (n from to : ℕ) → Type 0
EvenBelow n a b = is_even a ≡ true → a ≤ n

-- region: is the pair claimed; number: for a priority and a pair
module _ (rank : Ranking) (x : Input) (region : Pair → Bool) (number : ℕ → Pair → ℕ) (Asked : (n from to : ℕ) → Type 0) where
  -- q is claimed too, and for each odd priority the numbers do as asked
  pub record Goes (p q : Pair) : Type 0 where
    pub claimed : region q ≡ true
    pub falls : (n : ℕ) → is_even n ≡ false → Asked n (priority rank x p) (priority rank x q) → (number n q ≤ number n p) × (priority rank x p ≡ n → number n q < number n p)

  pub record Region : Type 0 where
    pub even : (p : Pair) → region p ≡ true → owner x p ≡ Even → (q : Pair) × In q (targets x p) × Goes p q
    pub odd : (p q : Pair) → region p ≡ true → owner x p ≡ Odd → In q (targets x p) → Goes p q

  -- where there is one target only, it does not matter who owns the pair
  pub goes_only : Region → (p q : Pair) → region p ≡ true → targets x p ≡ q ∷ [] → Goes p q
  goes_only r p q h e = go (owner x p) refl
    where
      only : (z : Pair) × In z (targets x p) × Goes p z → (z : Pair) × In z (q ∷ []) × Goes p z
      only (z, m, g) = (z, subst (λ (l : List Pair). In z l) e m, g)

      that : (z : Pair) × In z (q ∷ []) × Goes p z → Goes p q
      that (z, inl i, g) = subst (λ (y : Pair). Goes p y) i g
      that (z, inr m, g) = absurd m

      go : (o : Player) → owner x p ≡ o → Goes p q
      go Even o = that (only (r.even p h o))
      go Odd o = r.odd p q h o (subst (λ (l : List Pair). In q l) (sym e) (inl refl))
