-- The fixpoints around a subformula, each with the set of states that stands for it and the bounds that pairs inside
-- its body meet. Assumes nothing.
use mathlib.Core.Path.{◌≡◌, refl, sym, subst}
use mathlib.Core.Bool.{Bool, true, false}
use mathlib.Core.List.{List, [], ◌∷◌, map}
use Prim.Native.Nat.{ℕ, zero, suc, ◌≤◌, ◌<◌}
use native.Mathlib.Omega.{arith}
use lib.ListN.{length, get_or}
use Rattle.rules.specs.Words.{Input}
use Rattle.rules.specs.System.{state_count}
use Rattle.rules.specs.Formula.{equation_number}
use Rattle.rules.specs.Depth.{Ranking}
use Rattle.rules.specs.Pairs.{Pair, priority}
use Rattle.meaning.specs.Satisfies.{StateSet, nowhere}
use Rattle.satisfaction.specs.Ranks.{is_even}
use Rattle.satisfaction.proofs.Regions.{EvenBelow, Goes}

-- node: of the fixpoint; set: the states that stand for it; meets: the pair meets the bounds of this fixpoint and of
-- those around it
pub record Layer : Type 0 where
  pub node : ℕ
  pub set : StateSet
  pub meets : Pair → Bool

abbrev pub nodes : List Layer → List ℕ
nodes ls = map (λ (l : Layer). l.node) ls

abbrev pub sets : List Layer → List StateSet
sets ls = map (λ (l : Layer). l.set) ls

-- the bounds of the innermost, and none outside of all
unfoldable pub meets_all : List Layer → Pair → Bool
meets_all [] p = true
meets_all (l ∷ ls) p = l.meets p

module _ (rank : Ranking) (x : Input) (region : Pair → Bool) (number : ℕ → Pair → ℕ) where
  -- the priority of the layer's equation
  abbrev pub top : Layer → ℕ
  top l = rank x (equation_number x.formula l.node)

  -- n may stand inside these fixpoints: if it is even, it is not above any least one
  abbrev pub Inner : List Layer → ℕ → Type 0
  Inner [] n = Unit {0}
  Inner (l ∷ ls) n = (is_even (top l) ≡ false → is_even n ≡ true → n ≤ top l) × Inner ls n

  -- from a pair whose priority may stand inside, the bounds stay met
  abbrev pub Keeps : List Layer → (Pair → Bool) → Type 0
  Keeps ls meets = (p q : Pair) → Goes rank x region number EvenBelow p q → Inner ls (priority rank x p) → meets p ≡ true → meets q ≡ true

  -- the states of the fixpoint's claimed pairs within the bounds are in its set
  abbrev pub Covers : Layer → Type 0
  Covers l =
      (s : ℕ) → s < state_count x.system → region (s, equation_number x.formula l.node) ≡ true → l.meets (s, equation_number x.formula l.node) ≡ true → l.set s ≡ true

  abbrev pub Layered : List Layer → Type 0
  Layered [] = Unit {0}
  Layered (l ∷ ls) = ((p : Pair) → l.meets p ≡ true → meets_all ls p ≡ true) × Keeps (l ∷ ls) l.meets × Covers l × Layered ls

  pub inner_zero : (ls : List Layer) → Inner ls 0
  inner_zero [] = tt
  inner_zero (l ∷ ls) = (λ o e. omega arith, inner_zero ls)

  pub layers_keep : (ls : List Layer) → Layered ls → Keeps ls (meets_all ls)
  unfolding meets_all
  layers_keep [] h p q g i m = refl
  layers_keep (l ∷ ls) h p q g i m = h.1 p q g i m

  pub inner_plain : (ls : List Layer) (p : Pair) → priority rank x p ≡ 0 → Inner ls (priority rank x p)
  inner_plain ls p z = subst (Inner ls) (sym z) (inner_zero ls)

  -- what holds of the layer at place i, and of a pair within all bounds
  pub record LayerAt (ls : List Layer) (i : ℕ) (p : Pair) : Type 0 where
    pub layer : Layer
    pub named : get_or (nodes ls) i 0 ≡ layer.node
    pub stands : get_or (sets ls) i nowhere ≡ layer.set
    pub keeps : (q : Pair) → Goes rank x region number EvenBelow p q → priority rank x p ≡ 0 → layer.meets q ≡ true
    pub covers : Covers layer

  pub layer_at : (ls : List Layer) (i : ℕ) (p : Pair) → i < length (nodes ls) → Layered ls → meets_all ls p ≡ true → LayerAt ls i p
  unfolding meets_all
  layer_at [] i p l h m = absurd (omega arith)
  layer_at (a ∷ ls) zero p l h m = record { layer = a; named = refl; stands = refl; keeps = λ q g z. h.1 p q g (inner_plain (a ∷ ls) p z) m; covers = h.2 }
  layer_at (a ∷ ls) (suc i) p l h m =
      let r = layer_at ls i p (omega arith) h.3 (h.0 p m) in
      record { layer = r.layer; named = r.named; stands = r.stands; keeps = r.keeps; covers = r.covers }
