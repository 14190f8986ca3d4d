-- The reading of equation i for t is the largest of what the chains from i count: no chain counts more, and some chain
-- counts as much. Assumes nothing.
use mathlib.Core.Path.{◌≡◌, refl, sym, ap, ◌∙◌}
use mathlib.Core.Logic.{◌⊎◌, inl, inr}
use mathlib.Core.Bool.{Bool, true, false}
use mathlib.Core.List.{List, [], ◌∷◌, map}
use Prim.Native.Nat.{ℕ, zero, suc, ◌+◌, ◌-◌, ◌≤◌, ◌<◌}
use native.Mathlib.Decide.{dec_lt, ℕ_discrete}
use native.Mathlib.Omega.{arith}
use lib.Dec.{eqb}
use Rattle.rules.specs.Lists.{largest, In, has, one}
use Rattle.rules.specs.Words.{Input}
use Rattle.rules.specs.Formula.{equation_count, equation_of}
use Rattle.rules.specs.Depth.{alternates, contribution, reading}
use Rattle.tables.specs.Good.{GoodFormula}
use Rattle.lists.proofs.Equalities.{number_equality}
use Rattle.lists.proofs.Members.{has_in, in_has}
use Rattle.trees.specs.Chains.{referred, Chain, last_of, changes, worth}
use Rattle.trees.proofs.Largest.{largest_bounds, largest_attained}
use Rattle.trees.proofs.References.{body_references_below}
use Rattle.trees.proofs.Readings.{contribution_target, contribution_later, contribution_other, reading_equation}

module _ (m : ℕ) (x : Input) (good : GoodFormula m x.formula) (t : ℕ) where
  -- what a reference in the body of i counts
  abbrev counted : ℕ → ℕ → ℕ
  counted i j = contribution x.formula t i j (reading x t j)

  reading-largest : (i : ℕ) → i < equation_count x.formula → reading x t i ≡ largest (map (counted i) (referred x i))
  unfolding referred
  reading-largest i h = reading_equation m x good t i h

  referred_inside : (i j : ℕ) → i < equation_count x.formula → In j (referred x i) → j < equation_count x.formula
  unfolding referred
  referred_inside i j h r = body_references_below m x good j i h r

  counted_most : (i j : ℕ) → i < equation_count x.formula → In j (referred x i) → counted i j ≤ reading x t i
  counted_most i j h r = let b : counted i j ≤ largest (map (counted i) (referred x i)) = largest_bounds (counted i) j (referred x i) r in omega (arith, reading-largest i h)

  -- a body that refers to t counts at least 1
  refers_most : (i : ℕ) → i < equation_count x.formula → one (has eqb t (referred x i)) ≤ reading x t i
  refers_most i h = go (has eqb t (referred x i)) refl
    where
      go : (b : Bool) → has eqb t (referred x i) ≡ b → one b ≤ reading x t i
      go true e = omega (arith, counted_most i t h (has_in number_equality t (referred x i) e), contribution_target x.formula t i t (reading x t t) refl)
      go false e = omega arith

  -- one reference in front of a chain
  worth_more : (i j : ℕ) (js : List ℕ) → worth x t i (j ∷ js) ≡ alternates (equation_of x.formula i).operator (equation_of x.formula j).operator + worth x t j js
  unfolding worth changes last_of
  worth_more i j js = omega arith

  worth_none : (i : ℕ) → worth x t i [] ≡ one (has eqb t (referred x i))
  unfolding worth changes last_of
  worth_none i = omega arith

  -- no chain counts more than the reading
  pub chain_most : (i : ℕ) (js : List ℕ) → i < equation_count x.formula → Chain x t i js → worth x t i js ≤ reading x t i
  chain_most i [] h c = omega (arith, worth_none i, refers_most i h)
  chain_most i (j ∷ js) h c =
      let (r, l, d, rest) = c in
      omega (arith, worth_more i j js, chain_most j js (referred_inside i j h r) rest, counted_most i j h r, contribution_later x.formula t i j (reading x t j) d l)

  abbrev Attained : ℕ → Type 0
  Attained i = (js : List ℕ) × Chain x t i js × (worth x t i js ≡ reading x t i)

  -- a reading of 0 is attained by the chain that ends at once
  none_attained : (i : ℕ) → i < equation_count x.formula → reading x t i ≡ 0 → Attained i
  none_attained i h z = ([], tt, omega (arith, worth_none i, refers_most i h))

  attained : (n i : ℕ) → i < equation_count x.formula → equation_count x.formula - i ≤ n → Attained i
  attained zero i h b = absurd (omega arith)
  attained (suc n) i h b = go (λ j p q. attained n j p (omega arith)) (largest_attained (counted i) (referred x i))
    where
      taken : (j : ℕ) → In j (referred x i) → reading x t i ≡ counted i j → ((p : j < equation_count x.formula) → i < j → Attained j)
          → Dec (j ≡ t) → Dec (i < j) → Attained i
      taken j r e later (yes s) l =
          let one-there : has eqb t (referred x i) ≡ true = ap (λ (k : ℕ). has eqb k (referred x i)) (sym s) ∙ in_has number_equality j (referred x i) r in
          let w : worth x t i [] ≡ 1 = worth_none i ∙ ap one one-there in
          ([], tt, omega (arith, contribution_target x.formula t i j (reading x t j) s))
      taken j r e later (no d) (yes l) =
          let (js, c, w) = later (referred_inside i j h r) l in
          (j ∷ js, (r, l, d, c), omega (arith, worth_more i j js, contribution_later x.formula t i j (reading x t j) d l))
      taken j r e later (no d) (no l) = none_attained i h (omega (arith, contribution_other x.formula t i j (reading x t j) d (omega arith)))

      go : ((j : ℕ) → j < equation_count x.formula → i < j → Attained j)
          → (largest (map (counted i) (referred x i)) ≡ 0) ⊎ ((j : ℕ) × In j (referred x i) × (largest (map (counted i) (referred x i)) ≡ counted i j))
          → Attained i
      go later (inl z) = none_attained i h (reading-largest i h ∙ z)
      go later (inr (j, r, e)) = taken j r (reading-largest i h ∙ e) (later j) (ℕ_discrete j t) (dec_lt i j)

  -- some chain counts as much
  pub chain_attained : (i : ℕ) → i < equation_count x.formula → (js : List ℕ) × Chain x t i js × (worth x t i js ≡ reading x t i)
  chain_attained i h = attained (equation_count x.formula) i h (omega arith)
